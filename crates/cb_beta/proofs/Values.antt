-- What variables have by the values that they were given.
use Rattle.std.proofs.Common.{◌≡◌, ◌∙◌, ◌++◌, ℕ, Bool, true, false, cond, List, [], ◌∷◌, Option, Some, None, ap, refl, sym}
use Rattle.std.proofs.lemmas.Grind.{flat_map-append}
use Rattle.std.proofs.lemmas.List.{append-nil}
use Rattle.std.specs.List.{IsLastAndRest}
use Rattle.std.specs.Option.{option_or}
use Rattle.std.specs.Str.{bytes_eq}
use Rattle.cb_beta.specs.GivenValues.{values_taken}
use Rattle.cb_constraints.specs.Bound.{given_if}
use Rattle.cb_exprs.proofs.ValueLaws.{value_at-with_value}
use Rattle.cb_exprs.specs.Bindings.{Bindings, Values, no_bindings, value_at, with_variable, with_variables}
use Rattle.cb_facts.specs.Facts.{FactContent}
use Rattle.cb_facts.specs.declared.value.Value.{Value}
use Rattle.cb_fit.specs.Decided.{taken_by}
use Rattle.cb_fit.specs.JoinFields.{value_in}
use Rattle.cb_fit.specs.declared.join_fields.JoinField.{JoinField}

either : (t : Bool) (v : Value) (before : Option Value) → cond t (Some v) before ≡ option_or (cond t (Some v) None) before
either true v before = refl
either false v before = refl

pub three : (a b c : Option Value) → option_or a (option_or b c) ≡ option_or (option_or a b) c
three None b c = refl
three (Some v) b c = refl

-- by one value that is given over others
pub by_one : (q name : List ℕ) (v : Value) (env : Bindings) → value_at q (with_variable name v env).variables ≡ option_or (cond (bytes_eq q name) (Some v) None) (value_at q env.variables)
by_one q name v env = value_at-with_value env.variables q name v ∙ either (bytes_eq q name) v (value_at q env.variables)

-- by several
pub by_way : (q : List ℕ) (bound : Values) (env : Bindings)
    → value_at q (with_variables bound env).variables ≡ option_or (value_at q (with_variables bound no_bindings).variables) (value_at q env.variables)
by_way q [] env = refl
by_way q (e ∷ more) env =
    let rest = value_at q (with_variables more no_bindings).variables in
    let one = cond (bytes_eq q e.0) (Some e.1) None in
    by_way q more (with_variable e.0 e.1 env)
    ∙ (ap (option_or rest) (by_one q e.0 e.1 env)
    ∙ (three rest one (value_at q env.variables)
    ∙ ap (λ o. option_or o (value_at q env.variables)) (sym (by_way q more (with_variable e.0 e.1 no_bindings)))))

-- some values, and then others
pub both_given : (bound others : Values) (env : Bindings) → with_variables (bound ++ others) env ≡ with_variables others (with_variables bound env)
both_given [] others env = refl
both_given (e ∷ more) others env = both_given more others (with_variable e.0 e.1 env)

-- ---- the last of some values, and the others

by_last : (q : List ℕ) (bound others : Values) (e : List ℕ × Value) (t : Bool) → IsLastAndRest bound e others → bytes_eq q e.0 ≡ t
    → value_at q (with_variables bound no_bindings).variables ≡ cond t (Some e.1) (value_at q (with_variables others no_bindings).variables)
by_last q bound others e t is same =
    ap (λ it. value_at q (with_variables it no_bindings).variables) is.0
    ∙ (ap (λ (it : Bindings). value_at q it.variables) (both_given others (e ∷ []) no_bindings)
    ∙ (value_at-with_value (with_variables others no_bindings).variables q e.0 e.1
    ∙ ap (λ it. cond it (Some e.1) (value_at q (with_variables others no_bindings).variables)) same))

pub last_gives : (q : List ℕ) (bound others : Values) (e : List ℕ × Value) → IsLastAndRest bound e others → bytes_eq q e.0 ≡ true
    → Some e.1 ≡ value_at q (with_variables bound no_bindings).variables
last_gives q bound others e is here = sym (by_last q bound others e true is here)

pub others_give : (q : List ℕ) (bound others : Values) (e : List ℕ × Value) → IsLastAndRest bound e others → bytes_eq q e.0 ≡ false
    → value_at q (with_variables others no_bindings).variables ≡ value_at q (with_variables bound no_bindings).variables
others_give q bound others e is other = sym (by_last q bound others e false is other)

-- ---- fields of a fact that give values

one_given : (q x : List ℕ) (o : Option Value) (t : Bool) → bytes_eq q x ≡ t → value_at q (with_variables (given_if x None o) no_bindings).variables ≡ cond t o None
one_given q x None true e = refl
one_given q x None false e = refl
one_given q x (Some v) t e = by_one q x v no_bindings ∙ or_none (bytes_eq q x) t v e
  where
    or_none : (s t : Bool) (v : Value) → s ≡ t → option_or (cond s (Some v) None) None ≡ cond t (Some v) None
    or_none true t v e = ap (λ it. cond it (Some v) None) e
    or_none false t v e = ap (λ it. cond it (Some v) None) e

pub own_field : (q : List ℕ) (j : JoinField) (content : FactContent) → bytes_eq q j.variable ≡ true
    → value_in j content ≡ value_at q (with_variables (taken_by no_bindings content j) no_bindings).variables
own_field q j content e = sym (one_given q j.variable (value_in j content) true e)

pub other_field : (q : List ℕ) (j : JoinField) (content : FactContent) → bytes_eq q j.variable ≡ false
    → None ≡ value_at q (with_variables (taken_by no_bindings content j) no_bindings).variables
other_field q j content e = sym (one_given q j.variable (value_in j content) false e)

-- the last of them counts, and then the others
pub last_field : (q : List ℕ) (js others : List JoinField) (j : JoinField) (content : FactContent) (found : Option Value) → IsLastAndRest js j others
    → found ≡ value_at q (with_variables (taken_by no_bindings content j) no_bindings).variables
    → value_at q (with_variables (values_taken js content) no_bindings).variables ≡ option_or found (value_at q (with_variables (values_taken others content) no_bindings).variables)
last_field q js others j content found is gives =
    let one = taken_by no_bindings content j in
    let before = with_variables (values_taken others content) no_bindings in
    let parts : values_taken js content ≡ values_taken others content ++ one =
    ap (λ it. values_taken it content) is.0
    ∙ (flat_map-append (taken_by no_bindings content) others (j ∷ [])
    ∙ ap (λ it. values_taken others content ++ it) (append-nil one)) in
    ap (λ it. value_at q (with_variables it no_bindings).variables) parts
    ∙ (ap (λ (it : Bindings). value_at q it.variables) (both_given (values_taken others content) one no_bindings)
    ∙ (by_way q one before
    ∙ ap (λ o. option_or o (value_at q before.variables)) (sym gives)))

-- given one after another
pub next_field : (js : List JoinField) (j : JoinField) (content : FactContent) (env : Bindings)
    → with_variables (values_taken (j ∷ js) content) env ≡ with_variables (values_taken js content) (with_variables (taken_by no_bindings content j) env)
next_field js j content env = both_given (taken_by no_bindings content j) (values_taken js content) env
