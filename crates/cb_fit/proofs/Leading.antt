-- What variables have at one place of a pattern and at a later one, and the value of an expression at both.
use Rattle.std.proofs.Common.{◌≡◌, ◌∙◌, ◌||◌, ℕ, Bool, true, false, not, List, [], ◌∷◌, ◌++◌, Option, Some, None, Result, Ok, Err, ap, refl, sym, if◌then◌else◌}
use Rattle.std.proofs.lemmas.Bool.{and_parts, both_ways}
use Rattle.std.specs.Option.{ok_or, option_map_or, option_or}
use Rattle.cb_constraints.specs.Holding.{value_if_any}
use Rattle.cb_constraints.specs.Internal.Known.{given_to, given_to_all}
use Rattle.cb_eval.specs.Applied.{applied}
use Rattle.cb_eval.specs.Evaluation.{value_of, values_of}
use Rattle.cb_eval.specs.Logic.{decides, is_true}
use Rattle.cb_exprs.specs.Bindings.{Bindings, value_at, with_variable}
use Rattle.cb_exprs.specs.Terms.{Term, constant, variable, global, call, effect, choose, repeat, actions, Terms, no_terms, term}
use Rattle.cb_facts.specs.Results.{and_then}
use Rattle.cb_facts.specs.declared.value.Value.{Value}
use Rattle.cb_fit.proofs.Compared.{AreOwn}
use Rattle.cb_fit.proofs.Given.{after_several, if_so, others_keep}
use Rattle.cb_fit.proofs.Members.{named_append}
use Rattle.cb_fit.specs.Decided.{is_met}
use Rattle.cb_fit.specs.Plain.{is_named}
use Rattle.cb_fit.specs.Settled.{are_settled, is_settled}
use Rattle.cb_forms.specs.declared.fault.Fault.{Fault}
use Rattle.cb_forms.specs.declared.fault.Fault.TheVariants.{UnboundVariable, UnknownGlobal}
use Rattle.cb_words.specs.declared.words.Function.{Function}

-- what follows a result is the same where what follows each value is
then_same : {X Y : Type 0} (r : Result X Fault) (g h : X → Result Y Fault) → ((x : X) → g x ≡ h x) → and_then r g ≡ and_then r h
then_same (Ok x) g h same = same x
then_same (Err f) g h same = refl

-- an expression has the same value where all that are settled have
module _ (names before own : List (List ℕ)) (env out : Bindings) (globals : env.globals ≡ out.globals)
    (same : (x : List ℕ) → (is_named x own || is_named x before) || not (is_named x names) ≡ true → value_at x env.variables ≡ value_at x out.variables) where
  mutual
    value_same : (t : Term) → is_settled names before own t ≡ true → value_of t env ≡ value_of t out
    value_same (constant v) e = refl
    value_same (variable x) e = ap (λ o. ok_or o UnboundVariable) (same x e)
    value_same (global x) e = ap (λ vs. ok_or (value_at x vs) UnknownGlobal) globals
    value_same (call f ts) e = ap (λ r. and_then r (applied f)) (values_same f [] ts e)
    value_same (effect d ts) e = refl
    value_same (choose t u w) e = refl
    value_same (repeat t u) e = refl
    value_same (actions ts) e = refl

    values_same : (f : Function) (vs : List Value) (ts : Terms) → are_settled names before own ts ≡ true → values_of f vs ts env ≡ values_of f vs ts out
    values_same f vs no_terms e = refl
    values_same f vs (term t ts) e =
        let both = and_parts (is_settled names before own t) (are_settled names before own ts) e in
        ap (λ r. and_then r (λ v. if decides f v then Ok (vs ++ v ∷ []) else values_of f (vs ++ v ∷ []) ts env)) (value_same t both.0)
        ∙ then_same (value_of t out) (λ v. if decides f v then Ok (vs ++ v ∷ []) else values_of f (vs ++ v ∷ []) ts env)
        (λ v. if decides f v then Ok (vs ++ v ∷ []) else values_of f (vs ++ v ∷ []) ts out)
        (λ v. ap (λ r. if decides f v then Ok (vs ++ v ∷ []) else r) (values_same f (vs ++ v ∷ []) ts both.1))

-- names are among others
abbrev pub AreWithin : List (List ℕ) → List (List ℕ) → Type 0
AreWithin xs names = (y : List ℕ) → is_named y xs ≡ true → is_named y names ≡ true

pub away : (names xs : List (List ℕ)) (y : List ℕ) → AreWithin xs names → is_named y names ≡ false → is_named y xs ≡ false
away names xs y within e = by (is_named y xs) refl
  where
    by : (b : Bool) → is_named y xs ≡ b → b ≡ false
    by false is = refl
    by true is = absurd (both_ways (is_named y names) e (within y is))

-- from the one to the other variables keep their values, those with other names what they have, and globals theirs
pub record Leads (names : List (List ℕ)) (env out : Bindings) : Type 0 where
  pub keeps : (x : List ℕ) (w : Value) → value_at x env.variables ≡ Some w → value_at x out.variables ≡ Some w
  pub others : (x : List ℕ) → is_named x names ≡ false → value_at x out.variables ≡ value_at x env.variables
  pub globals : out.globals ≡ env.globals

pub leads_nowhere : (names : List (List ℕ)) (env : Bindings) → Leads names env env
leads_nowhere names env = record { keeps = λ x w e. e; others = λ x e. refl; globals = refl }

pub leads_on : (names : List (List ℕ)) (env mid out : Bindings) → Leads names env mid → Leads names mid out → Leads names env out
leads_on names env mid out h i = record {
  keeps = λ x w e. i.keeps x w (h.keeps x w e);
  others = λ x e. i.others x e ∙ h.others x e;
  globals = i.globals ∙ h.globals;
}

pub given_leads : (names xs : List (List ℕ)) (v : Value) (env : Bindings) → AreWithin xs names → Leads names env (given_to_all xs v env)
given_leads names xs v env within = record {
  keeps = λ x w e. after_several x xs v env ∙ ap (λ o. option_or o (if_so (is_named x xs) v)) e;
  others = λ x e. others_keep x xs v env (away names xs x within e);
  globals = same_globals xs env;
}
  where
    one : (x : List ℕ) (now : Bindings) (o : Option Value) → (option_map_or (λ w. now) o (with_variable x v now)).globals ≡ now.globals
    one x now None = refl
    one x now (Some w) = refl

    same_globals : (ys : List (List ℕ)) (now : Bindings) → (given_to_all ys v now).globals ≡ now.globals
    same_globals [] now = refl
    same_globals (y ∷ ys) now = same_globals ys (given_to y v now) ∙ one y now (value_at y now.variables)

-- these variables have values
abbrev pub HaveValues : List (List ℕ) → Bindings → Type 0
HaveValues names env = (x : List ℕ) → is_named x names ≡ true → (w : Value) × (value_at x env.variables ≡ Some w)

pub none_have : (env : Bindings) → HaveValues [] env
none_have env x i = absurd (cc)

pub still_have : (names xs : List (List ℕ)) (env out : Bindings) → Leads names env out → HaveValues xs env → HaveValues xs out
still_have names xs env out leads have x i = let it = have x i in (it.0, leads.keeps x it.0 it.1)

-- and so have those that are given one
pub given_have : (xs ys : List (List ℕ)) (v : Value) (env : Bindings) → HaveValues xs env → HaveValues (xs ++ ys) (given_to_all ys v env)
given_have xs ys v env have x i = by (is_named x xs) (is_named x ys) refl refl (sym (named_append x xs ys) ∙ i)
  where
    either : (o : Option Value) → (w : Value) × (option_or o (Some v) ≡ Some w)
    either None = (v, refl)
    either (Some u) = (u, refl)

    by : (a b : Bool) → is_named x xs ≡ a → is_named x ys ≡ b → a || b ≡ true → (w : Value) × (value_at x (given_to_all ys v env).variables ≡ Some w)
    by true b is at e = let it = have x is in (it.0, after_several x ys v env ∙ ap (λ o. option_or o (if_so (is_named x ys) v)) it.1)
    by false true is at e =
        let it = either (value_at x env.variables) in
        (it.0, after_several x ys v env ∙ (ap (λ c. option_or (value_at x env.variables) (if_so c v)) at ∙ it.1))
    by false false is at e = absurd (cc)

-- a condition that is settled is met at its place where it is behind the pattern
pub settled_met : (names before own : List (List ℕ)) (t : Term) (v : Value) (env out : Bindings) → is_settled names before own t ≡ true → AreOwn own v env → HaveValues before env → Leads names env out
    → is_met env t ≡ is_met out t
settled_met names before own t v env out settled has have leads =
    ap (λ r. option_map_or is_true (value_if_any r) false) (value_same names before own env out (sym leads.globals) same t settled)
  where
    same : (x : List ℕ) → (is_named x own || is_named x before) || not (is_named x names) ≡ true → value_at x env.variables ≡ value_at x out.variables
    same x e = by (is_named x own) (is_named x before) (is_named x names) refl refl refl e
      where
        by : (a b c : Bool) → is_named x own ≡ a → is_named x before ≡ b → is_named x names ≡ c → (a || b) || not c ≡ true → value_at x env.variables ≡ value_at x out.variables
        by true b c is at there d = has x is ∙ sym (leads.keeps x v (has x is))
        by false true c is at there d = let it = have x at in it.1 ∙ sym (leads.keeps x it.0 it.1)
        by false false false is at there d = sym (leads.others x there)
        by false false true is at there d = absurd (cc)
