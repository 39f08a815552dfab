-- Arguments that are left out after one that decides change no value.
use Rattle.std.proofs.Common.{◌≡◌, ◌∙◌, ◌++◌, ◌&&◌, ◌||◌, not, Bool, true, false, cond, List, [], ◌∷◌, Result, Ok, Err, length, refl, sym, ap, ap₂, arith, append_assoc, if◌then◌else◌}
use Rattle.std.proofs.lemmas.Bool.Decides.{nat_tests}
use Rattle.std.proofs.lemmas.List.{append-nil}
use Rattle.std.specs.List.{list_all, list_any}
use Rattle.cb_eval.specs.Applied.{applied}
use Rattle.cb_eval.specs.Constants.{truth}
use Rattle.cb_eval.specs.Evaluation.{value_of, values_of}
use Rattle.cb_eval.specs.Laws.{all_values}
use Rattle.cb_eval.specs.Logic.{decides, is_true}
use Rattle.cb_exprs.specs.Bindings.{Bindings}
use Rattle.cb_exprs.specs.Terms.{Term, Terms, no_terms, term}
use Rattle.cb_facts.specs.Results.{and_then, with_first}
use Rattle.cb_facts.specs.declared.value.Value.{Value}
use Rattle.cb_forms.specs.declared.fault.Fault.{Fault}
use Rattle.cb_forms.specs.declared.fault.Fault.TheVariants.{WrongType}
use Rattle.cb_words.specs.Words.{takes}
use Rattle.cb_words.specs.declared.words.Arity.TheVariants.{AtLeast}
use Rattle.cb_words.specs.declared.words.Function.{Function}
use Rattle.cb_words.specs.declared.words.Function.TheVariants as function

or_true : (t : Bool) → (t || true) ≡ true
or_true true = refl
or_true false = refl

and_false : (t : Bool) → (t && false) ≡ false
and_false true = refl
and_false false = refl

any_true : (before after : List Value) (v : Value) → is_true v ≡ true → list_any is_true (before ++ v ∷ after) ≡ true
any_true [] after v e = ap (λ t. t || list_any is_true after) e
any_true (w ∷ before) after v e = ap (λ t. is_true w || t) (any_true before after v e) ∙ or_true (is_true w)

not_all_true : (before after : List Value) (v : Value) → is_true v ≡ false → list_all is_true (before ++ v ∷ after) ≡ false
not_all_true [] after v e = ap (λ t. t && list_all is_true after) e
not_all_true (w ∷ before) after v e = ap (λ t. is_true w && t) (not_all_true before after v e) ∙ and_false (is_true w)

pub are_taken : (before after : List Value) (v : Value) → takes (AtLeast 1) (length (before ++ v ∷ after)) ≡ true
are_taken [] after v = grind (arith, nat_tests)
are_taken (w ∷ before) after v = grind (arith, nat_tests)

negated : (t : Bool) → not t ≡ true → t ≡ false
negated true e = let never : false ≡ true = e in cc
negated false e = refl

-- a call is the same whatever values stand after one that decides it
decided : (f : Function) (before after : List Value) (v : Value) → decides f v ≡ true → applied f (before ++ v ∷ []) ≡ applied f (before ++ v ∷ after)
decided function.And before after v e =
    ap₂ (λ (t u : Bool). if t then Ok (truth u) else Err WrongType) (are_taken before [] v ∙ sym (are_taken before after v))
    (not_all_true before [] v (negated (is_true v) e) ∙ sym (not_all_true before after v (negated (is_true v) e)))
decided function.Or before after v e =
    ap₂ (λ (t u : Bool). if t then Ok (truth u) else Err WrongType) (are_taken before [] v ∙ sym (are_taken before after v))
    (any_true before [] v e ∙ sym (any_true before after v e))
decided f before after v e = let never : false ≡ true = e in cc

record Parts (first : Result Value Fault) (others : Result (List Value) Fault) (vs : List Value) : Type 0 where
  v : Value
  ws : List Value
  first_is : first ≡ Ok v
  others_are : others ≡ Ok ws
  all_are : v ∷ ws ≡ vs

parts : (first : Result Value Fault) (others : Result (List Value) Fault) (vs : List Value) → with_first first others ≡ Ok vs → Parts first others vs
parts (Ok v) (Ok ws) vs e = record { v = v; ws = ws; first_is = refl; others_are = refl; all_are = (cc) }
parts (Ok v) (Err f) vs e = absurd (cc)
parts (Err f) others vs e = absurd (cc)

chosen : (f : Function) (us : List Value) (v : Value) (ws : List Value) (t : Bool) (go_on : Result (List Value) Fault) → decides f v ≡ t
    → (t ≡ false → and_then go_on (applied f) ≡ applied f (us ++ v ∷ ws)) → and_then (cond t (Ok (us ++ v ∷ [])) go_on) (applied f) ≡ applied f (us ++ v ∷ ws)
chosen f us v ws true go_on e next = decided f us ws v e
chosen f us v ws false go_on e next = next refl

evaluated : (f : Function) (us : List Value) (ts : Terms) (env : Bindings) (vs : List Value) → all_values ts env ≡ Ok vs
    → and_then (values_of f us ts env) (applied f) ≡ applied f (us ++ vs)
evaluated f us no_terms env vs e = let none : vs ≡ [] = (cc) in rw none (ap (applied f) (sym (append-nil us)))
evaluated f us (term t ts) env vs e =
    let p = parts (value_of t env) (all_values ts env) vs e in
    ap (λ r. and_then (and_then r (λ v. cond (decides f v) (Ok (us ++ v ∷ [])) (values_of f (us ++ v ∷ []) ts env))) (applied f)) p.first_is
    ∙ chosen f us p.v p.ws (decides f p.v) (values_of f (us ++ p.v ∷ []) ts env) refl
    (λ _. evaluated f (us ++ p.v ∷ []) ts env p.ws p.others_are ∙ ap (applied f) (append_assoc us (p.v ∷ []) p.ws))
    ∙ ap (λ l. applied f (us ++ l)) p.all_are

pub what_is_left_out : (f : Function) (ts : Terms) (env : Bindings) (vs : List Value) → all_values ts env ≡ Ok vs → and_then (values_of f [] ts env) (applied f) ≡ applied f vs
what_is_left_out f ts env vs e = evaluated f [] ts env vs e

pub first_fault : (f : Function) (t : Term) (ts : Terms) (env : Bindings) (fault : Fault) → value_of t env ≡ Err fault → and_then (values_of f [] (term t ts) env) (applied f) ≡ Err fault
first_fault f t ts env fault e = ap (λ r. and_then (and_then r (λ v. cond (decides f v) (Ok (v ∷ [])) (values_of f (v ∷ []) ts env))) (applied f)) e
