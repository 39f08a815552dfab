-- The steps of a calculation from left to right.
use Rattle.std.proofs.Common.{◌≡◌, ℤ, ◌+◌, ◌<◌, ℕ, List, ◌∷◌, Result, Err, length, get_or, drop, map, sym, ap, ◌∙◌}
use Rattle.std.proofs.lemmas.List.{at_drop_more}
use Rattle.cb_eval.specs.Arithmetic.{Operator, with_others}
use Rattle.cb_eval.specs.Internal.{as_number}
use Rattle.cb_forms.specs.declared.fault.Fault.{Fault}
use Rattle.cb_facts.specs.Results.{Reports, and_then}
use Rattle.cb_facts.specs.declared.refused.Refused.{Refused}
use Rattle.cb_facts.specs.declared.refused.Refused.TheVariants as refused
use Rattle.cb_facts.specs.declared.value.Value.{Value}

-- where a step is refused, so is all that goes on from there
broken_off : (operator : Operator) (n m : ℤ) (ms : List ℤ) (all : Result ℤ Fault) (why : Refused) → with_others operator n (m ∷ ms) ≡ all
    → Reports why (λ f. operator n m ≡ Err f) → Reports why (λ f. all ≡ Err f)
broken_off operator n m ms all (refused.Fault f) is h = sym is ∙ ap (λ it. and_then it (λ next. with_others operator next ms)) h
broken_off operator n m ms all refused.NoMemory is h = tt

pub step_off : (operator : Operator) (n : ℤ) (vs : List Value) (i : ℕ) (v : Value) (all : Result ℤ Fault) (why : Refused) → i < length vs → v ≡ get_or vs i v
    → with_others operator n (map as_number (drop i vs)) ≡ all → Reports why (λ f. operator n (as_number v) ≡ Err f) → Reports why (λ f. all ≡ Err f)
step_off operator n vs i v all why below at is h =
    let one : with_others operator n (map as_number (drop i vs)) ≡ with_others operator n (as_number v ∷ map as_number (drop (i + 1) vs)) =
    at_drop_more (λ ws. with_others operator n (map as_number ws)) vs i v below ∙ ap (λ w. with_others operator n (as_number w ∷ map as_number (drop (i + 1) vs))) (sym at) in
    broken_off operator n (as_number v) (map as_number (drop (i + 1) vs)) all why (sym one ∙ is) h
