-- The law of `min`.
use Rattle.std.proofs.Common.{◌≡◌, ◌⊎◌, ℤ, ◌≤ℤ◌, Bool, true, false, List, [], ◌∷◌, Ok, Err, map, fold, refl, ap, ◌∙◌, if◌then◌else◌, length}
use Rattle.std.specs.List.{All, Contains}
use Rattle.std.specs.Int.{int_min}
use Rattle.std.proofs.lemmas.Int.{fold-int_min_bounds, fold-int_min_reached}
use Rattle.cb_eval.specs.Applied.{applied}
use Rattle.cb_eval.specs.Arguments.{integers_of}
use Rattle.cb_eval.specs.Arithmetic.{calculated, least, left_to_right, with_others}
use Rattle.cb_forms.specs.declared.fault.Fault.TheVariants.{WrongType}
use Rattle.cb_facts.specs.Results.{and_then, ok_then, with_first}
use Rattle.cb_facts.specs.declared.value.Value.TheVariants as value
use Rattle.cb_words.specs.Words.{arity_of, takes}
use Rattle.cb_words.specs.declared.words.Function.TheVariants as function

integers_are : (ns : List ℤ) → integers_of (map value.Int ns) ≡ Ok ns
integers_are [] = refl
integers_are (n ∷ ns) = ap (with_first (Ok n)) (integers_are ns)

least_of : (n : ℤ) (ns : List ℤ) → with_others least n ns ≡ Ok (fold int_min n ns)
least_of n [] = refl
least_of n (m ∷ ms) = least_of (int_min n m) ms

calculated_least : (n : ℤ) (ns : List ℤ) → calculated least (map value.Int (n ∷ ns)) ≡ Ok (value.Int (fold int_min n ns))
calculated_least n ns =
    ap (λ it. ok_then value.Int (and_then it (left_to_right least))) (integers_are (n ∷ ns)) ∙ ap (ok_then value.Int) (least_of n ns)

-- whatever the number of values, what is returned is the fold
returned : (b : Bool) (n m : ℤ) (ns : List ℤ) → (if b then calculated least (map value.Int (n ∷ ns)) else Err WrongType) ≡ Ok (value.Int m) → m ≡ fold int_min n ns
returned true n m ns h = let e = calculated_least n ns in (cc)
returned false n m ns h = absurd (cc)

pub least_is_least : (first m : ℤ) (others : List ℤ) → applied function.Min (map value.Int (first ∷ others)) ≡ Ok (value.Int m)
    → (m ≤ℤ first) × All (λ n. m ≤ℤ n) others × ((m ≡ first) ⊎ Contains others m)
least_is_least first m others h =
    let is = returned (takes (arity_of function.Min) (length (map value.Int (first ∷ others)))) first m others h in
    let bounds = fold-int_min_bounds first others m is in
    (bounds.0, bounds.1, fold-int_min_reached first others m is)
