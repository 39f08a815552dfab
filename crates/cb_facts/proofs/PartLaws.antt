-- A part of a part of a list.
use Rattle.std.proofs.Common.{◌≡◌, ◌≤◌, ◌+◌, ◌-◌, ℕ, zero, suc, List, [], ◌∷◌, length, take, drop, slice_range, arith, refl, ap, ◌∙◌}
use Rattle.std.proofs.lemmas.List.{length-take, drop-take, drop-drop}

pub take-take : {X : Type 0} (n m : ℕ) (xs : List X) → n ≤ m → take n (take m xs) ≡ take n xs
take-take zero m xs h = refl
take-take (suc n) zero xs h = absurd (omega arith)
take-take (suc n) (suc m) [] h = refl
take-take (suc n) (suc m) (x ∷ xs) h = ap (λ t. x ∷ t) (take-take n m xs (omega arith))

-- what lies within a part lies before its end
pub part-within : {X : Type 0} (xs : List X) (start end to : ℕ) → start ≤ end → to ≤ length (slice_range xs start end) → start + to ≤ end
part-within xs start end to order within = omega (arith, length-take (end - start) (drop start xs))

pub slice_range-slice_range : {X : Type 0} (xs : List X) (start end from to : ℕ) → from ≤ to → start + to ≤ end
    → slice_range (slice_range xs start end) from to ≡ slice_range xs (start + from) (start + to)
slice_range-slice_range xs start end from to order within =
    let rest : ℕ = end - start - from in
    let split : end - start ≡ from + rest = omega arith in
    let width : to - from ≡ start + to - (start + from) = omega arith in
    let fits : to - from ≤ rest = omega arith in
    ap (λ n. take (to - from) (drop from (take n (drop start xs)))) split
    ∙ ap (take (to - from)) (drop-take from rest (drop start xs))
    ∙ take-take (to - from) rest (drop from (drop start xs)) fits
    ∙ ap (take (to - from)) (drop-drop from start xs)
    ∙ ap (λ n. take n (drop (start + from) xs)) width
