-- Where a segment begins and how long it is.
use Rattle.std.proofs.Common.{arith, ◌≡◌, ◌∙◌, ◌+◌, ◌<◌, ◌≤◌, ℕ, zero, suc, List, [], ◌∷◌, ap, get_or, length, min, refl, sym, take}
use Rattle.cb_constraints.specs.Internal.Values.{fields_taken}

nothing : (k : ℕ) (xs : List ℕ) → xs ≡ [] → take k xs ≡ []
nothing zero xs e = refl
nothing (suc k) xs e = ap (take (suc k)) e

taken-both : (s m : ℕ) (xs : List ℕ) → take (min s m) xs ≡ take s (take m xs)
taken-both zero m xs = ap (λ k. take k xs) none
  where
    none : min zero m ≡ zero
    none = omega arith
taken-both (suc s) zero xs = ap (λ k. take k xs) none ∙ sym (nothing (suc s) (take zero xs) refl)
  where
    none : min (suc s) zero ≡ zero
    none = omega arith
taken-both (suc s) (suc m) [] = nothing (min (suc s) (suc m)) [] refl
taken-both (suc s) (suc m) (x ∷ xs) = ap (λ k. take k (x ∷ xs)) one ∙ ap (λ ys. x ∷ ys) (taken-both s m xs)
  where
    one : min (suc s) (suc m) ≡ suc (min s m)
    one = omega arith

-- with the next length there are so many fields more
pub one_longer : (m : ℕ) (xs : List ℕ) → m < length xs → fields_taken (take (m + 1) xs) ≡ fields_taken (take m xs) + get_or xs m 0
one_longer m [] lt = absurd (omega (arith, lt))
one_longer zero (x ∷ xs) lt = omega arith
one_longer (suc m) (x ∷ xs) lt = ap (λ k. fields_taken (take k (x ∷ xs))) one ∙ (ap (λ k. x + k) (one_longer m xs (omega (arith, lt))) ∙ omega arith)
  where
    one : suc m + 1 ≡ suc (m + 1)
    one = omega arith

pub taken_of_both : (s m : ℕ) (xs : List ℕ) → fields_taken (take (min s m) xs) ≡ fields_taken (take s (take m xs))
taken_of_both s m xs = ap fields_taken (taken-both s m xs)

-- fewer constraints took no more fields
pub no_more_before : (m : ℕ) (xs : List ℕ) → fields_taken (take m xs) ≤ fields_taken (take (m + 1) xs)
no_more_before m [] = omega (arith, ap fields_taken (nothing m [] refl))
no_more_before zero (x ∷ xs) = omega arith
no_more_before (suc m) (x ∷ xs) = further (fields_taken (take m xs)) (fields_taken (take (m + 1) xs)) (fields_taken (take (suc m + 1) (x ∷ xs))) (no_more_before m xs) (ap (λ k. fields_taken (take k (x ∷ xs))) one)
  where
    one : suc m + 1 ≡ suc (m + 1)
    one = omega arith

    further : (a b c : ℕ) → a ≤ b → c ≡ x + b → x + a ≤ c
    further a b c h e = omega (arith, h, e)

pub no_more_of_both : (s m : ℕ) (xs : List ℕ) → fields_taken (take (min s m) xs) ≤ fields_taken (take m xs)
no_more_of_both s m xs = front (take m xs) s (taken_of_both s m xs)
  where
    fewer : (s : ℕ) (ys : List ℕ) → fields_taken (take s ys) ≤ fields_taken ys
    fewer s [] = omega (arith, ap fields_taken (nothing s [] refl))
    fewer zero (y ∷ ys) = omega arith
    fewer (suc s) (y ∷ ys) = omega (arith, fewer s ys)

    front : (ys : List ℕ) (s : ℕ) {k : ℕ} → k ≡ fields_taken (take s ys) → k ≤ fields_taken ys
    front ys s e = omega (arith, e, fewer s ys)
