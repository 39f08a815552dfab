-- Lengths that are each 1.
use Rattle.std.proofs.Common.{◌≡◌, ◌≢◌, ◌<◌, ◌∙◌, ℕ, zero, suc, true, List, [], ◌∷◌, Ordering, Less, Equal, Greater, ap, ap₂, arith, length, nat_eq, refl, replicate, sym}
use Rattle.std.specs.Cmp.{first_so, nat_cmp_is, second_so, unsigned_Decides, unsigned_ties}
use Rattle.std.specs.Cmp.Lexicographic.{pointwise, slice_cmp, texts_ties}
use Rattle.std.specs.List.{list_all}
use Rattle.std.specs.Ordering.{MatchOrdering, is_eq, nat_cmp, ordering_then}

-- so many as there are
pub ones_are : (xs : List ℕ) → list_all (nat_eq 1) xs ≡ true → replicate (length xs) 1 ≡ xs
ones_are [] h = refl
ones_are (x ∷ xs) h = ap₂ (λ (y : ℕ) ys. y ∷ ys) ((unsigned_Decides 1 x).0 (first_so (nat_eq 1 x) _ h)) (ones_are xs (second_so (nat_eq 1 x) _ h))

next_numbers : (m n : ℕ) (r : Ordering) → MatchOrdering r (m < n) (m ≡ n) (n < m) → MatchOrdering r (suc m < suc n) (suc m ≡ suc n) (suc n < suc m)
next_numbers m n Less h = omega arith
next_numbers m n Equal h = ap suc h
next_numbers m n Greater h = omega arith

numbers : (m n : ℕ) → MatchOrdering (slice_cmp nat_cmp (replicate m 1) (replicate n 1)) (m < n) (m ≡ n) (n < m)
numbers zero zero = refl
numbers zero (suc n) = omega arith
numbers (suc m) zero = omega arith
numbers (suc m) (suc n) = next_numbers m n (slice_cmp nat_cmp (replicate m 1) (replicate n 1)) (numbers m n)

-- they are in the order of their numbers
pub ones_by_number : (m n : ℕ) → slice_cmp nat_cmp (replicate m 1) (replicate n 1) ≡ nat_cmp m n
ones_by_number m n = nat_cmp_is m n (slice_cmp nat_cmp (replicate m 1) (replicate n 1)) (numbers m n)

-- and the same where their numbers are
pub ones_are_as_many : (m n : ℕ) → nat_eq m n ≡ pointwise nat_eq (replicate m 1) (replicate n 1)
ones_are_as_many m n = unsigned_ties m n ∙ (ap is_eq (sym (ones_by_number m n)) ∙ sym (texts_ties (replicate m 1) (replicate n 1)))

pub first_counts : (r s : Ordering) → r ≢ Equal → ordering_then r s ≡ r
first_counts Less s h = refl
first_counts Equal s h = absurd (h refl)
first_counts Greater s h = refl
