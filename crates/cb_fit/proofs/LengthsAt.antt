-- The length at a place of lengths, and the order of lengths by it.
use Rattle.std.proofs.Common.{◌≡◌, ◌≢◌, ◌<◌, ◌∙◌, ◌+◌, ℕ, zero, suc, List, [], ◌∷◌, Some, None, Ordering, Less, Equal, Greater, add-one, ap, ap₂, arith, drop, refl, replicate, sym}
use Rattle.std.proofs.Math.Seq.{drop-nil}
use Rattle.std.specs.Cmp.Lexicographic.{slice_cmp}
use Rattle.std.specs.Ordering.{nat_cmp, ordering_then}
use Rattle.cb_fit.specs.Internal.Lengths.{length_at}
use Rattle.cb_fit.proofs.Ones.{first_counts}

pub one_at : (n i : ℕ) → i < n → Some 1 ≡ length_at (replicate n 1) i
one_at zero i h = absurd (omega arith)
one_at (suc n) zero h = refl
one_at (suc n) (suc i) h = one_at n i (omega arith)

first : (xs : List ℕ) (i x : ℕ) → Some x ≡ length_at xs i → drop i xs ≡ x ∷ drop (suc i) xs
first [] i x h = search h
first (y ∷ xs) zero x h = ap (λ (z : ℕ). z ∷ xs) (search h)
first (y ∷ xs) (suc i) x h = first xs i x h

cut : (xs : List ℕ) (i x : ℕ) → Some x ≡ length_at xs i → drop i xs ≡ x ∷ drop (i + 1) xs
cut xs i x h = rw add-one (first xs i x h)

ends : (xs : List ℕ) (i : ℕ) → None ≡ length_at xs i → drop i xs ≡ []
ends [] i h = drop-nil i
ends (y ∷ xs) zero h = search h
ends (y ∷ xs) (suc i) h = ends xs i h

-- what is left of two lists from place i on
module _ (xs ys : List ℕ) (i : ℕ) where
  abbrev pub rest_cmp : Ordering
  rest_cmp = slice_cmp nat_cmp (drop i xs) (drop i ys)

  step : (x y : ℕ) → Some x ≡ length_at xs i → Some y ≡ length_at ys i → rest_cmp ≡ ordering_then (nat_cmp x y) (slice_cmp nat_cmp (drop (i + 1) xs) (drop (i + 1) ys))
  step x y h g = ap₂ (slice_cmp nat_cmp) (cut xs i x h) (cut ys i y g)

  pub they_differ : (x y : ℕ) → Some x ≡ length_at xs i → Some y ≡ length_at ys i → nat_cmp x y ≢ Equal → nat_cmp x y ≡ rest_cmp
  they_differ x y h g differ = sym (step x y h g ∙ first_counts (nat_cmp x y) _ differ)

  pub those_behind : (x y : ℕ) → Some x ≡ length_at xs i → Some y ≡ length_at ys i → Equal ≡ nat_cmp x y → slice_cmp nat_cmp (drop (i + 1) xs) (drop (i + 1) ys) ≡ rest_cmp
  those_behind x y h g same = sym (step x y h g ∙ ap (λ r. ordering_then r (slice_cmp nat_cmp (drop (i + 1) xs) (drop (i + 1) ys))) (sym same))

  pub others_end : (x : ℕ) → Some x ≡ length_at xs i → None ≡ length_at ys i → Greater ≡ rest_cmp
  others_end x h g = sym (ap₂ (slice_cmp nat_cmp) (cut xs i x h) (ends ys i g))

  pub they_end : (y : ℕ) → None ≡ length_at xs i → Some y ≡ length_at ys i → Less ≡ rest_cmp
  they_end y h g = sym (ap₂ (slice_cmp nat_cmp) (ends xs i h) (cut ys i y g))

  pub both_end : None ≡ length_at xs i → None ≡ length_at ys i → Equal ≡ rest_cmp
  both_end h g = sym (ap₂ (slice_cmp nat_cmp) (ends xs i h) (ends ys i g))
