-- Bytes with two hashes differ.
use Rattle.std.proofs.Common.{◌≡◌, List, Bool, true, false, ℕ, ap, refl, nat_eq}
use Rattle.std.specs.Cmp.Lexicographic.{pointwise, bytes_decides}
use Rattle.cb_facts.specs.Internal.Hashes.{hash_of_bytes}

-- a test that is not passed
pub not-true : (t : Bool) → (t ≡ true → ⊥) → false ≡ t
not-true true n = absurd (n refl)
not-true false n = refl

pub apart : (xs ys : List ℕ) → (hash_of_bytes xs ≡ hash_of_bytes ys → ⊥) → false ≡ pointwise nat_eq xs ys
apart xs ys n = not-true (pointwise nat_eq xs ys) (λ e. n (ap hash_of_bytes ((bytes_decides xs ys).0 e)))
