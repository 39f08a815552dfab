-- What is among the items of a list.
use Rattle.std.proofs.Common.{◌≡◌, ◌⊎◌, inl, inr, zero, suc, List, [], ◌∷◌, Contains, arith}
use Rattle.std.proofs.lemmas.List.Elements.{Contains-append_cases}

the_only : {X : Type 0} (x y : X) → Contains (x ∷ []) y → x ≡ y
the_only x y (zero, below, is) = is
the_only x y (suc k, below, is) = absurd (omega arith)

-- the first, or one of the others
pub first_or_other : {X : Type 0} (x y : X) (xs : List X) → Contains (x ∷ xs) y → (x ≡ y) ⊎ Contains xs y
first_or_other x y xs c = by (Contains-append_cases (x ∷ []) xs y c)
  where
    by : Contains (x ∷ []) y ⊎ Contains xs y → (x ≡ y) ⊎ Contains xs y
    by (inl here) = inl (the_only x y here)
    by (inr there) = inr there

pub none_among : {X : Type 0} (x : X) → Contains [] x → ⊥
none_among x (k, below, is) = omega arith
