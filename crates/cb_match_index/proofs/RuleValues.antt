-- The values of the matches of a rule, branch by branch.
use Rattle.std.proofs.Common.{◌≡◌, ◌∙◌, ℕ, zero, suc, Global, List, [], ◌∷◌, Some, Vec, ap, refl, set, slice_get}
use Rattle.cb_match_index.specs.Internal.{value_at, value_in}
use Rattle.cb_match_index.specs.MatchIndices.{KeepsAll}

-- where the values of one branch are put anew, and are what they were, all of the rule are
pub kept_set : (bs : List (Vec ℕ Global)) (b : ℕ) (v w : Vec ℕ Global) → slice_get bs b ≡ Some v → KeepsAll (value_at v.items) (value_at w.items) → KeepsAll (value_in bs) (value_in (set bs b w))
kept_set [] b v w is same place = absurd (cc)
kept_set (x ∷ bs) zero v w is same (zero, n) = let one : v ≡ x = cc in same n ∙ ap (λ (u : Vec ℕ Global). value_at u.items n) one
kept_set (x ∷ bs) zero v w is same (suc c, n) = refl
kept_set (x ∷ bs) (suc b) v w is same (zero, n) = refl
kept_set (x ∷ bs) (suc b) v w is same (suc c, n) = kept_set bs b v w is same (c, n)
