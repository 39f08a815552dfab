-- Places that are found, in their order, rule by rule and branch by branch.
use Rattle.std.specs.Prelude.{◌≡◌, ◌<◌, ◌≤◌, ℕ, List, length, slice_index_or}
use Rattle.cb_alpha_network.specs.declared.node_place.NodePlace.{NodePlace}

-- from a place on and up to another, all are of the rule of the first
abbrev pub AreOfRule : List NodePlace → ℕ → ℕ → Type 0
AreOfRule found from to = (k : ℕ) (d : NodePlace) → from ≤ k → k < to → (slice_index_or found k d).rule ≡ (slice_index_or found from d).rule

-- what stands at a place, if there is something, is not of the rule of another
abbrev pub IsOtherRule : List NodePlace → ℕ → ℕ → Type 0
IsOtherRule found from to = (d : NodePlace) → to < length found → (slice_index_or found to d).rule ≡ (slice_index_or found from d).rule → ⊥

-- the same of branches, before an end
abbrev pub AreOfBranch : List NodePlace → ℕ → ℕ → Type 0
AreOfBranch found from to = (k : ℕ) (d : NodePlace) → from ≤ k → k < to → (slice_index_or found k d).branch ≡ (slice_index_or found from d).branch

abbrev pub IsOtherBranch : List NodePlace → ℕ → ℕ → ℕ → Type 0
IsOtherBranch found from to end = (d : NodePlace) → to < end → (slice_index_or found to d).branch ≡ (slice_index_or found from d).branch → ⊥

-- the places of a rule are those from one on and before another
pub record AreAllOfRule (found : List NodePlace) (from end rule : ℕ) : Type 0 where
  pub within : end ≤ length found
  pub passed : (k : ℕ) (d : NodePlace) → from ≤ k → k < end → (slice_index_or found k d).rule ≡ rule
  pub all : (k : ℕ) (d : NodePlace) → k < length found → (slice_index_or found k d).rule ≡ rule → (from ≤ k) × (k < end)
