-- What a rule that leaves does to the alpha network.
use Rattle.std.specs.Prelude.{◌≡◌, ◌+◌, ℕ}
use Rattle.cb_alpha_network.specs.Networks.{AlphaNetworkValue, IsShapeOf, memory_at, use_count}
use Rattle.cb_alpha_network.specs.declared.node_place.NodePlace.{NodePlace}
use Rattle.cb_constraints.specs.PatternValues.{PatternValue}

-- the patterns of the rule with this number are out of the network, so many, and all others are in it as they were
pub record IsRuleLeft (rule patterns : ℕ) (old new : AlphaNetworkValue) : Type 0 where
  pub others : (n : ℕ) (p : PatternValue) (place : NodePlace) → IsShapeOf old n p place → (place.rule ≡ rule → ⊥) → IsShapeOf new n p place × (memory_at new n ≡ memory_at old n)
  pub count : use_count new + patterns ≡ use_count old
