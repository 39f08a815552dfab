-- The tokens inside a group, by those before it, and what the group passes on, as the code keeps them.
use Rattle.std.specs.Prelude.{◌≡◌, ℕ, Bool, true, false, List, Option, Some}
use Rattle.cb_beta.specs.Tokens.{TokenValue}
use Rattle.cb_group_node.specs.Outer.{passed_by_group}
use Rattle.cb_groups.specs.Groups.{HasMember, Membership, group_of}
use Rattle.cb_matches.specs.Chains.{In}

-- such numbers have this group now, or none, and the others have those that they had
pub record Sets (old new : Membership) (Such : ℕ → Type 0) (group : Option ℕ) : Type 0 where
  pub set : (n : ℕ) → Such n → group_of new n ≡ group
  pub others : (n : ℕ) → (Such n → ⊥) → group_of new n ≡ group_of old n

-- such numbers are under what is met now, and the others have the groups that they had
pub record Enters (Met : ℕ → ℕ → Type 0) (Such : ℕ → Type 0) (old new : Membership) : Type 0 where
  pub entered : (i g : ℕ) → Such i → Met g i → group_of new i ≡ Some g
  pub others : (i : ℕ) → (Such i → ⊥) → group_of new i ≡ group_of old i

-- a token is met from one of these
abbrev pub Touches : (ℕ → ℕ → Type 0) → List ℕ → ℕ → Type 0
Touches Met numbers g = (i : ℕ) × In i numbers × Met g i

-- a group holds for a token, by whether there is one inside that goes on from it
abbrev pub GroupHolds : Bool → Membership → ℕ → Type 0
GroupHolds true inside g = HasMember inside g
GroupHolds false inside g = HasMember inside g → ⊥

-- the token of this one, if the group holds for it, and those of such ones
abbrev pub IsPassedByGroup : Bool → Membership → ℕ → TokenValue → Type 0
IsPassedByGroup positive inside number t = GroupHolds positive inside number × (t ≡ passed_by_group number)

abbrev pub ArePassedByGroup : Bool → Membership → (ℕ → Type 0) → TokenValue → Type 0
ArePassedByGroup positive inside There t = (number : ℕ) × There number × IsPassedByGroup positive inside number t
