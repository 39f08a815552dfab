-- Which members belong to which group.
use Rattle.std.specs.Prelude.{◌≡◌, ◌≢◌, ◌++◌, ◌↔◌, ℕ, Contains, List, Option, Some, None, nat_eq, slice_index_or}
use Rattle.std.specs.List.{IsDistinct}

-- the group of each member, by the member's number
abbrev pub Membership : Type 0
Membership = List (Option ℕ)

-- the group of a member
abbrev pub group_of : Membership → ℕ → Option ℕ
group_of groups member = slice_index_or groups member None

-- each member has the group that it had
abbrev pub AreSameGroups : Membership → Membership → Type 0
AreSameGroups old new = (member : ℕ) → group_of new member ≡ group_of old member

-- this member has this group now, and the others have those that they had
pub record Updates (old new : Membership) (member : ℕ) (group : Option ℕ) : Type 0 where
  pub changed : group_of new member ≡ group
  pub others : (other : ℕ) → other ≢ member → group_of new other ≡ group_of old other

-- a group has a member
abbrev pub HasMember : Membership → ℕ → Type 0
HasMember groups group = (member : ℕ) × (group_of groups member ≡ Some group)

-- these are the members of a group, in any order, none twice
pub record AreMembers (groups : Membership) (group : ℕ) (members : List ℕ) : Type 0 where
  pub are : (member : ℕ) → Contains members member ↔ (group_of groups member ≡ Some group)
  pub once : IsDistinct nat_eq members

-- the members of a group stand behind what was in a list
pub record AppendsMembers (groups : Membership) (group : ℕ) (old new : List ℕ) : Type 0 where
  pub members : List ℕ
  pub is : new ≡ old ++ members
  pub are : AreMembers groups group members

-- the members of a group have none now, and the others have those that they had
pub record Releases (old new : Membership) (group : ℕ) : Type 0 where
  pub released : (member : ℕ) → group_of old member ≡ Some group → group_of new member ≡ None
  pub others : (member : ℕ) → group_of old member ≢ Some group → group_of new member ≡ group_of old member
