-- The members of each group in a list, and the place of each member.
use Rattle.std.specs.Prelude.{◌<◌, ◌≡◌, ◌≢◌, ◌++◌, ℕ, zero, suc, Contains, List, [], ◌∷◌, Option, Some, None, length, map, slice_get, slice_index_or}
use Rattle.std.specs.Option.{option_map, option_map_or}
use Rattle.cb_groups.specs.Groups.{Membership}
use Rattle.cb_groups.specs.declared.standing.Place.{Place}
use Rattle.cb_groups.specs.declared.members.Held.{Held}
use Rattle.cb_groups.specs.declared.members.Held.TheVariants as held

-- those that are held
abbrev pub members_in : Held → List ℕ
members_in held.None = []
members_in (held.One m) = m ∷ []
members_in (held.Two ms) = ms
members_in (held.Many ms) = ms.value.items

-- the place that a standing has, by its group and one more than its position
abbrev pub place_by_turn : ℕ → ℕ → Option Place
place_by_turn group zero = None
place_by_turn group (suc position) = Some (record { group = group; position = position })

-- the members that a group has
abbrev pub members_at : List (List ℕ) → ℕ → List ℕ
members_at lists group = option_map_or (λ (ms : List ℕ). ms) (slice_get lists group) []

-- the member at a position among those of a group
abbrev pub member_at : List (List ℕ) → ℕ → ℕ → Option ℕ
member_at lists group position = slice_get (members_at lists group) position

-- the place of a member
abbrev pub standing : List (Option Place) → ℕ → Option Place
standing places member = slice_index_or places member None

-- the group in which a member stands, if it has a place
abbrev pub group_in : Option Place → Option ℕ
group_in place = option_map (λ (p : Place). p.group) place

-- the group of each member
abbrev pub membership : List (Option Place) → Membership
membership places = map group_in places

-- each member stands at its place, and at no other
pub record ArePlaces (lists : List (List ℕ)) (places : List (Option Place)) : Type 0 where
  pub placed : (m : ℕ) (p : Place) → standing places m ≡ Some p → member_at lists p.group p.position ≡ Some m
  pub listed : (g k m : ℕ) → member_at lists g k ≡ Some m → standing places m ≡ Some (record { group = g; position = k })

-- a member stands behind those of a group
pub record IsPushed (old new : List (List ℕ)) (group member position : ℕ) : Type 0 where
  pub position_is : position ≡ length (members_at old group)
  pub changed : members_at new group ≡ members_at old group ++ member ∷ []
  pub others : (h : ℕ) → h ≢ group → members_at new h ≡ members_at old h

-- the last one stands where one was taken out
pub record IsOut (old new : List ℕ) (position : ℕ) : Type 0 where
  pub shorter : suc (length new) ≡ length old
  pub last : suc position < length old → slice_get new position ≡ slice_get old (length new)
  pub others : (k : ℕ) → k ≢ position → k < length new → slice_get new k ≡ slice_get old k

-- these have no place any more, and the others have those that they had
pub record AreWithout (old new : List (Option Place)) (members : List ℕ) : Type 0 where
  pub gone : (m : ℕ) → Contains members m → standing new m ≡ None
  pub others : (m : ℕ) → (Contains members m → ⊥) → standing new m ≡ standing old m
