-- The members of each group in a line, each linked to those beside it.
use Rattle.std.specs.Prelude.{◌≡◌, ◌≢◌, ◌⊎◌, ℕ, zero, suc, Contains, List, [], ◌∷◌, Option, Some, None, length, map, slice_index_or}
use Rattle.cb_groups.specs.Groups.{Membership}
use Rattle.cb_groups.specs.declared.links.Link.{Link}

-- the link of a member that has no group
abbrev pub nowhere : Link
nowhere = record { group = 0; before = 0; behind = 0 }

-- the link of a member
abbrev pub link_at : List Link → ℕ → Link
link_at links m = slice_index_or links m nowhere

-- one more than the first member of a group, or 0 where it has none
abbrev pub first_at : List ℕ → ℕ → ℕ
first_at firsts g = slice_index_or firsts g 0

-- what is one less, if it is not 0
abbrev pub one_less : ℕ → Option ℕ
one_less zero = None
one_less (suc n) = Some n

-- the group of each member
abbrev pub linked_groups : List Link → Membership
linked_groups links = map (λ (l : Link). one_less l.group) links

-- from the one of which `first` is one more these stand in line in a group, each linked to the one before it and the one behind it, and
-- the first of them to one before it of which `before` is one more
abbrev pub IsInLine : List Link → ℕ → ℕ → ℕ → List ℕ → Type 0
IsInLine links group before first [] = first ≡ 0
IsInLine links group before first (m ∷ ms) =
    (first ≡ suc m) × ((link_at links m).group ≡ suc group) × ((link_at links m).before ≡ before) × IsInLine links group (suc m) (link_at links m).behind ms

-- a number is in a list
abbrev pub IsIn : ℕ → List ℕ → Type 0
IsIn m [] = ⊥
IsIn m (x ∷ xs) = (m ≡ x) ⊎ IsIn m xs

-- no number is in a list twice
abbrev pub AreApart : List ℕ → Type 0
AreApart [] = Unit {0}
AreApart (x ∷ xs) = (IsIn x xs → ⊥) × AreApart xs

-- these are the members of a group, in line
pub record IsLine (firsts : List ℕ) (links : List Link) (group : ℕ) (members : List ℕ) : Type 0 where
  pub linked : IsInLine links group 0 (first_at firsts group) members
  pub once : AreApart members
  pub all : (m : ℕ) → (link_at links m).group ≡ suc group → IsIn m members

-- the members of each group stand in line
abbrev pub AreLines : List ℕ → List Link → Type 0
AreLines firsts links = (group : ℕ) → (members : List ℕ) × IsLine firsts links group members

-- the member of which `behind` is one more, if it has a group, is linked to another before it, and nothing else has changed
pub record IsLinkedBefore (old new : List Link) (behind before : ℕ) : Type 0 where
  pub linked : (m : ℕ) → behind ≡ suc m → (link_at old m).group ≢ 0 → (link_at new m).before ≡ before
  pub others : (m : ℕ) → behind ≢ suc m → (link_at new m).before ≡ (link_at old m).before
  pub groups : (m : ℕ) → (link_at new m).group ≡ (link_at old m).group
  pub behind_them : (m : ℕ) → (link_at new m).behind ≡ (link_at old m).behind
  pub long : length new ≡ length old

-- the same of the member of which `before` is one more, and of one behind it
pub record IsLinkedBehind (old new : List Link) (before behind : ℕ) : Type 0 where
  pub linked : (m : ℕ) → before ≡ suc m → (link_at old m).group ≢ 0 → (link_at new m).behind ≡ behind
  pub others : (m : ℕ) → before ≢ suc m → (link_at new m).behind ≡ (link_at old m).behind
  pub groups : (m : ℕ) → (link_at new m).group ≡ (link_at old m).group
  pub before_them : (m : ℕ) → (link_at new m).before ≡ (link_at old m).before
  pub long : length new ≡ length old

-- these have no group any more, and the links of the others are as they were
pub record AreForgotten (old new : List Link) (members : List ℕ) : Type 0 where
  pub gone : (m : ℕ) → Contains members m → link_at new m ≡ nowhere
  pub others : (m : ℕ) → (Contains members m → ⊥) → link_at new m ≡ link_at old m
