-- Members by the values that they are joined on.
use Rattle.std.specs.Prelude.{◌≡◌, ◌≢◌, ◌↔◌, ℕ, Contains, List, Option, Some, None, nat_eq, slice_index_or}
use Rattle.std.specs.Cmp.Lexicographic.{slice_cmp}
use Rattle.std.specs.List.{IsDistinct}
use Rattle.std.specs.declared.cmp.Ordering.{Ordering}
use Rattle.std.specs.declared.cmp.Ordering.TheVariants.{Greater, Less}
use Rattle.cb_facts.specs.contracts.value.ValueOrd.TheImpl as value_ord
use Rattle.cb_facts.specs.declared.value.Value.{Value}

-- the values of each member, by the member's number
abbrev pub Filing : Type 0
Filing = List (Option (List Value))

abbrev pub values_at : Filing → ℕ → Option (List Value)
values_at filing member = slice_index_or filing member None

-- this member has these values now, and the others have those that they had
pub record Refiles (old new : Filing) (member : ℕ) (values : Option (List Value)) : Type 0 where
  pub changed : values_at new member ≡ values
  pub others : (other : ℕ) → other ≢ member → values_at new other ≡ values_at old other

-- each member has the values that it had
abbrev pub AreSameFilings : Filing → Filing → Type 0
AreSameFilings old new = (member : ℕ) → values_at new member ≡ values_at old member

-- these are the members with these values, in any order, none twice
pub record AreWithValues (filing : Filing) (values : List Value) (members : List ℕ) : Type 0 where
  pub are : (member : ℕ) → Contains members member ↔ (values_at filing member ≡ Some values)
  pub once : IsDistinct nat_eq members

-- values compare value by value
abbrev pub values_cmp : List Value → List Value → Ordering
values_cmp = slice_cmp value_ord.ghosts.cmp

-- values from the first of these on, before the second
pub record IsWithin (low high values : List Value) : Type 0 where
  pub above : values_cmp values low ≢ Less
  pub below : values_cmp values high ≡ Less

-- these are the members with values from the first on, before the second, in any order, none twice
pub record AreWithin (filing : Filing) (low high : List Value) (members : List ℕ) : Type 0 where
  pub are : (member : ℕ) → Contains members member ↔ ((values : List Value) × (values_at filing member ≡ Some values) × IsWithin low high values)
  pub once : IsDistinct nat_eq members

-- a member has these values
abbrev pub IsFiledWith : Filing → List Value → Type 0
IsFiledWith filing values = (member : ℕ) × (values_at filing member ≡ Some values)

-- of the values that there are, these are the least from the first on, before the second, or none are there
pub record AreFirst (There : List Value → Type 0) (low high : List Value) (first : Option (List Value)) : Type 0 where
  pub within : (values : List Value) → first ≡ Some values → IsWithin low high values × There values
  pub least : (values others : List Value) → first ≡ Some values → There others → IsWithin low high others → values_cmp others values ≢ Less
  pub none : (others : List Value) → first ≡ None → There others → IsWithin low high others → ⊥

-- of the values that there are, these are the greatest from the first on, before the second, or none are there
pub record AreLast (There : List Value → Type 0) (low high : List Value) (last : Option (List Value)) : Type 0 where
  pub within : (values : List Value) → last ≡ Some values → IsWithin low high values × There values
  pub greatest : (values others : List Value) → last ≡ Some values → There others → IsWithin low high others → values_cmp others values ≢ Greater
  pub none : (others : List Value) → last ≡ None → There others → IsWithin low high others → ⊥

-- these are the least, or the greatest, values from the first on, before the second, that a member has, or no member has such
abbrev pub AreFirstWithin : Filing → List Value → List Value → Option (List Value) → Type 0
AreFirstWithin filing low high first = AreFirst (IsFiledWith filing) low high first

abbrev pub AreLastWithin : Filing → List Value → List Value → Option (List Value) → Type 0
AreLastWithin filing low high last = AreLast (IsFiledWith filing) low high last
