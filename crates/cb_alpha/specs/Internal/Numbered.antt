-- Numbers by their keys, and buckets by their values and who stands in them.
use Rattle.std.specs.Prelude.{◌≡◌, ◌≢◌, ◌≤◌, ◌<◌, ◌↔◌, ◌^◌, ℕ, Bool, List, Option, Some, None, false, if◌then◌else◌, map}
use Rattle.std.specs.BTreeMap as tree
use Rattle.std.specs.BTreeMap.{BTreeMap}
use Rattle.std.specs.Cmp.Lexicographic.{pointwise}
use Rattle.std.specs.Option.{option_and_then, option_or}
use Rattle.std.specs.declared.cmp.Ordering.{Ordering}
use Rattle.cb_alpha.specs.Buckets.{Filing, IsWithin, values_at, values_cmp}
use Rattle.cb_alpha.specs.Mixes.{mix_of}
use Rattle.cb_alpha.specs.declared.numbering.Numbers.{Numbers}
use Rattle.cb_facts.specs.contracts.value.ValuePartialEq.TheImpl as value_eq
use Rattle.cb_facts.specs.declared.value.Value.{Value}
use Rattle.cb_groups.specs.Groups.{HasMember, Membership, group_of}
use Rattle.cb_number_map.specs.NumberMaps.{number_at}
use Rattle.cb_number_map.specs.declared.number_map.NumberMap.{NumberMap}

-- the map has the number of each key under it
abbrev pub AreNumbers : {K : Type 0} → (K → K → Ordering) → BTreeMap K ℕ → (ℕ → Option K) → Type 0
AreNumbers {K} cmp numbers key = (k : K) (n : ℕ) → (tree.get cmp numbers k ≡ Some n) ↔ (key n ≡ Some k)

-- the map has the number of each bucket under its values
abbrev pub AreInOrder : BTreeMap (List Value) ℕ → Filing → Type 0
AreInOrder numbers buckets = AreNumbers values_cmp numbers (values_at buckets)

-- a bucket has these values
abbrev pub are_those : Option (List Value) → List Value → Bool
are_those None values = false
are_those (Some others) values = pointwise value_eq.ghosts.eq others values

-- a number, if its bucket has these values
abbrev pub number_with : Filing → List Value → Option ℕ → Option ℕ
number_with buckets values None = None
number_with buckets values (Some n) = if are_those (values_at buckets n) values then Some n else None

-- the mix under which a bucket may be filed, where buckets aren't kept in order
abbrev pub mix_in : Numbers → List Value → Option ℕ
mix_in numbers values = if numbers.is_ordered then None else Some (mix_of values)

-- the number that is filed under a mix, if one is given
abbrev pub filed_under : NumberMap → Option ℕ → Option ℕ
filed_under filed mix = option_and_then (number_at filed) mix

-- the number of the bucket with these values: the one that is filed under their mix, or else the one that stands aside
abbrev pub number_in : Numbers → Filing → List Value → Option ℕ
number_in numbers buckets values =
    option_or (number_with buckets values (filed_under numbers.filed (mix_in numbers values))) (tree.get values_cmp numbers.aside values)

-- each number has 32 bits
abbrev pub AreSmallNumbers : Filing → Type 0
AreSmallNumbers buckets = (n : ℕ) → 2 ^ 32 ≤ n → values_at buckets n ≡ None

-- each bucket is found by its values, and its number has 32 bits
pub record AreNumbered (numbers : Numbers) (buckets : Filing) : Type 0 where
  pub found : (values : List Value) (n : ℕ) → (number_in numbers buckets values ≡ Some n) ↔ (values_at buckets n ≡ Some values)
  pub small : AreSmallNumbers buckets

-- a bucket comes that has values which no other has
pub record IsMade (old new : Filing) (number : ℕ) (values : List Value) : Type 0 where
  pub absent : (n : ℕ) → values_at old n ≢ Some values
  pub free : values_at old number ≡ None
  pub there : values_at new number ≡ Some values
  pub others : (n : ℕ) → n ≢ number → values_at new n ≡ values_at old n

-- a bucket that has these values goes
pub record IsUnmade (old new : Filing) (number : ℕ) (values : List Value) : Type 0 where
  pub was : values_at old number ≡ Some values
  pub gone : values_at new number ≡ None
  pub others : (n : ℕ) → n ≢ number → values_at new n ≡ values_at old n

-- the values of a member, by those of its bucket
abbrev pub values_in_bucket : Filing → Option ℕ → Option (List Value)
values_in_bucket buckets bucket = option_and_then (values_at buckets) bucket

abbrev pub filing : Filing → Membership → Filing
filing buckets members = map (values_in_bucket buckets) members

-- each bucket in which a member stands has values
abbrev pub HaveValues : Filing → Membership → Type 0
HaveValues buckets members = (member n : ℕ) → group_of members member ≡ Some n → values_at buckets n ≢ None

-- and the values that it had
abbrev pub KeepsValues : Filing → Filing → Membership → Type 0
KeepsValues old new members = (member n : ℕ) → group_of members member ≡ Some n → values_at new n ≡ values_at old n

-- in each bucket that has values a member stands
abbrev pub AreUsed : Filing → Membership → Type 0
AreUsed buckets members = (n : ℕ) → values_at buckets n ≢ None → HasMember members n

-- the numbers of buckets are those of their values, who stands in one has its values, and somebody does
pub record AreBuckets (numbers : Numbers) (buckets : Filing) (members : Membership) : Type 0 where
  pub numbered : AreNumbered numbers buckets
  pub have : HaveValues buckets members
  pub used : AreUsed buckets members

-- a bucket before this number has these values
abbrev pub IsAhead : Filing → ℕ → List Value → Type 0
IsAhead buckets bound values = (n : ℕ) × (n < bound) × (values_at buckets n ≡ Some values)

-- of the values that there are, these are from the first on, before the second, and no others of such compare to them as is wanted; or
-- none are there
pub record AreBest (wanted : Ordering) (There : List Value → Type 0) (low high : List Value) (best : Option (List Value)) : Type 0 where
  pub within : (values : List Value) → best ≡ Some values → IsWithin low high values × There values
  pub best_of : (values others : List Value) → best ≡ Some values → There others → IsWithin low high others → values_cmp others values ≢ wanted
  pub none : (others : List Value) → best ≡ None → There others → IsWithin low high others → ⊥
