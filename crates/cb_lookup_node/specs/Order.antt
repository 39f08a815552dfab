-- Facts and partial matches in the order of the last of their values, which is an integer.
use Rattle.std.specs.Prelude.{◌≡◌, ◌++◌, ◌∷◌, ℕ, ℤ, Bool, true, false, List, [], Option, Some, None, int_le, int_lt, pos}
use Rattle.cb_alpha.specs.AlphaMemories.{AlphaMemoryValue, live, values_in}
use Rattle.cb_facts.specs.declared.value.Value.{Value}
use Rattle.cb_facts.specs.declared.value.Value.TheVariants.{Fact, Int}
use Rattle.cb_fit.specs.declared.comparison.Comparison.{Comparison}
use Rattle.cb_fit.specs.declared.comparison.Comparison.TheVariants.{Less, LessOrEqual, Greater, GreaterOrEqual, Equal, NotEqual, Same, Differs}
use Rattle.cb_fit.specs.declared.join_fields.JoinField.{JoinField}
use Rattle.cb_lookup_node.specs.LookupNodes.{AreInOrder, HasOne}

-- a place among the integers: before all, before all from this one on, behind this one, behind all
pub data Place : Type 0 where
  first : Place
  before : ℤ → Place
  behind : ℤ → Place
  last : Place

-- the place among lists of values that begin with these and have one more
abbrev pub place_among : List Value → Place → List Value
place_among known first = known
place_among known (before n) = known ++ Int n ∷ []
place_among known (behind n) = known ++ Int n ∷ (Int (pos 0) ∷ [])
place_among known last = known ++ Fact 0 ∷ []

-- the integer stands behind the place
abbrev pub is_from : Place → ℤ → Bool
is_from first v = true
is_from (before n) v = int_le n v
is_from (behind n) v = int_lt n v
is_from last v = false

-- of two facts the one with the lesser integer is seen by more
abbrev pub is_lower : Comparison → Bool
is_lower Less = true
is_lower LessOrEqual = true
is_lower Greater = false
is_lower GreaterOrEqual = false
is_lower Equal = false
is_lower NotEqual = false
is_lower Same = false
is_lower Differs = false

-- those who see a fact and those who don't are parted behind the integer of the fact
abbrev pub is_parted_behind : Comparison → Bool
is_parted_behind Less = true
is_parted_behind LessOrEqual = false
is_parted_behind Greater = false
is_parted_behind GreaterOrEqual = true
is_parted_behind Equal = false
is_parted_behind NotEqual = false
is_parted_behind Same = false
is_parted_behind Differs = false

-- a fact with the same integer is seen
abbrev pub takes_equal : Comparison → Bool
takes_equal Less = false
takes_equal LessOrEqual = true
takes_equal Greater = false
takes_equal GreaterOrEqual = true
takes_equal Equal = false
takes_equal NotEqual = false
takes_equal Same = false
takes_equal Differs = false

-- where they are parted
abbrev pub parting : Bool → ℤ → Place
parting true n = behind n
parting false n = before n

-- the end on which those stand who see every fact
abbrev pub open_end : Bool → Place
open_end true = last
open_end false = first

-- the first integer is beyond the second, downwards or upwards
abbrev pub beyond : Bool → ℤ → ℤ → Bool
beyond true y w = int_lt y w
beyond false y w = int_lt w y

-- the values with the integer that is nearest to w, of those facts that have the known values and are beyond w; or there is none
pub record IsNearest (lower : Bool) (fields : List JoinField) (alpha : AlphaMemoryValue) (known : List Value) (w : ℤ) (found : Option (List Value)) : Type 0 where
  pub is : (values : List Value) → found ≡ Some values → (y : ℤ) × (values ≡ known ++ Int y ∷ []) × HasOne fields (live alpha) values × (beyond lower y w ≡ true)
  pub nearest : (x : ℤ) → HasOne fields (live alpha) (known ++ Int x ∷ []) → beyond lower x w ≡ true → (y : ℤ) × (found ≡ Some (known ++ Int y ∷ [])) × (beyond lower y x ≡ false)

-- there is a fact that has the known values and an integer beyond w
abbrev pub HasBeyond : Bool → List JoinField → AlphaMemoryValue → List Value → ℤ → Type 0
HasBeyond lower fields alpha known w = (y : ℤ) × HasOne fields (live alpha) (known ++ Int y ∷ []) × (beyond lower y w ≡ true)

-- a fact that is there has these values, and isn't the one of this number
abbrev pub OtherHas : List JoinField → AlphaMemoryValue → Option ℕ → List Value → Type 0
OtherHas fields alpha number values = (n : ℕ) × (values_in fields (live alpha n) ≡ Some values) × (number ≡ Some n → ⊥)

-- a fact with these values is seen, and no other fact is
abbrev pub IsSeenAlone : Comparison → List JoinField → AlphaMemoryValue → Option ℕ → List Value → List Value → Type 0
IsSeenAlone c fields alpha number ws vs = AreInOrder c ws vs × ((others : List Value) → OtherHas fields alpha number others → AreInOrder c others vs → ⊥)

-- a fact with these values is seen, and one with the others, if they are given, is not
abbrev pub SeesFirst : Comparison → List Value → Option (List Value) → List Value → Type 0
SeesFirst c ws others vs = AreInOrder c ws vs × ((us : List Value) → others ≡ Some us → AreInOrder c us vs → ⊥)

-- these values are the known ones and an integer, if they are given
abbrev pub AreOneMore : List Value → Option (List Value) → Type 0
AreOneMore known others = (us : List Value) → others ≡ Some us → (y : ℤ) × (us ≡ known ++ Int y ∷ [])

-- where the partial matches end that see a fact with w, and none with the others, if they are given
pub record IsFarEnd (c : Comparison) (known : List Value) (others : Option (List Value)) (place : List Value) : Type 0 where
  pub some : (y : ℤ) → others ≡ Some (known ++ Int y ∷ []) → place ≡ place_among known (parting (is_parted_behind c) y)
  pub none : others ≡ None → place ≡ place_among known (open_end (is_lower c))
