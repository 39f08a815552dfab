-- The table of what patterns ask for.
use Rattle.std.specs.Prelude.{◌≡◌, ◌≢◌, ℕ, List, Some}
use Rattle.std.specs.BTreeMap.{BTreeMap, get}
use Rattle.std.specs.Cmp.Lexicographic.{slice_cmp}
use Rattle.std.specs.Ordering.{nat_cmp}
use Rattle.std.specs.declared.cmp.Ordering.{Ordering}
use Rattle.cb_alpha_network.specs.Wanted.{Wants, sought_in, wanted_of}
use Rattle.cb_alpha_network.specs.declared.asked.Asked.{Asked}
use Rattle.cb_alpha_network.specs.declared.spots.Spot.{Spot}
use Rattle.cb_alpha_network.specs.declared.wanted.Wanted.{Wanted}
use Rattle.cb_constraints.specs.PatternValues.{PatternValue}
use Rattle.cb_facts.specs.Facts.{FactValue}
use Rattle.cb_fit.specs.declared.field_place.FieldPlace.{FieldPlace}
use Rattle.cb_matches.specs.Chains.{In}

-- where the patterns for each relation ask for values
abbrev pub Spots : Type 0
Spots = BTreeMap (List ℕ) (List Spot)

-- names compare byte by byte
abbrev pub name_cmp : List ℕ → List ℕ → Ordering
name_cmp = slice_cmp nat_cmp

-- these places of a relation have this number
abbrev pub IsSpot : Spots → List ℕ → List FieldPlace → ℕ → Type 0
IsSpot spots relation places number = (all : List Spot) × (get name_cmp spots relation ≡ Some all) × In (record { places = places; number = number }) all

-- places keep their numbers
abbrev pub KeepsSpots : Spots → Spots → Type 0
KeepsSpots old new = (relation : List ℕ) (places : List FieldPlace) (number : ℕ) → IsSpot old relation places number → IsSpot new relation places number

-- this is asked for under a number
abbrev pub HasEntry : Asked → Wanted → ℕ → Type 0
HasEntry table wanted number = (spot : ℕ) × IsSpot table.spots wanted.relation wanted.places spot
    × In (record { sought = sought_in spot wanted.values; number = number }) table.entries.keys

-- what the pattern with this number asks for is in the table
abbrev pub IsEntered : Asked → PatternValue → ℕ → Type 0
IsEntered table p number = HasEntry table (wanted_of p) number

-- what was in the table is
abbrev pub KeepsEntered : Asked → Asked → Type 0
KeepsEntered old new = (p : PatternValue) (number : ℕ) → IsEntered old p number → IsEntered new p number

-- but for what is asked for under one number
abbrev pub LosesOnly : ℕ → Asked → Asked → Type 0
LosesOnly lost old new = (p : PatternValue) (number : ℕ) → number ≢ lost → IsEntered old p number → IsEntered new p number

-- the numbers of all that ask for the fact are among these
abbrev pub AddsNumbers : Asked → FactValue → List ℕ → Type 0
AddsNumbers table f numbers = (wanted : Wanted) (number : ℕ) → HasEntry table wanted number → Wants wanted f → In number numbers
