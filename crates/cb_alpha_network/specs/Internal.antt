-- What only the code needs.
use Rattle.std.specs.Prelude.{◌≡◌, ◌≢◌, ◌⊎◌, ◌<◌, ℕ, Bool, true, false, List, Option, Some, None}
use Rattle.std.specs.BTreeMap.{BTreeMap, get}
use Rattle.std.specs.declared.cmp.Ordering.{Ordering}
use Rattle.cb_alpha.specs.AlphaMemories.{AlphaMemoryValue, GainsFact, LosesFact, index_of, live}
use Rattle.cb_alpha_network.specs.Asked.{IsEntered}
use Rattle.cb_alpha_network.specs.Networks.{IsAtRest, MemoryValues, ShapeValues, memory_in, shape_in}
use Rattle.cb_alpha_network.specs.declared.asked.Asked.{Asked}
use Rattle.cb_alpha_network.specs.declared.node_place.NodePlace.{NodePlace}
use Rattle.cb_alpha_network.specs.declared.user.User.{User}
use Rattle.cb_constraints.specs.PatternValues.{PatternValue}
use Rattle.cb_facts.specs.Facts.{FactValue}
use Rattle.cb_fit.specs.ShapeKeys.{key_of, shape_of}
use Rattle.cb_fit.specs.Shapes.{SelectionValue, selection, selects}
use Rattle.cb_fit.specs.contracts.shape.ShapeOrd.TheImpl as shape_ord
use Rattle.cb_fit.specs.declared.shape.Shape.{Shape}
use Rattle.cb_matches.specs.Chains.{In}

-- the number of each memory to which a fact came or from which one went is among these
abbrev pub AreNoted : MemoryValues → List ℕ → Type 0
AreNoted ms noted = (n : ℕ) → IsAtRest (memory_in ms n) ⊎ In n noted

-- shapes compare as keys
abbrev pub shape_cmp : Shape → Shape → Ordering
shape_cmp = shape_ord.ghosts.cmp

-- each shape has a memory, what it asks for is entered under its number, its number is found by it, and by no other, and a node uses it
pub record IsNetwork (asked : Asked) (numbers : BTreeMap Shape ℕ) (shapes : ShapeValues) (users : List User) (count : ℕ) : Type 0 where
  pub entered : (n : ℕ) (q : SelectionValue) → shape_in shapes n ≡ Some q → (p : PatternValue) × (selection p ≡ q) × IsEntered asked p n
  pub within : (n : ℕ) (q : SelectionValue) → shape_in shapes n ≡ Some q → n < count
  pub numbered : (n : ℕ) (q : SelectionValue) → shape_in shapes n ≡ Some q → get shape_cmp numbers (key_of q) ≡ Some n
  pub found : (k : Shape) (n : ℕ) → get shape_cmp numbers k ≡ Some n → (p : PatternValue) × (shape_of p ≡ k) × (shape_in shapes n ≡ Some (selection p))
  pub used : (n : ℕ) (q : SelectionValue) → shape_in shapes n ≡ Some q → (place : NodePlace) × In (record { alpha = n; place = place }) users

-- all but one memory stay
abbrev pub KeepsOtherMemories : ℕ → MemoryValues → MemoryValues → Type 0
KeepsOtherMemories number old new = (n : ℕ) → n ≢ number → memory_in new n ≡ memory_in old n

-- a fact comes to a memory if it is selected by what stands there, if something does
abbrev pub IsAsserted : Option SelectionValue → ℕ → FactValue → AlphaMemoryValue → AlphaMemoryValue → Type 0
IsAsserted None ix f old new = new ≡ old
IsAsserted (Some s) ix f old new = (selects s f ≡ true → (i : ℕ) × GainsFact old new i (ix, f)) × (selects s f ≡ false → new ≡ old)

-- the fact with an index goes from a memory, if it is there
abbrev pub IsRetracted : ℕ → AlphaMemoryValue → AlphaMemoryValue → Type 0
IsRetracted ix old new = ((i : ℕ) × LosesFact old new i ix) ⊎ ((new ≡ old) × ((i : ℕ) → index_of (live old i) ≢ Some ix))

-- the memories with these numbers changed so, and the others stay
pub record ChangesThose (Changed : ℕ → AlphaMemoryValue → AlphaMemoryValue → Type 0) (numbers : List ℕ) (old new : MemoryValues) : Type 0 where
  pub changed : (n : ℕ) → In n numbers → Changed n (memory_in old n) (memory_in new n)
  pub others : (n : ℕ) → (In n numbers → ⊥) → memory_in new n ≡ memory_in old n
