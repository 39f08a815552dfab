-- The alpha memories of the patterns of all rules, by number, and what a change does to them.
use Rattle.std.specs.Prelude.{◌≡◌, ◌≢◌, ◌⊎◌, ℕ, List, [], Option, Some, None, length, slice_index_or}
use Rattle.cb_alpha.specs.AlphaMemories.{AlphaMemoryValue, index_of, live}
use Rattle.cb_alpha.specs.Turning.{AlphaTurns, HasJoin, IsAlphaOver, were_in}
use Rattle.cb_alpha_network.specs.declared.node_place.NodePlace.{NodePlace}
use Rattle.cb_alpha_network.specs.declared.user.User.{User}
use Rattle.cb_constraints.specs.PatternValues.{PatternValue}
use Rattle.cb_facts.specs.FactLists.{IndexedFacts}
use Rattle.cb_fit.specs.Shapes.{SelectionValue, selection}
use Rattle.cb_fit.specs.declared.join_fields.JoinField.{JoinField}
use Rattle.cb_matches.specs.Chains.{In}

-- what patterns ask of a fact alone, by number
abbrev pub ShapeValues : Type 0
ShapeValues = List (Option SelectionValue)

abbrev pub shape_in : ShapeValues → ℕ → Option SelectionValue
shape_in ss n = slice_index_or ss n None

-- no facts, and no join
abbrev pub no_memory : AlphaMemoryValue
no_memory = record { candidates = []; gone = None; come = None; joins = [] }

-- alpha memories by number
abbrev pub MemoryValues : Type 0
MemoryValues = List AlphaMemoryValue

abbrev pub memory_in : MemoryValues → ℕ → AlphaMemoryValue
memory_in ms n = slice_index_or ms n no_memory

-- the shapes, the alpha memory of each under the same number, and the nodes whose patterns have them
pub record AlphaNetworkValue : Type 0 where
  pub shapes : ShapeValues
  pub users : List User
  pub memories : MemoryValues

abbrev pub shape_at : AlphaNetworkValue → ℕ → Option SelectionValue
shape_at v n = shape_in v.shapes n

abbrev pub memory_at : AlphaNetworkValue → ℕ → AlphaMemoryValue
memory_at v n = memory_in v.memories n

-- how many nodes use it
abbrev pub use_count : AlphaNetworkValue → ℕ
use_count v = length v.users

-- the shape of this pattern stands under a number
abbrev pub IsShapeAt : AlphaNetworkValue → ℕ → PatternValue → Type 0
IsShapeAt v n p = shape_at v n ≡ Some (selection p)

-- and the node at this place uses it
pub record IsShapeOf (v : AlphaNetworkValue) (n : ℕ) (p : PatternValue) (place : NodePlace) : Type 0 where
  pub shape : IsShapeAt v n p
  pub used : In (record { alpha = n; place = place }) v.users

-- in this change nothing went from the memory, and nothing came to it
pub record IsAtRest (m : AlphaMemoryValue) : Type 0 where
  pub none_gone : m.gone ≡ None
  pub none_come : m.come ≡ None

abbrev pub AreAtRest : MemoryValues → Type 0
AreAtRest ms = (n : ℕ) → IsAtRest (memory_in ms n)

-- between changes: the memory of each shape has just those of these facts that have it, and nothing went or came
pub record AreAlphas (v : AlphaNetworkValue) (fs : IndexedFacts) : Type 0 where
  pub over : (n : ℕ) (p : PatternValue) → IsShapeAt v n p → IsAlphaOver p fs (memory_at v n)
  pub rest : AreAtRest v.memories

-- the memory of no shape has a fact with this index
abbrev pub HasNoFact : AlphaNetworkValue → ℕ → Type 0
HasNoFact v ix = (n : ℕ) (p : PatternValue) → IsShapeAt v n p → (i : ℕ) → index_of (live (memory_at v n) i) ≢ Some ix

-- a change leads the memory of each shape from one list of facts to another
abbrev pub AlphasTurn : AlphaNetworkValue → IndexedFacts → IndexedFacts → Type 0
AlphasTurn v fs fs' = (n : ℕ) (p : PatternValue) → IsShapeAt v n p → AlphaTurns p (memory_at v n) fs fs'

-- a change of a memory: the joins stay, and what was there when it began stood under the numbers under which it was before
pub record ChangesFrom (old new : AlphaMemoryValue) : Type 0 where
  pub joins : new.joins ≡ old.joins
  pub were : (i : ℕ) → were_in new i ≡ live old i

-- a change of all memories: the shapes stay, and the nodes that use them
pub record NetworkChangesFrom (old new : AlphaNetworkValue) : Type 0 where
  pub shapes : new.shapes ≡ old.shapes
  pub users : new.users ≡ old.users
  pub memories : (n : ℕ) → ChangesFrom (memory_at old n) (memory_at new n)

-- the memory has the same facts, and they are found at least by what they were found by
pub record KeepsFacts (old new : AlphaMemoryValue) : Type 0 where
  pub candidates : new.candidates ≡ old.candidates
  pub gone : new.gone ≡ old.gone
  pub come : new.come ≡ old.come
  pub joins : (join : ℕ) (fields : List JoinField) → HasJoin old join fields → HasJoin new join fields

-- each node that uses a shape uses it still, and its memory has the same facts
abbrev pub KeepsShapes : AlphaNetworkValue → AlphaNetworkValue → Type 0
KeepsShapes old new = (n : ℕ) (p : PatternValue) (place : NodePlace) → IsShapeOf old n p place → IsShapeOf new n p place × KeepsFacts (memory_at old n) (memory_at new n)

-- each does that isn't at this place, and the memory is as it was
abbrev pub KeepsShapesBut : NodePlace → AlphaNetworkValue → AlphaNetworkValue → Type 0
KeepsShapesBut place old new =
    (n : ℕ) (p : PatternValue) (other : NodePlace) → IsShapeOf old n p other → other ≢ place → IsShapeOf new n p other × (memory_at new n ≡ memory_at old n)

-- the place of each node that uses a shape to whose memory a fact came or from which one went is among these
abbrev pub HasChanged : AlphaNetworkValue → List NodePlace → Type 0
HasChanged v places = (n : ℕ) (p : PatternValue) (place : NodePlace) → IsShapeOf v n p place → IsAtRest (memory_at v n) ⊎ In place places
