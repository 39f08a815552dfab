-- What one change does to facts and to lists of partial matches.
use Rattle.std.specs.Prelude.{◌≡◌, ◌⊎◌, ℕ, List}
use Rattle.cb_facts.specs.FactLists.{IndexedFacts}
use Rattle.cb_facts.specs.Facts.{FactValue}
use Rattle.cb_matches.specs.Keys.{PartValue}
use Rattle.cb_matches.specs.Chains.{AreSame, In}
use Rattle.cb_matches.specs.Order.{IsOnce}
use Rattle.cb_matches.specs.Matches.{Partial}

module _ {A K : Type 0} (key : A → K) where
  -- what goes and comes from one list to another: what goes is apart, by its key, from all that there is then, and what comes from
  -- all that there was
  pub record Moves (old new gone come : List A) : Type 0 where
    pub stays : (z : A) → In z old → In z new ⊎ In z gone
    pub came : (z : A) → In z new → In z old ⊎ In z come
    pub gone_old : (z : A) → In z gone → In z old
    pub come_new : (z : A) → In z come → In z new
    pub gone_apart : (z y : A) → In z gone → In y new → key z ≡ key y → ⊥
    pub come_apart : (z y : A) → In z come → In y old → key z ≡ key y → ⊥

abbrev pub parts_of_partial : Partial → List PartValue
parts_of_partial m = m.parts

abbrev pub index_of_fact : ℕ × FactValue → ℕ
index_of_fact f = f.0

-- partial matches, by their parts
abbrev pub PartialMoves : List Partial → List Partial → List Partial → List Partial → Type 0
PartialMoves = Moves parts_of_partial

-- facts, by their indices
abbrev pub FactMoves : IndexedFacts → IndexedFacts → IndexedFacts → IndexedFacts → Type 0
FactMoves = Moves index_of_fact

-- one fact more, under an index that no fact had
pub record Added (f : ℕ × FactValue) (fs fs' : IndexedFacts) : Type 0 where
  pub was : (g : ℕ × FactValue) → In g fs → In g fs'
  pub is : (g : ℕ × FactValue) → In g fs' → In g fs ⊎ (g ≡ f)
  pub there : In f fs'
  pub absent : (g : ℕ × FactValue) → In g fs → g.0 ≡ f.0 → ⊥

-- these are the partial matches of a list, in any order, none twice
pub record Holds (held ms : List Partial) : Type 0 where
  pub same : AreSame held ms
  pub once : IsOnce held
