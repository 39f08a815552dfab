-- Where a search stands: which constraints come next, and for which fields they are.
use Rattle.std.specs.Prelude.{◌≡◌, ◌+◌, ◌≤◌, ℕ, suc, Bool, List, [], ◌∷◌, ◌++◌, drop, flat_map, length, take}
use Rattle.cb_constraints.specs.Binders.{constraints_in}
use Rattle.cb_constraints.specs.Internal.Places.{sites_from, sites_in, sites_of}
use Rattle.cb_constraints.specs.Constraints.{Constraint, Demand}
use Rattle.cb_constraints.specs.Holding.{Meets, after_demand}
use Rattle.cb_constraints.specs.PatternValues.{PatternParts, SlotValue}
use Rattle.cb_constraints.specs.declared.site.Site.{Site}
use Rattle.cb_constraints.specs.Internal.Values.{fields_of_row, fields_taken, first_fields, next_value}
use Rattle.cb_facts.specs.Facts.{FactContent}
use Rattle.cb_facts.specs.declared.single.Single.{Single}
use Rattle.cb_facts.specs.declared.value.Value.{Value}
use Rattle.cb_fit.specs.Internal.{env_after}
use Rattle.cb_fit.specs.Internal.Searches.{SearchValue}

-- after segments of these lengths, and so many of the row's fields, these constraints of the row come next
pub record IsAt (s : SearchValue) (fields : List Single) (cuts : List ℕ) (at : ℕ) (cs : List Constraint) : Type 0 where
  pub row : ℕ
  pub start : ℕ
  pub more : List Constraint
  pub sites : List Site
  pub next : drop (length cuts) (constraints_in s.body) ≡ cs ++ more
  pub next_sites : drop (length cuts) (sites_in s.body) ≡ sites_of row start cs ++ sites
  pub begun : start ≤ length cuts
  pub taken : fields_taken cuts ≡ fields_taken (take start cuts) + at
  pub fields_are : fields_of_row row s.body s.content ≡ fields

-- the fields for the rows, of which the first has this number, are those of their slots
abbrev pub AreOfSlots : PatternParts → FactContent → List (List ℕ × Value) → ℕ → List SlotValue → Type 0
AreOfSlots parts content slots r [] = Unit {0}
AreOfSlots parts content slots r (s ∷ ss) = (fields_of_row r parts content ≡ first_fields (drop s.place slots)) × AreOfSlots parts content slots (suc r) ss

-- after so many constraints these rows of slots come next, and no other
pub record AreNext (s : SearchValue) (count : ℕ) (rows : List SlotValue) : Type 0 where
  pub row : ℕ
  pub next : drop count (constraints_in s.body) ≡ flat_map (λ r. r.row) rows
  pub next_sites : drop count (sites_in s.body) ≡ sites_from row count rows
  pub fields_are : AreOfSlots s.body s.content s.slots row rows

-- after segments of these lengths this constraint comes next
abbrev pub ComesNext : SearchValue → List ℕ → Constraint → Type 0
ComesNext s cuts c = (more : List Constraint) × (drop (length cuts) (constraints_in s.body) ≡ c ∷ more)

-- a test of that constraint for a value said whether it holds, and what variables have then
abbrev pub TestsNext : SearchValue → List ℕ → Demand → Value → Bool → Type 0
TestsNext s cuts d v holds = (n : ℕ) → next_value s.body s.content cuts n ≡ v → Meets holds (env_after s (cuts ++ n ∷ [])) (after_demand d v (env_after s cuts))
