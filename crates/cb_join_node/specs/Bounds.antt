-- How often the pattern of a join node may be tested.
use Rattle.std.specs.Prelude.{◌≡◌, ◌+◌, ◌*◌, ◌⊎◌, ℕ, List, Option, Some, None, filter, if◌then◌else◌, length}
use Rattle.cb_constraints.specs.PatternValues.{PatternValue}
use Rattle.cb_facts.specs.FactLists.{IndexedFacts}
use Rattle.cb_facts.specs.Facts.{FactValue}
use Rattle.cb_fit.specs.Shapes.{has_shape}
use Rattle.cb_matches.specs.Chains.{In}
use Rattle.cb_matches.specs.Matches.{Partial}
use Rattle.cb_matches.specs.Probes.{is_candidate, partials_come, partials_kept}

-- on a fact that is added, if one is, and has the shape: with each partial match that was before the pattern and still is
abbrev pub kept_probes : PatternValue → Option FactValue → ℕ → ℕ
kept_probes p None kept = 0
kept_probes p (Some f) kept = if has_shape p f then kept else 0

-- in a change: each partial match that came before the pattern with each fact that has the shape, and the fact that is added
abbrev pub join_probes : PatternValue → Option FactValue → IndexedFacts → List Partial → List Partial → ℕ
join_probes p added fs' old new = length (partials_come old new) * length (filter (is_candidate p) fs') + kept_probes p added (length (partials_kept old new))

-- for the shape, before the node is changed: once, if a fact is added
abbrev pub shape_probes : Option FactValue → ℕ
shape_probes None = 0
shape_probes (Some f) = 1

-- no fact is in the second list that isn't in the first, but this one, if one is given
abbrev pub IsAdded : Option FactValue → IndexedFacts → IndexedFacts → Type 0
IsAdded None fs fs' = (z : ℕ × FactValue) → In z fs' → In z fs
IsAdded (Some f) fs fs' = (ix : ℕ) × ((z : ℕ × FactValue) → In z fs' → In z fs ⊎ (z ≡ (ix, f)))
