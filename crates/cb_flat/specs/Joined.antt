-- How often join nodes may test patterns, where the shape of the fact that is added has been tested already.
use Rattle.std.specs.Prelude.{◌+◌, ◌*◌, ℕ, List, [], ◌∷◌, Option, Some, None, filter, length, if◌then◌else◌}
use Rattle.cb_constraints.specs.PatternValues.{PatternValue}
use Rattle.cb_facts.specs.FactLists.{IndexedFacts}
use Rattle.cb_facts.specs.Facts.{FactValue}
use Rattle.cb_fit.specs.Shapes.{has_shape}
use Rattle.cb_matches.specs.Probes.{is_candidate, partials_come, partials_kept}
use Rattle.cb_nodes.specs.Flat.{FlatNode, Lists, alone, grouping, joining, testing}

-- the fact that is added, if one is and has the shape, with each partial match that was before the pattern and still is
abbrev pub added_joins : PatternValue → Option FactValue → ℕ → ℕ
added_joins p None kept = 0
added_joins p (Some f) kept = if has_shape p f then kept else 0

-- and each partial match that came with each fact that has the shape
abbrev pub flat_joins_of : Option FactValue → IndexedFacts → Lists → Lists → FlatNode → ℕ
flat_joins_of added fs' old new (joining from x p ts) =
    length (partials_come (old from) (new from)) * length (filter (is_candidate p) fs') + added_joins p added (length (partials_kept (old from) (new from)))
flat_joins_of added fs' old new (testing from t) = 0
flat_joins_of added fs' old new (grouping from inner positive width) = 0
flat_joins_of added fs' old new (alone from p positive) = 0

-- at the nodes of a branch
abbrev pub flat_joins : Option FactValue → IndexedFacts → Lists → Lists → List FlatNode → ℕ
flat_joins added fs' old new [] = 0
flat_joins added fs' old new (n ∷ ns) = flat_joins_of added fs' old new n + flat_joins added fs' old new ns
