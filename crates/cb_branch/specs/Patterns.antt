-- How many patterns a branch has.
use Rattle.std.specs.Prelude.{ℕ, Option, Some, None}
use Rattle.cb_facts.specs.Facts.{FactValue}
use Rattle.cb_flat.specs.Taking.{pattern_count}
use Rattle.cb_nodes.specs.Flat.{branch_nodes}
use Rattle.cb_rules.specs.Elements.{Elements}

-- how many patterns a branch has
abbrev pub branch_patterns : Elements → ℕ
branch_patterns es = pattern_count (branch_nodes es)

-- how many patterns of a branch may be tested for their shape alone: each where a fact is added, none where none is
abbrev pub shape_tests : Option FactValue → Elements → ℕ
shape_tests None es = 0
shape_tests (Some f) es = branch_patterns es
