use Rattle.std.proofs.Common.{◌≡◌, ◌+◌, ◌++◌, ◌≤◌, drop, length, map, replicate, true}
use Rattle.cb_constraints.specs.Constraints.{constraint_of}
use Rattle.cb_constraints.specs.Rows.{segments_wanted}
use Rattle.cb_constraints.specs.Internal.RowFields.{row_fields}
use Rattle.cb_fit.specs.Internal.{after_ones, env_after, may_take}
use Rattle.cb_fit.specs.Internal.Standing.{IsAt}
use Rattle.cb_fit.specs.Internal.Searches.{search_of}
use Rattle.cb_fit.proofs.search.Search.take_ones.Given as goal

abbrev pub invariant-loop-constraint : goal.invariant-loop-constraint
invariant-loop-constraint g l =
    (l.at ≡ l.fn.from + l.constraint-index)
    × (l.at ≤ length (row_fields l.fields))
    × (may_take (map constraint_of (drop l.constraint-index l.constraints)) (drop l.at (row_fields l.fields)) ≡ true)
    × (segments_wanted (map constraint_of (drop l.constraint-index l.constraints)) ≡ 0)
    × IsAt (search_of g.L.Lookup.bindings l.self) (row_fields l.fields) l.cuts l.at (map constraint_of (drop l.constraint-index l.constraints))
    × (l.cuts ≡ l.fn.cuts ++ replicate l.constraint-index 1)
    × (after_ones (map constraint_of (drop l.constraint-index l.constraints)) (drop l.at (row_fields l.fields)) (env_after (search_of g.L.Lookup.bindings l.self) l.cuts)
    ≡ after_ones (map constraint_of l.constraints) (drop l.fn.from (row_fields l.fields)) (env_after (search_of g.L.Lookup.bindings l.self) l.fn.cuts))
