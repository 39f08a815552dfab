use Rattle.std.proofs.Common.{◌≡◌, [], drop, map}
use Rattle.cb_constraints.specs.Internal.Places.{places_of}
use Rattle.cb_constraints.specs.Constraints.{check_of}
use Rattle.cb_constraints.specs.Internal.Tables.{Going}
use Rattle.cb_constraints.proofs.table.Table.add_checks.Given as goal

abbrev pub invariant-loop-check : goal.invariant-loop-check
invariant-loop-check l =
    (l.number ≡ l.check-index)
    × Going l.fn.self l.self (places_of l.constraint l.check-index (map check_of (drop l.check-index l.checks))) (places_of l.constraint 0 (map check_of l.checks)) [] []
