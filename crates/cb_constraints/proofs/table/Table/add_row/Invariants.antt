use Rattle.std.proofs.Common.{drop, length, map}
use Rattle.cb_constraints.specs.Internal.Places.{places, sites_of}
use Rattle.cb_constraints.specs.Constraints.{constraint_of}
use Rattle.cb_constraints.specs.Internal.Tables.{Going}
use Rattle.cb_constraints.proofs.table.Table.add_row.Given as goal

abbrev pub invariant-loop-constraint : goal.invariant-loop-constraint
invariant-loop-constraint l =
    Going l.fn.self l.self (places (length l.self.sites.items) (map constraint_of (drop l.constraint-index l.constraints))) (places (length l.fn.self.sites.items) (map constraint_of l.constraints))
    (sites_of l.row l.start (map constraint_of (drop l.constraint-index l.constraints))) (sites_of l.row l.start (map constraint_of l.constraints))
