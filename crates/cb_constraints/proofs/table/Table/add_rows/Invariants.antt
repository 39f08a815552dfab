use Rattle.std.proofs.Common.{◌≡◌, drop, length, map}
use Rattle.std.specs.List.{flat_map}
use Rattle.cb_constraints.specs.Internal.Places.{places, sites_from}
use Rattle.cb_constraints.specs.Internal.Tables.{Going}
use Rattle.cb_constraints.specs.PartValues.{asked_slot}
use Rattle.cb_constraints.proofs.table.Table.add_rows.Given as goal

abbrev pub invariant-loop-slot : goal.invariant-loop-slot
invariant-loop-slot l =
    (l.number ≡ l.slot-index)
    × Going l.fn.self l.self (places (length l.self.sites.items) (flat_map (λ s. s.row) (map asked_slot (drop l.slot-index l.rows)))) (places (length l.fn.self.sites.items) (flat_map (λ s. s.row) (map asked_slot l.rows)))
    (sites_from l.slot-index (length l.self.sites.items) (map asked_slot (drop l.slot-index l.rows))) (sites_from 0 (length l.fn.self.sites.items) (map asked_slot l.rows))
