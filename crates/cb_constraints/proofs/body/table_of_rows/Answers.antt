use Rattle.std.proofs.Common.{map}
use Rattle.cb_constraints.proofs.BodyLaws.{has_rows}
use Rattle.cb_constraints.specs.PartValues.{asked_slot}
use Rattle.cb_constraints.proofs.body.table_of_rows.Goals as goal

pub returns : goal.returns
returns c = has_rows c.new-table.result c.add_rows.new.self (map asked_slot c.args.rows.now) c.new-table.ensures.variables c.new-table.ensures.sites c.in_ok-add_rows.ensures
