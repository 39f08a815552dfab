use Rattle.cb_constraints.proofs.BodyLaws.{has_row}
use Rattle.cb_constraints.specs.Constraints.{constraint_of}
use Rattle.std.proofs.Common.{map}
use Rattle.cb_constraints.proofs.body.table_of_row.Goals as goal

pub returns : goal.returns
returns c =
    has_row c.new-table.result c.add_row.new.self c.args.row.now (map constraint_of c.constraints.result.now) c.new-table.ensures.variables c.new-table.ensures.sites c.constraints.ensures c.in_ok-add_row.ensures
