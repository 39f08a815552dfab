use Rattle.std.proofs.Common.{◌∙◌, ap}
use Rattle.cb_number_map.proofs.Windows.{free_table}
use Rattle.cb_number_map.specs.Slots.{number_in}
use Rattle.cb_number_map.proofs.table.Table.new.Goals as goal

pub returns : goal.returns
returns c = λ key. ap (λ it. number_in it key) c.new.ensures.items ∙ free_table key 0
