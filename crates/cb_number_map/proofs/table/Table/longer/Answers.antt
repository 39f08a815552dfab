use Rattle.std.proofs.Common.{◌≡◌, ◌∙◌, ap, replicate, rules}
use Rattle.cb_number_map.proofs.Windows.{free_table}
use Rattle.cb_number_map.specs.Slots.{number_in, unused}
use Rattle.cb_number_map.proofs.table.Table.longer.Goals as goal

pub returns : goal.returns
returns c = λ key.
    let all : c.in_ok-vec.field-0.items ≡ replicate c.longer.result unused = c.in_ok-vec.ensures.items_if_clones_equal (search rules) in
    ap (λ it. number_in it key) all ∙ free_table key c.longer.result
