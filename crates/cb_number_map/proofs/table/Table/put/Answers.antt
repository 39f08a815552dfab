use Rattle.std.proofs.Common.{◌∙◌, Some, ap, rules, set, subst}
use Rattle.cb_number_map.proofs.Windows.{put_updates}
use Rattle.cb_number_map.specs.Slots.{IsFirstFree, TableUpdates, number_in}
use Rattle.cb_number_map.proofs.table.Table.put.Goals as goal

pub returns-clause-put : goal.returns-clause-put
returns-clause-put c = λ _.
    let key = c.args.key in
    let next = c.in-Some.next in
    let index = c.in-Some-free_slot.index in
    let xs = c.self.inside.slots.items in
    subst (λ it. TableUpdates it (set xs index (record { key = key; next = next })) key (Some c.args.number)) c.self.view_is
    (put_updates xs key c.args.number next index (search rules) (subst (λ it. IsFirstFree it key index) c.as_slice.ensures.value c.in-Some-free_slot.ensures)
    (ap (λ it. number_in it key) c.self.view_is ∙ c.requires))
