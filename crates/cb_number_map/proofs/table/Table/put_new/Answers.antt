use Rattle.std.proofs.Common.{◌≡◌, ◌∙◌, None, Some, ap, rules, set, subst, sym}
use Rattle.cb_number_map.proofs.Windows.{put_updates}
use Rattle.cb_number_map.specs.Slots.{IsFirstFree, TableUpdates, number_in}
use Rattle.cb_number_map.proofs.table.Table.put_new.Goals as goal

pub returns-clause-put : goal.returns-clause-put
returns-clause-put c = λ _.
    let key = c.args.key in
    let next = c.in-Some.next in
    let index = c.in-Some-room_for.index in
    let xs = c.self.inside.slots.items in
    let absent : number_in c.as_slice.result.now key ≡ None = c.room_for.ensures.absent (λ none. absurd (let no : None ≡ Some index = sym none ∙ c.in-Some-room_for.is in cc)) in
    subst (λ it. TableUpdates it (set xs index (record { key = key; next = next })) key (Some c.args.number)) c.self.view_is
    (put_updates xs key c.args.number next index (search rules) (subst (λ it. IsFirstFree it key index) c.as_slice.ensures.value c.in-Some-room_for.ensures.room)
    (ap (λ it. number_in it key) (sym c.as_slice.ensures.value) ∙ absent))
