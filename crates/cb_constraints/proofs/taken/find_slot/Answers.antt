use Rattle.std.proofs.Common.{◌≡◌, [], MatchOption, Some, rules, subst, sym}
use Rattle.std.specs.List.{slice_get}
use Rattle.cb_constraints.proofs.PartLaws.{a_row}
use Rattle.cb_constraints.specs.Internal.RowFields.{row_fields}
use Rattle.cb_constraints.proofs.taken.find_slot.Goals as goal

pub returns-in-Some : goal.returns-in-Some
returns-in-Some c =
    let here : slice_get c.args.rows.now c.args.row ≡ Some c.in-Some.found.now = search rules in
    subst (λ xs. MatchOption c.slot_fields.result (xs ≡ []) (λ f. row_fields f ≡ xs)) (sym (a_row c.args.rows.now c.args.row c.args.slots.now c.in-Some.found.now here)) c.slot_fields.ensures
