use Rattle.std.proofs.Common.{◌≡◌, ◌∙◌, None, ap, rules}
use Rattle.cb_facts.specs.FaultLists.{first_of}
use Rattle.cb_expr_forms.specs.Scopes.{is_known}
use Rattle.cb_forms.specs.Members.{members}
use Rattle.cb_rule_forms.specs.PatternFaults.{slot_row_faults, named_faults, found_slot_faults}
use Rattle.cb_rule_forms.proofs.SlotLaws.{unplaced}
use Rattle.cb_facts.specs.Places.{place_in}
use Rattle.cb_templates.specs.Slots.{names}
use Rattle.cb_rule_forms.proofs.pattern.read_slot.Goals as goal

pub returns-in_default-place : goal.returns-in_default-place
returns-in_default-place c =
    let s = c.args.scope.now in
    let slots = c.args.template.now in
    let given = c.args.given.now in
    let name = c.in-Some.name.now in
    let none : place_in (names slots) name ≡ None = search rules in
    ap (λ call. first_of (named_faults s slots given call)) c.in-Some.ensures
    ∙ ap (λ slot. first_of (found_slot_faults slot (is_known given name) (λ is_multi. slot_row_faults s is_multi (members c.in-Some.forms.now)))) (unplaced slots name none)
