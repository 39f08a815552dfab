use Rattle.std.proofs.Common.{◌≡◌, ◌∙◌, get_or, ap, map, rules}
use Rattle.cb_constraints.specs.PartValues.{asked_slot}
use Rattle.cb_rule_forms.proofs.RowLaws.{seen_more}
use Rattle.cb_rule_forms.proofs.SlotLaws.{next_faults, next_values}
use Rattle.cb_rule_forms.proofs.pattern.read_slots.Goals as goal

pub loop-form-preserved : goal.loop-form-preserved
loop-form-preserved c =
    let s = c.args.scope.now in
    let slots = c.args.template.now in
    let forms = c.args.forms.now in
    let i = c.loop-form.form-index in
    let form = c.form-item.result in
    let slot = asked_slot c.in_ok-slot.slot in
    let is : get_or forms i form ≡ form = search rules in
    let inv = c.loop-form.invariant in (
      next_faults s slots c.loop-form.given c.push.new.self forms i form slot c.loop-form-test.true is inv.0 c.in_ok-slot.ensures.0 c.in_ok-slot.ensures.1 c.in_ok-push.ensures,
      next_values s.templates slots forms i form slot (map asked_slot c.loop-form.slots.items) (map asked_slot c.push-in-loop-form.new.self.items) _ c.loop-form-test.true is
          (ap (map asked_slot) c.in_ok-push-2.ensures.items ∙ seen_more asked_slot c.loop-form.slots.items c.in_ok-slot.slot) c.in_ok-slot.ensures.1 inv.1,
    )
