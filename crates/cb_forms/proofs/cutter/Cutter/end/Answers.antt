use Rattle.std.proofs.Common.{ap}
use Rattle.cb_forms.specs.Cuts.{item_readings}
use Rattle.cb_forms.specs.Cutter.{readings_in}
use Rattle.cb_forms.proofs.CutterLaws.{in_step-new, items-end}
use Rattle.cb_forms.proofs.cutter.Cutter.end.Goals as goal

pub invariant_of-self-2 : goal.invariant_of-self-2
invariant_of-self-2 c =
    λ _. in_step-new c.self.inside.limit c.new-self-inside.result.items (readings_in c.new-self-inside-2.result.items) c.finish.new.self c.self.inside.over c.new-self-inside.ensures (ap readings_in c.new-self-inside-2.ensures) c.if-self-2.false c.in_ok-item.ensures.spelled c.in_ok-item.ensures.kept

pub returns-clause-items : goal.returns-clause-items
returns-clause-items c =
    let here = c.self.inside in
    rw (← c.self.view_is) (λ fits. items-end here.limit here.stepped.items (readings_in here.given.items) (item_readings c.in_ok-item.item) here.part here.over here.line (c.self.invariant c.if-self.false) fits c.in_ok-item.ensures.item)
