use Rattle.std.proofs.Common.{false, refl, ap}
use Rattle.cb_forms.specs.Cutter.{readings_in}
use Rattle.cb_forms.proofs.CutterLaws.{in_step-new}
use Rattle.cb_forms.proofs.cutter.Cutter.new.Goals as goal

pub invariant_of-result : goal.invariant_of-result
invariant_of-result c =
    λ _. in_step-new c.args.limit c.new-2.result.items (readings_in c.new-3.result.items) c.new.result false c.new-2.ensures (ap readings_in c.new-3.ensures) refl c.new.ensures.spelled c.new.ensures.kept
