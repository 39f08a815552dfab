use Rattle.std.proofs.Common.{◌∙◌, ap, rules}
use Rattle.cb_exprs.specs.Bindings.{with_value}
use Rattle.cb_exprs.proofs.FrameLaws.{each_after}
use Rattle.cb_exprs.proofs.frames.set_each.Goals as goal

pub loop-name-preserved : goal.loop-name-preserved
loop-name-preserved c =
    let e = c.loop-name-item.result in
    let given = each_after c.args.bindings.now c.loop-name.name-index e c.args.values.now c.loop-name-test.true c.loop-name-item.is in
    c.in_ok-set.ensures.ok ∙ (ap (with_value e.0 c.in_ok-clone.field-0) c.loop-name.invariant ∙ search rules)
