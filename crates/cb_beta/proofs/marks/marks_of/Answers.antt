use Rattle.cb_beta.proofs.Marking.{one_marked}
use Rattle.cb_beta.proofs.marks.marks_of.Goals as goal

pub loop-field-preserved : goal.loop-field-preserved
loop-field-preserved c =
    one_marked c.loop-field.marks c.with_mark-marks.result c.mark.result c.args.fields.now c.loop-field.field-index c.field-item.result c.loop-field-test.true c.field-item.is
    c.mark.ensures.is c.with_mark-marks.ensures.set c.with_mark-marks.ensures.others c.loop-field.invariant
