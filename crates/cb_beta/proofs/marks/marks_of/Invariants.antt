use Rattle.std.proofs.Common.{take}
use Rattle.cb_beta.specs.Marks.{AreMarked}
use Rattle.cb_beta.proofs.marks.marks_of.Given as goal

abbrev pub invariant-loop-field : goal.invariant-loop-field
invariant-loop-field l = AreMarked l.marks (take l.field-index l.fields)
