use Rattle.std.proofs.Common.{◌≡◌, take}
use Rattle.cb_branch.proofs.entering.copied.Given as goal

abbrev pub invariant-loop-field : goal.invariant-loop-field
invariant-loop-field l = l.copy.items ≡ take l.field-index l.fields
