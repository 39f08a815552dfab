use Rattle.std.proofs.Common.{◌≡◌, ◌++◌, take}
use Rattle.cb_facts.proofs.splicing.add_each.Given as goal

abbrev pub invariant-loop-field : goal.invariant-loop-field
invariant-loop-field l = l.fields.items ≡ l.initial.fields.items ++ take l.field-index l.more
