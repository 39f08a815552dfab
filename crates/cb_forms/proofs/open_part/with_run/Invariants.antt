use Rattle.std.proofs.Common.{◌≡◌, ◌++◌, take}
use Rattle.cb_forms.proofs.open_part.with_run.Given as goal

abbrev pub invariant-loop-byte : goal.invariant-loop-byte
invariant-loop-byte l = l.all.items ≡ l.before.items ++ take l.byte-index l.run
