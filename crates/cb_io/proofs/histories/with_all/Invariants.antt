use Rattle.std.proofs.Common.{◌≡◌, ◌++◌, take}
use Rattle.cb_io.proofs.histories.with_all.Given as goal

abbrev pub invariant-loop-byte : goal.invariant-loop-byte
invariant-loop-byte l = l.all.items ≡ l.initial.history.items ++ take l.byte-index l.bytes
