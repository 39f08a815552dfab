use Rattle.std.proofs.Common.{◌≤◌, ◌-◌, length, take}
use Rattle.cb_forms.specs.Internal.ScanStates.{StaysIn}
use Rattle.cb_forms.proofs.lex_mode.LexMode.run.Given as goal

abbrev pub invariant-loop-end : goal.invariant-loop-end
invariant-loop-end l = record {
  within : l.end ≤ length l.bytes;
  stays : StaysIn l.self (take l.end l.bytes);
}

abbrev pub decreases-loop-end : goal.decreases-loop-end
decreases-loop-end l = length l.bytes - l.end
