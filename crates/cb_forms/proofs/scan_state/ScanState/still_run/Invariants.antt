use Rattle.std.proofs.Common.{◌≤◌, ◌-◌, length, take}
use Rattle.cb_forms.specs.Internal.ScanStates.{StaysOpen}
use Rattle.cb_forms.proofs.scan_state.ScanState.still_run.Given as goal

abbrev pub invariant-loop-end : goal.invariant-loop-end
invariant-loop-end l = record {
  within : l.end ≤ length l.bytes;
  stays : StaysOpen l.self.mode l.self.depth (take l.end l.bytes) l.self.mode l.self.depth;
}

abbrev pub decreases-loop-end : goal.decreases-loop-end
decreases-loop-end l = length l.bytes - l.end
