use Rattle.std.proofs.Common.{◌≤◌, ◌+◌, ◌-◌, length, take}
use Rattle.cb_forms.specs.Internal.ScanStates.{StaysOpen}
use Rattle.cb_forms.proofs.scan_state.ScanState.open_run.Given as goal

abbrev pub invariant-loop-end : goal.invariant-loop-end
invariant-loop-end l = record {
  within : l.end ≤ length l.bytes;
  deep : l.state.depth ≤ l.fn.self.depth + l.end;
  stays : StaysOpen l.fn.self.mode l.fn.self.depth (take l.end l.bytes) l.state.mode l.state.depth;
}

abbrev pub decreases-loop-end : goal.decreases-loop-end
decreases-loop-end l = length l.bytes - l.end
