use Rattle.std.proofs.Common.{◌<◌, ◌≤◌, ◌-◌, length}
use Rattle.cb_forms.proofs.ReaderLaws.{IsPartSoFar}
use Rattle.cb_forms.proofs.reader.split_part.Given as goal

abbrev pub invariant-loop-end : goal.invariant-loop-end
invariant-loop-end l = record {
  begun : 0 < l.end;
  within : l.end ≤ length l.text;
  so_far : IsPartSoFar l.text l.end l.state.mode l.state.depth;
}

abbrev pub decreases-loop-end : goal.decreases-loop-end
decreases-loop-end l = length l.text - l.end
