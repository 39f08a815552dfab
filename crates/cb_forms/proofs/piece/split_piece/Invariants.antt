use Rattle.std.proofs.Common.{◌<◌, ◌≤◌, ◌-◌, length}
use Rattle.cb_forms.proofs.PieceLaws.{IsPieceSoFar}
use Rattle.cb_forms.proofs.piece.split_piece.Given as goal

abbrev pub invariant-loop-end : goal.invariant-loop-end
invariant-loop-end l = record {
  begun : 0 < l.end;
  within : l.end ≤ length l.text;
  so_far : IsPieceSoFar l.text l.end l.mode;
}

abbrev pub decreases-loop-end : goal.decreases-loop-end
decreases-loop-end l = length l.text - l.end
