use Rattle.std.proofs.Common.{◌≡◌, ℕ, length}
use Rattle.cb_agenda.specs.Internal.{IsFiled, IsStampedUpTo, KeepsNames, current, active_at}
use Rattle.cb_agenda.proofs.due.pop_current.Given as goal

abbrev pub invariant-loop-rank : goal.invariant-loop-rank
invariant-loop-rank l =
    IsFiled l.lanes (active_at l.activations) × (current (active_at l.activations) l.lanes ≡ current (active_at l.initial.activations) l.initial.lanes) × ((n : ℕ) → IsStampedUpTo n l.initial.lanes → IsStampedUpTo n l.lanes) × KeepsNames l.initial.activations l.activations

abbrev pub decreases-loop-rank : goal.decreases-loop-rank
decreases-loop-rank l = length l.lanes
