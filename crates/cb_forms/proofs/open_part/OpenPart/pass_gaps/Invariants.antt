use Rattle.std.proofs.Common.{◌≡◌, ◌≤◌, ◌-◌, ℕ, [], length, take}
use Rattle.cb_forms.specs.Internal.OpenParts.{HasPassed, IsKept}
use Rattle.cb_forms.proofs.open_part.OpenPart.pass_gaps.Given as goal

abbrev pub invariant-loop-end : goal.invariant-loop-end
invariant-loop-end l = record {
  within : l.end ≤ length l.bytes;
  kept : IsKept l.self;
  none : l.self.bytes ≡ [];
  passed : (limit : ℕ) → HasPassed limit l.fn.self.spelled.items (take l.end l.bytes) l.self;
}

abbrev pub decreases-loop-end : goal.decreases-loop-end
decreases-loop-end l = length l.bytes - l.end
