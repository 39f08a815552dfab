use Rattle.std.proofs.Common.{◌≡◌, ◌<◌, ◌≤◌, ℕ, Option, None, get_or, length, map}
use Rattle.std.specs.List.{All}
use Rattle.cb_alpha.specs.Internal.Joined.{IsFiled, IsFiledBut, JoinIndexValue, fields_of}
use Rattle.cb_facts.specs.Facts.{FactValue}
use Rattle.cb_alpha.proofs.join_index.remove_from_all.Given as goal

abbrev pub invariant-loop-join : goal.invariant-loop-join
invariant-loop-join l = record {
  fields : map fields_of l.joins ≡ map fields_of l.initial.joins;
  ahead : (k : ℕ) (d : JoinIndexValue) → l.join-index ≤ k → k < length l.joins → get_or l.joins k d ≡ get_or l.initial.joins k d;
  done : (found : ℕ → Option (ℕ × FactValue)) → found l.number ≡ None → All (IsFiledBut l.number found) l.initial.joins
      → (k : ℕ) (d : JoinIndexValue) → k < l.join-index → k < length l.joins → IsFiled found (get_or l.joins k d);
}
