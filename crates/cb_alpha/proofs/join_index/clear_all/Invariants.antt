use Rattle.std.proofs.Common.{◌≡◌, ◌<◌, ℕ, None, get_or, length, map}
use Rattle.cb_alpha.specs.Internal.Joined.{IsFiled, JoinIndexValue, fields_of}
use Rattle.cb_alpha.proofs.join_index.clear_all.Given as goal

abbrev pub invariant-loop-join : goal.invariant-loop-join
invariant-loop-join l = record {
  fields : map fields_of l.joins ≡ map fields_of l.initial.joins;
  done : (k : ℕ) (d : JoinIndexValue) → k < l.join-index → k < length l.joins → IsFiled (λ n. None) (get_or l.joins k d);
}
