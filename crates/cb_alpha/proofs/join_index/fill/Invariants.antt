use Rattle.std.proofs.Common.{◌≡◌, ◌<◌, ◌≤◌, ℕ, None}
use Rattle.cb_alpha.specs.AlphaMemories.{candidate_in, values_in}
use Rattle.cb_alpha.specs.Buckets.{values_at}
use Rattle.cb_alpha.proofs.join_index.fill.Given as goal

abbrev pub invariant-loop-key : goal.invariant-loop-key
invariant-loop-key l = record {
  fields : l.join.fields ≡ l.initial.join.fields;
  filed : (n : ℕ) → n < l.key → values_at l.join.facts n ≡ values_in l.join.fields (candidate_in l.candidates.slots n);
  left : (n : ℕ) → l.key ≤ n → values_at l.join.facts n ≡ None;
}
