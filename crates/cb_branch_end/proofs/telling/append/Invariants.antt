use Rattle.std.proofs.Common.{◌≡◌, ◌++◌, ℕ, map}
use Rattle.cb_matches.specs.Keys.{KeyValue}
use Rattle.cb_branch_end.proofs.telling.append.Given as goal

abbrev pub invariant-loop-key : goal.invariant-loop-key
invariant-loop-key l = record {
  keys : l.told.items ++ map (λ (p : KeyValue × ℕ). p.0) l.key-iterator.rest.items ≡ l.initial.told.items ++ map (λ (p : KeyValue × ℕ). p.0) l.initial.key-iterator.rest.items;
  numbers : l.told_numbers.items ++ map (λ (p : KeyValue × ℕ). p.1) l.key-iterator.rest.items ≡ l.initial.told_numbers.items ++ map (λ (p : KeyValue × ℕ). p.1) l.initial.key-iterator.rest.items;
}
