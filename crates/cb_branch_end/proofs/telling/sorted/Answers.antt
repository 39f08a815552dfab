use Rattle.std.proofs.Common.{ℕ, rules}
use Rattle.std.proofs.lemmas.List.Sorted.{answers_always, ranks_by}
use Rattle.std.specs.Ordering.{is_lt}
use Rattle.cb_matches.specs.Internal.KeyLaws.{key_total}
use Rattle.cb_matches.specs.Keys.{KeyValue, key_cmp}
use Rattle.cb_branch_end.proofs.telling.sorted.Goals as goal

pub returns-clause-sorted : goal.returns-clause-sorted
returns-clause-sorted c =
    c.in_ok-sort_by.ensures.sorted (λ (p : KeyValue × ℕ) (q : KeyValue × ℕ). is_lt (key_cmp p.0 q.0)) (ranks_by key_total (λ (p : KeyValue × ℕ). p.0)) (answers_always _ _ _ (λ f a r g h. search rules))
