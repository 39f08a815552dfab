use Rattle.std.proofs.Common.{◌≢◌, ℕ, take}
use Rattle.cb_exprs.specs.Terms.{term_of}
use Rattle.cb_matches.specs.Chains.{Chain, In}
use Rattle.cb_test_node.specs.Tests.{ArePassed}
use Rattle.cb_token_lists.specs.Growth.{Comes}
use Rattle.cb_token_lists.specs.Keeping.{KeepsTokens}
use Rattle.cb_token_lists.specs.Partials.{partial_at}
use Rattle.cb_test_node.proofs.passing.pass_all.Given as goal

abbrev pub invariant-loop-number : goal.invariant-loop-number
invariant-loop-number l =
    (Chain (λ (i : ℕ) (j : ℕ). i ≢ j) l.come
    → Comes l.initial.own l.own (ArePassed (term_of l.test) (partial_at l.lists.sources.now l.lists.lists.now l.from) (λ n. In n (take l.number-index l.come))))
    × KeepsTokens l.initial.own l.own
