use Rattle.std.proofs.Common.{◌≢◌, ℕ, take}
use Rattle.cb_lookup_node.specs.Internal.{AreOf}
use Rattle.cb_matches.specs.Chains.{Chain, In}
use Rattle.cb_token_lists.specs.Growth.{Comes}
use Rattle.cb_token_lists.specs.Keeping.{KeepsTokens}
use Rattle.cb_lookup_node.proofs.passing.pass_all.Given as goal

abbrev pub invariant-loop-number : goal.invariant-loop-number
invariant-loop-number l = (Chain (λ (i : ℕ) (j : ℕ). i ≢ j) l.numbers → Comes l.initial.own l.own (AreOf (λ n. In n (take l.number-index l.numbers)))) × KeepsTokens l.initial.own l.own
