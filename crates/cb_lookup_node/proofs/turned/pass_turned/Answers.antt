use Rattle.std.proofs.Common.{ℕ, List, subst}
use Rattle.cb_beta.proofs.Losses.{on_ok}
use Rattle.cb_beta.specs.BetaMemories.{Loses}
use Rattle.cb_beta.specs.Tokens.{TokenValue}
use Rattle.cb_lookup_node.proofs.Whole.{one_once}
use Rattle.cb_lookup_node.proofs.turned.pass_turned.Goals as goal
use Rattle.cb_lookup_node.specs.Internal.{AreOf}
use Rattle.cb_matches.specs.Chains.{In}
use Rattle.cb_token_lists.proofs.Keeping.{keeps_then, lost_keeps}
use Rattle.cb_token_lists.specs.Growth.{Comes}

pub returns-clause-passed : goal.returns-clause-passed
returns-clause-passed c =
    let own₀ = c.args.own.now in
    let own₁ = c.remove_all_children.new.self in
    let own₂ = c.pass_all.new.own in
    let b = c.args.positive in
    let lost = c.args.lost.now in
    let gained = c.args.gained.now in
    on_ok c.pass_all.result
    (λ comes lost_once gained_once. (
      own₁,
      subst (λ (it : List ℕ). Loses own₀ own₁ (λ t. In t.parent it)) c.one_of.ensures c.in_ok-remove_all_children.ensures,
      subst (λ (it : List ℕ). Comes own₁ own₂ (AreOf (λ n. In n it))) c.one_of-2.ensures (comes (one_once b gained lost c.one_of-2.result.now c.one_of-2.ensures gained_once lost_once)),
    ))
    c.pass_all.ensures.come

pub returns-clause-keeps : goal.returns-clause-keeps
returns-clause-keeps c =
    let own₀ = c.args.own.now in
    let own₁ = c.remove_all_children.new.self in
    on_ok c.pass_all.result (keeps_then own₀ own₁ c.pass_all.new.own (lost_keeps own₀ own₁ (λ (t : TokenValue). In t.parent c.one_of.result.now) c.in_ok-remove_all_children.ensures)) c.pass_all.ensures.keeps
