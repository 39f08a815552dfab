use Rattle.std.proofs.Common.{◌≡◌, ◌∙◌, List, ℕ, ap, arith, get_or, length, subst, sym, take}
use Rattle.std.proofs.Math.Seq.{take-length}
use Rattle.cb_beta.specs.BetaMemories.{Gains}
use Rattle.cb_beta.specs.Tokens.{TokenValue}
use Rattle.cb_lookup_node.proofs.passing.pass_all.Goals as goal
use Rattle.cb_lookup_node.specs.Internal.{AreOf}
use Rattle.cb_lookup_node.specs.LookupNodes.{passed_on}
use Rattle.cb_matches.specs.Chains.{In}
use Rattle.cb_token_lists.proofs.Arrivals.{none_come, one_comes, one_more_comes}
use Rattle.cb_token_lists.proofs.Keeping.{come_keeps, keeps_itself, keeps_then}
use Rattle.cb_token_lists.specs.Growth.{Comes}

pub loop-number-init : goal.loop-number-init
loop-number-init c = (λ once. none_come c.args.own.now (AreOf (λ n. In n (take 0 c.args.numbers.now))) (λ t h. h.1), keeps_itself c.args.own.now)

pub loop-number-preserved : goal.loop-number-preserved
loop-number-preserved c =
    let own = c.loop-number.own in
    let own' = c.add.new.self in
    let number = get_or c.args.numbers.now c.loop-number.number-index 0 in
    let inv = c.loop-number.invariant in
    let came : Comes own own' (λ t. t ≡ passed_on number) = one_comes own own' c.in_ok-add.field-0 (passed_on number) (subst (Gains own own' c.in_ok-add.field-0) c.bare.ensures c.in_ok-add.ensures.ok) in (
      λ once.
          one_more_comes c.args.own.now own own' (λ k t. t ≡ passed_on k) (λ j k t e d. ap (λ (it : TokenValue). it.parent) (sym e ∙ d)) c.args.numbers.now c.loop-number.number-index (omega arith)
          once (inv.0 once) came,
      keeps_then c.args.own.now own own' inv.1 (come_keeps own own' (λ t. t ≡ passed_on number) came),
    )

pub returns-clause-come : goal.returns-clause-come
returns-clause-come c once =
    let xs = c.args.numbers.now in
    let i = c.loop-number.number-index in
    let end : i ≡ length xs = omega (arith, c.loop-number-test.false, c.loop-number.auto.number-index-end) in
    subst (λ (it : List ℕ). Comes c.args.own.now c.loop-number.own (AreOf (λ n. In n it))) (ap (λ n. take n xs) end ∙ take-length xs) (c.loop-number.invariant.0 once)

pub returns-clause-keeps : goal.returns-clause-keeps
returns-clause-keeps c = c.loop-number.invariant.1
