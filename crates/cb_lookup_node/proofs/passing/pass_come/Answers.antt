use Rattle.std.proofs.Common.{◌≡◌, ◌∙◌, ◌+◌, List, ℕ, ap, arith, length, subst, sym, take}
use Rattle.std.proofs.Math.Seq.{take-length}
use Rattle.cb_alpha.specs.AlphaMemories.{live}
use Rattle.cb_beta.specs.Tokens.{TokenValue}
use Rattle.cb_lookup_node.proofs.Passed.{one_by_one, together}
use Rattle.cb_lookup_node.proofs.Refiled.{one_filed}
use Rattle.cb_lookup_node.proofs.passing.pass_come.Goals as goal
use Rattle.cb_lookup_node.specs.Internal.{Stays}
use Rattle.cb_lookup_node.specs.LookupNodes.{ArePassedOn, Passes, SeesOne, in_order, passed_on}
use Rattle.cb_matches.specs.Chains.{In}
use Rattle.cb_token_lists.proofs.Arrivals.{one_more_comes}
use Rattle.cb_token_lists.proofs.Keeping.{keeps_then}
use Rattle.cb_token_lists.specs.Growth.{Comes}
use Rattle.cb_token_lists.specs.Partials.{partial_at}

pub loop-number-preserved : goal.loop-number-preserved
loop-number-preserved c =
    let js = c.args.fields.now in
    let at = partial_at c.args.lists.now.sources.now c.args.lists.now.lists.now c.args.from in
    let xs = c.args.come.now in
    let i = c.loop-number.number-index in
    let inv = c.loop-number.invariant in
    let own = c.loop-number.own in
    let own' = c.pass_one.new.own in (
      λ before filed. one_filed c.args.comparison js c.loop-number.partials c.pass_one.new.partials at (Stays before) xs i (omega arith) c.in_ok-pass_one.ensures.filed (inv.0 before filed),
      λ once has order.
          let facts = live c.args.alpha.now in
          together c.args.positive c.args.comparison js facts at (λ n. In n (take (i + 1) xs)) c.args.own.now own'
          (one_more_comes c.args.own.now own own' (λ (k : ℕ) (t : TokenValue). Passes c.args.positive (SeesOne c.args.comparison js facts (at k)) × (t ≡ passed_on k))
          (λ j k t h g. ap (λ (it : TokenValue). it.parent) (sym h.1 ∙ g.1)) xs i (omega arith) once
          (one_by_one c.args.positive c.args.comparison js facts at (λ n. In n (take i xs)) c.args.own.now own (inv.1 once has order)) (c.in_ok-pass_one.ensures.come has order)),
      keeps_then c.args.own.now own own' inv.2 c.in_ok-pass_one.ensures.keeps,
    )

pub returns-clause-come : goal.returns-clause-come
returns-clause-come c once has order =
    let at = partial_at c.args.lists.now.sources.now c.args.lists.now.lists.now c.args.from in
    let xs = c.args.come.now in
    let i = c.loop-number.number-index in
    let end : i ≡ length xs = omega (arith, c.loop-number-test.false, c.loop-number.auto.number-index-end) in
    subst (λ (it : List ℕ). Comes c.args.own.now c.loop-number.own (ArePassedOn c.args.positive (in_order c.args.comparison) c.args.fields.now (live c.args.alpha.now) at (λ n. In n it)))
    (ap (λ n. take n xs) end ∙ take-length xs) (c.loop-number.invariant.1 once has order)
