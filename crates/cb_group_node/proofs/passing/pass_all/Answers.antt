use Rattle.std.proofs.Common.{◌≡◌, ◌∙◌, List, ℕ, ap, arith, get_or, length, subst, take}
use Rattle.std.proofs.Math.Seq.{take-length}
use Rattle.cb_matches.specs.Chains.{In}
use Rattle.cb_group_node.specs.Internal.{ArePassedByGroup, IsPassedByGroup}
use Rattle.cb_token_lists.specs.Growth.{Comes}
use Rattle.cb_token_lists.proofs.Arrivals.{none_come, one_more_comes}
use Rattle.cb_token_lists.proofs.Keeping.{come_keeps, keeps_itself, keeps_then}
use Rattle.cb_group_node.proofs.Settled.{differ}
use Rattle.cb_group_node.proofs.passing.pass_all.Goals as goal

pub loop-number-init : goal.loop-number-init
loop-number-init c = (λ once. none_come c.args.own.now (ArePassedByGroup c.args.positive c.args.inside.now (λ n. In n (take 0 c.args.numbers.now))) (λ t h. h.1), keeps_itself c.args.own.now)

pub loop-number-preserved : goal.loop-number-preserved
loop-number-preserved c =
    let passed = IsPassedByGroup c.args.positive c.args.inside.now in
    let number = get_or c.args.numbers.now c.loop-number.number-index 0 in
    let inv = c.loop-number.invariant in (
      λ once.
          one_more_comes c.args.own.now c.loop-number.own c.pass_one.new.own passed (differ c.args.positive c.args.inside.now) c.args.numbers.now c.loop-number.number-index (omega arith) once (inv.0 once) c.in_ok-pass_one.ensures,
      keeps_then c.args.own.now c.loop-number.own c.pass_one.new.own inv.1 (come_keeps c.loop-number.own c.pass_one.new.own (passed number) c.in_ok-pass_one.ensures),
    )

pub returns-clause-come : goal.returns-clause-come
returns-clause-come c once =
    let xs = c.args.numbers.now in
    let i = c.loop-number.number-index in
    let end : i ≡ length xs = omega (arith, c.loop-number-test.false, c.loop-number.auto.number-index-end) in
    subst (λ (it : List ℕ). Comes c.args.own.now c.loop-number.own (ArePassedByGroup c.args.positive c.args.inside.now (λ n. In n it))) (ap (λ n. take n xs) end ∙ take-length xs) (c.loop-number.invariant.0 once)

pub returns-clause-keeps : goal.returns-clause-keeps
returns-clause-keeps c = c.loop-number.invariant.1
