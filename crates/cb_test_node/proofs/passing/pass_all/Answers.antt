use Rattle.std.proofs.Common.{◌≡◌, ◌∙◌, List, ℕ, ap, arith, get_or, length, subst, take}
use Rattle.std.proofs.Math.Seq.{take-length}
use Rattle.cb_exprs.specs.Terms.{term_of}
use Rattle.cb_matches.specs.Chains.{In}
use Rattle.cb_test_node.proofs.Behind.{differ}
use Rattle.cb_test_node.proofs.passing.pass_all.Goals as goal
use Rattle.cb_test_node.specs.Tests.{ArePassed, IsPassed}
use Rattle.cb_token_lists.proofs.Arrivals.{none_come, one_more_comes}
use Rattle.cb_token_lists.proofs.Keeping.{come_keeps, keeps_itself, keeps_then}
use Rattle.cb_token_lists.specs.Growth.{Comes}
use Rattle.cb_token_lists.specs.Partials.{partial_at}

pub loop-number-init : goal.loop-number-init
loop-number-init c = (
  λ once.
      none_come c.args.own.now (ArePassed (term_of c.args.test.now) (partial_at c.args.lists.now.sources.now c.args.lists.now.lists.now c.args.from) (λ n. In n (take 0 c.args.come.now))) (λ t h. h.1),
  keeps_itself c.args.own.now,
)

pub loop-number-preserved : goal.loop-number-preserved
loop-number-preserved c =
    let at = partial_at c.args.lists.now.sources.now c.args.lists.now.lists.now c.args.from in
    let test = term_of c.args.test.now in
    let number = get_or c.args.come.now c.loop-number.number-index 0 in
    let inv = c.loop-number.invariant in (
      λ once.
          one_more_comes c.args.own.now c.loop-number.own c.pass_one.new.own (IsPassed test at) (differ test at) c.args.come.now c.loop-number.number-index (omega arith) once (inv.0 once) c.in_ok-pass_one.ensures,
      keeps_then c.args.own.now c.loop-number.own c.pass_one.new.own inv.1 (come_keeps c.loop-number.own c.pass_one.new.own (IsPassed test at number) c.in_ok-pass_one.ensures),
    )

pub returns-clause-come : goal.returns-clause-come
returns-clause-come c once =
    let xs = c.args.come.now in
    let i = c.loop-number.number-index in
    let end : i ≡ length xs = omega (arith, c.loop-number-test.false, c.loop-number.auto.number-index-end) in
    subst (λ (it : List ℕ). Comes c.args.own.now c.loop-number.own (ArePassed (term_of c.args.test.now) (partial_at c.args.lists.now.sources.now c.args.lists.now.lists.now c.args.from) (λ n. In n it)))
    (ap (λ n. take n xs) end ∙ take-length xs) (c.loop-number.invariant.0 once)

pub returns-clause-keeps : goal.returns-clause-keeps
returns-clause-keeps c = c.loop-number.invariant.1
