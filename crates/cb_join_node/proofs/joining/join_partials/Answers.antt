use Rattle.std.proofs.Common.{◌≡◌, ◌∙◌, List, ℕ, ap, arith, get_or, length, subst, take}
use Rattle.std.proofs.Math.Seq.{take-length}
use Rattle.cb_join_node.proofs.Tokens.{differ_by_partial}
use Rattle.cb_join_node.proofs.joining.join_partials.Goals as goal
use Rattle.cb_join_node.specs.Joins.{IsOfPartials, IsPair}
use Rattle.cb_join_node.specs.Nodes.{tests_of}
use Rattle.cb_matches.proofs.Lists.{in_at}
use Rattle.cb_token_lists.proofs.Arrivals.{none_come, one_more_comes}
use Rattle.cb_token_lists.specs.Growth.{Comes}
use Rattle.cb_token_lists.specs.Partials.{partial_at}

pub loop-number-init : goal.loop-number-init
loop-number-init g c = (
  λ once meet. none_come c.args.own.now
      (IsOfPartials c.args.asked.now.address c.args.asked.now.pattern (tests_of c.args.asked.now) (partial_at c.args.lists.now.sources.now c.args.lists.now.lists.now c.args.from) (take 0 c.args.numbers.now) c.args.candidate c.args.one.now) (λ t h. h.1),
  omega arith,
)

pub loop-number-preserved : goal.loop-number-preserved
loop-number-preserved g c =
    let x = c.args.asked.now.address in
    let p = c.args.asked.now.pattern in
    let ts = tests_of c.args.asked.now in
    let at = partial_at c.args.lists.now.sources.now c.args.lists.now.lists.now c.args.from in
    let f = c.args.one.now in
    let k = c.args.candidate in
    let xs = c.args.numbers.now in
    let i = c.loop-number.number-index in
    let inv = c.loop-number.invariant in (
      λ once meet.
          one_more_comes c.args.own.now c.loop-number.own c.join_one.new.own (λ (n : ℕ). IsPair x p ts (at n) n k f) (differ_by_partial x p ts at k f) xs i (omega arith) once
          (inv.0 once meet) (c.in_ok-join_one.ensures.come (meet (get_or xs i 0) (in_at xs i 0 (omega arith)))),
      let l = inv.1 in let q = c.in_ok-join_one.ensures.probes in omega (arith, l, q),
    )

pub returns-clause-come : goal.returns-clause-come
returns-clause-come g c once meet =
    let xs = c.args.numbers.now in
    let i = c.loop-number.number-index in
    let end : i ≡ length xs = omega (arith, c.loop-number-test.false, c.loop-number.auto.number-index-end) in
    subst (λ (it : List ℕ). Comes c.args.own.now c.loop-number.own
    (IsOfPartials c.args.asked.now.address c.args.asked.now.pattern (tests_of c.args.asked.now) (partial_at c.args.lists.now.sources.now c.args.lists.now.lists.now c.args.from) it c.args.candidate c.args.one.now))
    (ap (λ n. take n xs) end ∙ take-length xs) (c.loop-number.invariant.0 once meet)
