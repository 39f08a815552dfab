use Rattle.std.proofs.Common.{◌≡◌, ◌∙◌, List, ℕ, ap, arith, get_or, length, subst, take}
use Rattle.std.proofs.Math.Seq.{take-length}
use Rattle.cb_join_node.proofs.Tokens.{differ_by_fact}
use Rattle.cb_join_node.proofs.joining.join_facts.Goals as goal
use Rattle.cb_join_node.specs.Joins.{IsOfFact, IsOfFacts}
use Rattle.cb_join_node.specs.Nodes.{tests_of}
use Rattle.cb_matches.proofs.Lists.{in_at}
use Rattle.cb_token_lists.proofs.Arrivals.{none_come, one_more_comes}
use Rattle.cb_token_lists.specs.Growth.{Comes}
use Rattle.cb_token_lists.specs.Partials.{partial_at}

pub loop-candidate-init : goal.loop-candidate-init
loop-candidate-init g c =
    let m = partial_at c.args.lists.now.sources.now c.args.lists.now.lists.now c.args.from c.args.number in (
      λ once meet. none_come c.args.own.now
          (IsOfFacts c.args.asked.now.address c.args.asked.now.pattern (tests_of c.args.asked.now) m c.args.number c.args.alpha.now.candidates (take 0 c.args.candidates.now)) (λ t h. h.1),
      omega arith,
    )

pub loop-candidate-preserved : goal.loop-candidate-preserved
loop-candidate-preserved g c =
    let x = c.args.asked.now.address in
    let p = c.args.asked.now.pattern in
    let ts = tests_of c.args.asked.now in
    let cs = c.args.alpha.now.candidates in
    let n = c.args.number in
    let m = partial_at c.args.lists.now.sources.now c.args.lists.now.lists.now c.args.from n in
    let xs = c.args.candidates.now in
    let i = c.loop-candidate.candidate-index in
    let inv = c.loop-candidate.invariant in (
      λ once meet.
          one_more_comes c.args.own.now c.loop-candidate.own c.join_candidate.new.own (IsOfFact x p ts m n cs) (differ_by_fact x p ts m n cs) xs i (omega arith) once
          (inv.0 once meet) (c.in_ok-join_candidate.ensures.come (meet (get_or xs i 0) (in_at xs i 0 (omega arith)))),
      let l = inv.1 in let k = c.in_ok-join_candidate.ensures.probes in omega (arith, l, k),
    )

pub returns-clause-come : goal.returns-clause-come
returns-clause-come g c once meet =
    let xs = c.args.candidates.now in
    let i = c.loop-candidate.candidate-index in
    let m = partial_at c.args.lists.now.sources.now c.args.lists.now.lists.now c.args.from c.args.number in
    let end : i ≡ length xs = omega (arith, c.loop-candidate-test.false, c.loop-candidate.auto.candidate-index-end) in
    subst (λ (it : List ℕ). Comes c.args.own.now c.loop-candidate.own (IsOfFacts c.args.asked.now.address c.args.asked.now.pattern (tests_of c.args.asked.now) m c.args.number c.args.alpha.now.candidates it))
    (ap (λ n. take n xs) end ∙ take-length xs) (c.loop-candidate.invariant.0 once meet)
