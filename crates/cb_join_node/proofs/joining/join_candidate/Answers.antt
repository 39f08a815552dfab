use Rattle.std.proofs.Common.{◌≡◌, Some, subst, sym}
use Rattle.cb_alpha.proofs.ReadFacts.{same_some, some_none}
use Rattle.cb_alpha.specs.AlphaMemories.{candidate_in}
use Rattle.cb_beta.proofs.Losses.{on_ok}
use Rattle.cb_join_node.proofs.joining.join_candidate.Goals as goal
use Rattle.cb_join_node.specs.Joins.{IsOfFact, IsPair}
use Rattle.cb_join_node.specs.Nodes.{tests_of}
use Rattle.cb_token_lists.proofs.Arrivals.{come_alike, none_come}
use Rattle.cb_token_lists.specs.Partials.{partial_at}

pub returns-in-Some-clause-come : goal.returns-in-Some-clause-come
returns-in-Some-clause-come g c =
    let x = c.args.asked.now.address in
    let p = c.args.asked.now.pattern in
    let ts = tests_of c.args.asked.now in
    let cs = c.args.alpha.now.candidates in
    let n = c.args.number in
    let m = partial_at c.args.lists.now.sources.now c.args.lists.now.lists.now c.args.from n in
    let k = c.args.candidate in
    let f = c.in-Some.one.now in
    let there : candidate_in cs k ≡ Some f = sym c.in-Some.ensures in
    on_ok c.join_one.result
    (λ h meet.
    come_alike c.args.own.now c.join_one.new.own (IsPair x p ts m n k f) (IsOfFact x p ts m n cs k)
    (λ t q. (f, there, q)) (λ t q. subst (λ it. IsPair x p ts m n k it t) (same_some (candidate_in cs k) q.1 there) q.2) (h (meet f there)))
    c.join_one.ensures.come

pub returns-in-None-clause-come : goal.returns-in-None-clause-come
returns-in-None-clause-come g c meet =
    let x = c.args.asked.now.address in
    let p = c.args.asked.now.pattern in
    let ts = tests_of c.args.asked.now in
    let cs = c.args.alpha.now.candidates in
    let m = partial_at c.args.lists.now.sources.now c.args.lists.now.lists.now c.args.from c.args.number in
    none_come c.args.own.now (IsOfFact x p ts m c.args.number cs c.args.candidate) (λ t h. some_none (candidate_in cs c.args.candidate) h.1 (sym c.in-None.ensures))
