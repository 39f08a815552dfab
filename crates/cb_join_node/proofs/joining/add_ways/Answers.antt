use Rattle.std.proofs.Common.{rules, ◌≡◌, ◌≢◌, ◌∙◌, ◌++◌, [], ◌∷◌, ap, map, refl, subst, sym}
use Rattle.std.proofs.lemmas.List.{append_assoc}
use Rattle.cb_fit.specs.WayValues.{way_of}
use Rattle.cb_fit.specs.Ways.{WayValue}
use Rattle.cb_join_node.proofs.Tokens.{next_apart, no_ways, ways_more}
use Rattle.cb_join_node.proofs.joining.add_ways.Goals as goal
use Rattle.cb_join_node.specs.Joins.{IsOfWay}
use Rattle.cb_join_node.specs.Nodes.{tests_of}
use Rattle.cb_matches.specs.Chains.{Chain}
use Rattle.cb_token_lists.specs.Growth.{Comes}
use Rattle.cb_token_lists.specs.Partials.{partial_at}

pub loop-way-init : goal.loop-way-init
loop-way-init g c =
    let x = c.args.asked.now.address in
    let ts = tests_of c.args.asked.now in
    let m = partial_at c.args.lists.now.sources.now c.args.lists.now.lists.now c.args.from c.args.number in
    ([], refl, λ once. no_ways x ts m c.args.number c.args.candidate c.args.index c.args.own.now)

pub loop-way-preserved : goal.loop-way-preserved
loop-way-preserved g c =
    let x = c.args.asked.now.address in
    let ts = tests_of c.args.asked.now in
    let m = partial_at c.args.lists.now.sources.now c.args.lists.now.lists.now c.args.from c.args.number in
    let inv = c.loop-way.invariant in
    let done = inv.0 in
    let w = way_of c.in-Some.way in
    let rest = map way_of c.next.new.self in
    let all = map way_of c.into_iter-way-iterator.result in
    let next : c.loop-way.way-iterator ≡ c.in-Some.way ∷ c.next.new.self = search rules in
    let step : map way_of c.loop-way.way-iterator ≡ w ∷ rest = ap (map way_of) next in
    let whole : done ++ w ∷ rest ≡ all = ap (λ it. done ++ it) (sym step) ∙ inv.1 in (
      done ++ w ∷ [],
      append_assoc done (w ∷ []) rest ∙ whole,
      λ once.
          ways_more x ts m c.args.number c.args.candidate c.args.index c.args.own.now c.loop-way.own c.add_given.new.own done w
          (next_apart done w rest (subst (Chain (λ (u : WayValue) (v : WayValue). u ≢ v)) (sym whole) once)) (inv.2 once) (subst (λ it. Comes c.loop-way.own c.add_given.new.own (IsOfWay x ts m c.args.number c.args.candidate c.args.index it)) c.in_ok-given.ensures c.in_ok-add_given.ensures),
    )
