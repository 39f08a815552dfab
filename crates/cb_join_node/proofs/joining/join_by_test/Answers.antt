use Rattle.std.proofs.Common.{◌≡◌, ◌≢◌, ◌∙◌, ℕ, ap, map, subst, sym}
use Rattle.cb_beta.proofs.Losses.{on_ok}
use Rattle.cb_exprs.specs.Bindings.{Bindings}
use Rattle.cb_facts.specs.Facts.{FactValue}
use Rattle.cb_fit.specs.WayValues.{way_of}
use Rattle.cb_fit.specs.Ways.{WayValue, ways}
use Rattle.cb_join_node.proofs.Tokens.{ways_apart}
use Rattle.cb_join_node.proofs.joining.join_by_test.Goals as goal
use Rattle.cb_join_node.specs.Joins.{IsOfWays, IsPair}
use Rattle.cb_join_node.specs.Nodes.{tests_of}
use Rattle.cb_matches.specs.Chains.{Chain}
use Rattle.cb_matches.specs.Matches.{with_address}
use Rattle.cb_nodes.proofs.Grown.{ways_rise}
use Rattle.cb_token_lists.specs.Growth.{Comes}
use Rattle.cb_token_lists.specs.Partials.{partial_at}

pub returns-clause-come : goal.returns-clause-come
returns-clause-come g c =
    let x = c.args.asked.now.address in
    let p = c.args.asked.now.pattern in
    let ts = tests_of c.args.asked.now in
    let f : ℕ × FactValue = (c.one.inside.index, c.one.inside.fact) in
    let n = c.args.number in
    let k = c.args.candidate in
    let m = partial_at c.args.lists.now.sources.now c.args.lists.now.lists.now c.args.from n in
    let own = c.args.own.now in
    let own' = c.add_ways.new.own in
    let ws = map way_of c.in_ok-ways.ways.items in
    let seen = c.reading.result in
    let env : Bindings = with_address x f.0 m.env in
    let known : with_address x f.0 (partial_at seen.lists.sources.now seen.lists.lists.now seen.list seen.number).env ≡ env =
    ap (λ it. with_address x f.0 (partial_at it.lists.sources.now it.lists.lists.now it.list it.number).env) c.reading.ensures in
    let all : ws ≡ ways p f.1 env = c.in_ok-ways.ensures.ways ∙ ap (ways p f.1) known in
    let apart = ways_apart (ways_rise c.the_ways_rise_by_their_cuts.ensures) p f.1 env in
    on_ok c.add_ways.result
    (λ h. subst (λ (it : ℕ × FactValue). Comes own own' (IsPair x p ts m n k it)) c.one.view_is
    (subst (λ it. Comes own own' (IsOfWays x ts m n k f.0 it)) all (h (subst (Chain (λ (v : WayValue) (w : WayValue). v ≢ w)) (sym all) apart))))
    c.add_ways.ensures
