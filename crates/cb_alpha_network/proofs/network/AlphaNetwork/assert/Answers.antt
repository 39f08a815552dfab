use Rattle.std.proofs.Common.{◌+◌, ◌≤◌, ℕ, List, arith, subst, sym}
use Rattle.std.proofs.lemmas.Result.{on_ok_weaker}
use Rattle.cb_alpha_network.proofs.Changes.{AreFound, are_found, asserted_changes, asserted_turns, none_with}
use Rattle.cb_alpha_network.proofs.Numbered.{shapes_within}
use Rattle.cb_alpha_network.proofs.network.AlphaNetwork.assert.Goals as goal
use Rattle.cb_alpha_network.specs.Internal.{ChangesThose, IsAsserted}
use Rattle.cb_alpha_network.specs.Networks.{AlphaNetworkValue, AreAlphas, AreAtRest, HasNoFact, NetworkChangesFrom, shape_at, use_count}

pub assert_found-requires-clause-absent : goal.assert_found-requires-clause-absent
assert_found-requires-clause-absent g c =
    let old = c.self.inside in
    let v : AlphaNetworkValue = record { shapes = old.shapes.slots; users = old.users.keys; memories = old.memories } in
    none_with old.asked old.numbers v _ c.self.invariant.0 c.args.index (subst (λ it. HasNoFact it c.args.index) (sym c.self.view_is) c.requires.free)

pub returns-clause-changes : goal.returns-clause-changes
returns-clause-changes g c =
    let old = c.self.inside in
    let ix = c.args.index in
    let f = c.args.fact.now in
    let found : List ℕ = c.numbers_for.new.found.items in
    let ms' = c.assert_found.new.memories in
    let v : AlphaNetworkValue = record { shapes = old.shapes.slots; users = old.users.keys; memories = old.memories } in
    on_ok_weaker c.assert_found.result
    (λ done. subst (λ it. NetworkChangesFrom it (record { shapes = old.shapes.slots; users = old.users.keys; memories = ms' })) c.self.view_is
    (asserted_changes v ms' ix f found (subst (λ it. ChangesThose (λ n. IsAsserted (shape_at v n) ix f) it old.memories ms') c.as_slice.ensures.value done)
    (subst (λ (it : AlphaNetworkValue). AreAtRest it.memories) (sym c.self.view_is) c.requires.rest)))
    c.assert_found.ensures.changed

pub returns-clause-turn : goal.returns-clause-turn
returns-clause-turn g c =
    let old = c.self.inside in
    let ix = c.args.index in
    let f = c.args.fact.now in
    let found : List ℕ = c.numbers_for.new.found.items in
    let ms' = c.assert_found.new.memories in
    let v : AlphaNetworkValue = record { shapes = old.shapes.slots; users = old.users.keys; memories = old.memories } in
    let all : AreFound v f found = are_found old.asked old.numbers v _ c.self.invariant.0 f found c.in_ok-numbers_for.ensures.found in
    on_ok_weaker c.assert_found.result
    (λ done fs was free.
    asserted_turns v ms' ix f found (subst (λ it. ChangesThose (λ n. IsAsserted (shape_at v n) ix f) it old.memories ms') c.as_slice.ensures.value done)
    c.a_fact_that_comes_turns_an_alpha_memory.ensures c.a_fact_that_is_not_selected_comes.ensures all fs (subst (λ it. AreAlphas it fs) (sym c.self.view_is) was) free)
    c.assert_found.ensures.changed

pub returns-clause-probes : goal.returns-clause-probes
returns-clause-probes g c =
    let old = c.self.inside in
    let v : AlphaNetworkValue = record { shapes = old.shapes.slots; users = old.users.keys; memories = old.memories } in
    let most = c.assert_found.ensures.probes in
    let few = shapes_within old.asked old.numbers old.shapes.slots old.users.keys _ c.self.invariant.0 in
    subst (λ it. c.assert_found.new.meter ≤ c.args.meter.now + use_count it) c.self.view_is (omega (arith, most, few))
