use Rattle.std.proofs.Common.{ℕ, List, subst, sym}
use Rattle.std.proofs.lemmas.Result.{on_ok_weaker}
use Rattle.cb_alpha_network.proofs.Changes.{AreFound, are_found, retracted_changes, retracted_turns}
use Rattle.cb_alpha_network.proofs.network.AlphaNetwork.retract.Goals as goal
use Rattle.cb_alpha_network.specs.Internal.{ChangesThose, IsRetracted}
use Rattle.cb_alpha_network.specs.Networks.{AlphaNetworkValue, AreAlphas, AreAtRest, NetworkChangesFrom}

pub returns-clause-changes : goal.returns-clause-changes
returns-clause-changes g c =
    let old = c.self.inside in
    let ix = c.args.index in
    let f = c.args.fact.now in
    let found : List ℕ = c.numbers_for.new.found.items in
    let ms' = c.retract_found.new.memories in
    let v : AlphaNetworkValue = record { shapes = old.shapes.slots; users = old.users.keys; memories = old.memories } in
    on_ok_weaker c.retract_found.result
    (λ done. subst (λ it. NetworkChangesFrom it (record { shapes = old.shapes.slots; users = old.users.keys; memories = ms' })) c.self.view_is
    (retracted_changes v ms' ix f found (subst (λ it. ChangesThose (λ n. IsRetracted ix) it old.memories ms') c.as_slice.ensures.value done)
    (subst (λ (it : AlphaNetworkValue). AreAtRest it.memories) (sym c.self.view_is) c.requires)))
    c.retract_found.ensures.changed

pub returns-clause-turn : goal.returns-clause-turn
returns-clause-turn g c =
    let old = c.self.inside in
    let ix = c.args.index in
    let f = c.args.fact.now in
    let found : List ℕ = c.numbers_for.new.found.items in
    let ms' = c.retract_found.new.memories in
    let v : AlphaNetworkValue = record { shapes = old.shapes.slots; users = old.users.keys; memories = old.memories } in
    let all : AreFound v f found = are_found old.asked old.numbers v _ c.self.invariant.0 f found c.in_ok-numbers_for.ensures.found in
    on_ok_weaker c.retract_found.result
    (λ done fs was rising there.
    retracted_turns v ms' ix f found (subst (λ it. ChangesThose (λ n. IsRetracted ix) it old.memories ms') c.as_slice.ensures.value done)
    c.a_fact_that_goes_turns_an_alpha_memory.ensures c.a_fact_that_is_absent_goes.ensures c.a_fact_that_is_not_selected_goes.ensures all fs
    (subst (λ it. AreAlphas it fs) (sym c.self.view_is) was) rising there)
    c.retract_found.ensures.changed
