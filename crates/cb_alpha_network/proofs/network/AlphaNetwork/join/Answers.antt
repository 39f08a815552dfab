use Rattle.std.proofs.Common.{subst, sym}
use Rattle.cb_alpha_network.proofs.Changes.{if_on}
use Rattle.cb_alpha_network.proofs.Shapes.{joined_alphas, joined_keeps, joined_rest}
use Rattle.cb_alpha_network.proofs.network.AlphaNetwork.join.Goals as goal
use Rattle.cb_alpha_network.specs.Networks.{AlphaNetworkValue, AreAlphas, AreAtRest, KeepsShapes}

pub returns-clause-stay : goal.returns-clause-stay
returns-clause-stay g c =
    let old = c.self.inside in
    let v : AlphaNetworkValue = record { shapes = old.shapes.slots; users = old.users.keys; memories = old.memories } in
    let v' : AlphaNetworkValue = record { shapes = old.shapes.slots; users = old.users.keys; memories = c.add_join.new.self } in
    if_on c.add_join.result
    (λ join gains. subst (λ it. KeepsShapes it v') c.self.view_is
    (joined_keeps v c.add_join.new.self c.args.number join c.args.fields.items gains c.add_join.ensures.others c.a_join_more_leaves_the_facts.ensures.others))
    c.add_join.ensures.ok

pub returns-clause-rest : goal.returns-clause-rest
returns-clause-rest g c =
    let old = c.self.inside in
    let v : AlphaNetworkValue = record { shapes = old.shapes.slots; users = old.users.keys; memories = old.memories } in
    if_on c.add_join.result
    (λ join gains.
    joined_rest v c.add_join.new.self c.args.number join c.args.fields.items gains c.add_join.ensures.others
    (subst (λ (it : AlphaNetworkValue). AreAtRest it.memories) (sym c.self.view_is) c.requires.rest))
    c.add_join.ensures.ok

pub returns-clause-alphas : goal.returns-clause-alphas
returns-clause-alphas g c =
    let old = c.self.inside in
    let v : AlphaNetworkValue = record { shapes = old.shapes.slots; users = old.users.keys; memories = old.memories } in
    if_on c.add_join.result
    (λ join gains fs was.
    joined_alphas v c.add_join.new.self c.args.number join c.args.fields.items gains c.add_join.ensures.others c.a_join_more_leaves_the_facts.ensures.facts fs
    (subst (λ it. AreAlphas it fs) (sym c.self.view_is) was))
    c.add_join.ensures.ok
