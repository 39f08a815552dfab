use Rattle.std.proofs.Common.{subst, sym}
use Rattle.cb_alpha_network.proofs.Rest.{rest_ended}
use Rattle.cb_alpha_network.proofs.network.AlphaNetwork.end_change.Goals as goal
use Rattle.cb_alpha_network.specs.Networks.{AlphaNetworkValue, AlphasTurn, memory_in}

pub returns-clause-alphas : goal.returns-clause-alphas
returns-clause-alphas g c =
    λ fs fs' turn.
    let old = c.self.inside in
    let ended = c.end_change.ensures.ended in
    let v : AlphaNetworkValue = record { shapes = old.shapes.slots; users = old.users.keys; memories = old.memories } in
    let turned : AlphasTurn v fs fs' = subst (λ it. AlphasTurn it fs fs') (sym c.self.view_is) turn in
    record {
      over = λ n p at. c.a_change_of_an_alpha_memory_ends.ensures p (memory_in old.memories n) (memory_in c.end_change.new.self n) fs fs' (turned n p at) (ended n);
      rest = λ n. rest_ended (memory_in old.memories n) (memory_in c.end_change.new.self n) (ended n);
    }
