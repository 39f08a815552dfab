use Rattle.std.proofs.Common.{ℕ, take}
use Rattle.cb_alpha_network.proofs.Users.{user_at}
use Rattle.cb_alpha_network.proofs.changing.add_places.Given as goal
use Rattle.cb_alpha_network.specs.declared.node_place.NodePlace.{NodePlace}
use Rattle.cb_matches.specs.Chains.{In}

abbrev pub invariant-loop-number : goal.invariant-loop-number
invariant-loop-number l =
    (n : ℕ) (place : NodePlace) → In n (take l.number-index l.numbers) → In (user_at n place) l.users.keys → In place l.places.items
