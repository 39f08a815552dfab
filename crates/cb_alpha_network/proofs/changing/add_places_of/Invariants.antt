use Rattle.std.proofs.Common.{◌⊎◌}
use Rattle.cb_alpha_network.proofs.Pieces.{run}
use Rattle.cb_alpha_network.proofs.Users.{user_at, uses}
use Rattle.cb_alpha_network.proofs.changing.add_places_of.Given as goal
use Rattle.cb_alpha_network.specs.declared.node_place.NodePlace.{NodePlace}
use Rattle.cb_matches.specs.Chains.{In}

abbrev pub invariant-loop-user : goal.invariant-loop-user
invariant-loop-user l = record {
  added : (place : NodePlace) → In (user_at l.number place) l.users.keys → In place l.places.items ⊎ In (user_at l.number place) (run (uses l.number) l.user-iterator);
  stay : (place : NodePlace) → In place l.initial.places.items → In place l.places.items;
}
