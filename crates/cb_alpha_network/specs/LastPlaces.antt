-- The places of the nodes that the last change concerned.
use Rattle.std.specs.Prelude.{ℕ, List}
use Rattle.std.specs.List.Sorted.{IsStrictlySortedBy}
use Rattle.cb_alpha_network.specs.Places.{place_cmp}
use Rattle.cb_alpha_network.specs.declared.last_places.LastPlaces.{LastPlaces}
use Rattle.cb_alpha_network.specs.declared.node_place.NodePlace.{NodePlace}
use Rattle.cb_alpha_network.specs.declared.user.User.{User}
use Rattle.cb_matches.specs.Chains.{In}

-- the place of each node that uses a shape with one of these numbers is among these
abbrev pub HasPlaces : List User → List ℕ → List NodePlace → Type 0
HasPlaces users numbers places = (n : ℕ) (place : NodePlace) → In n numbers → In (record { alpha = n; place = place }) users → In place places

-- the places stand in their order, and those of all nodes that use the shapes with the numbers are among them
pub record AreLast (users : List User) (last : LastPlaces) : Type 0 where
  pub ordered : IsStrictlySortedBy place_cmp last.places.items
  pub found : HasPlaces users last.numbers.items last.places.items
