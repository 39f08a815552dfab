use Rattle.std.proofs.Common.{◌≡◌, ◌⊎◌, List, inl, inr, rules, subst, sym}
use Rattle.cb_alpha_network.proofs.network.AlphaNetwork.places_changed.Goals as goal
use Rattle.cb_alpha_network.specs.Networks.{AlphaNetworkValue, HasChanged, IsAtRest, memory_in}
use Rattle.cb_alpha_network.specs.declared.last_places.LastPlaces.{LastPlaces}
use Rattle.cb_alpha_network.specs.declared.node_place.NodePlace.{NodePlace}
use Rattle.cb_matches.specs.Chains.{In}

pub returns-clause-changed : goal.returns-clause-changed
returns-clause-changed g c =
    let old = c.self.inside in
    let v : AlphaNetworkValue = record { shapes = old.shapes.slots; users = old.users.keys; memories = old.memories } in
    let last : LastPlaces = c.find.new.self in
    let told : List NodePlace = c.extend_from_slice.new.self.items in
    let are : told ≡ last.places.items = search rules in
    let all : HasChanged v told = λ n p place is. elim (c.changed.ensures n) as (λ _. IsAtRest (memory_in old.memories n) ⊎ In place told) [
      | inl rest ↦ inl rest
      | inr i ↦ inr (subst (In place) (sym are) (c.in_ok-find.ensures.last.found n place (subst (In n) (sym c.in_ok-find.ensures.those) i) is.used))
    ] in
    subst (λ it. HasChanged it told) c.self.view_is all
