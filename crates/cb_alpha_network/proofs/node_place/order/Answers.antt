use Rattle.std.proofs.Common.{List, subst, sym}
use Rattle.std.proofs.lemmas.List.Filters.{dedup_is}
use Rattle.std.proofs.lemmas.List.Kept.{Contains-dedup, IsStrictlySortedBy-dedup}
use Rattle.std.proofs.lemmas.List.Sorted.{Contains-permutation}
use Rattle.std.specs.List.{dedup}
use Rattle.std.specs.List.Sorted.{IsStrictlySortedBy}
use Rattle.cb_alpha_network.proofs.Order.{place_ties, place_total, same_place}
use Rattle.cb_alpha_network.proofs.node_place.order.Goals as goal
use Rattle.cb_alpha_network.specs.Places.{place_cmp}
use Rattle.cb_alpha_network.specs.contracts.node_place.NodePlacePartialEq.TheImpl as place_eq
use Rattle.cb_alpha_network.specs.contracts.node_place.NodePlaceEq.TheImpl.Laws as place_eq_laws
use Rattle.cb_alpha_network.specs.declared.node_place.NodePlace.{NodePlace}
use Rattle.cb_matches.proofs.Lists.{contains_in, in_contains}
use Rattle.cb_matches.specs.Chains.{In}

pub returns-clause-ordered : goal.returns-clause-ordered
returns-clause-ordered c =
    let sorted : List NodePlace = c.sort_unstable.new.self.items in
    subst (IsStrictlySortedBy place_cmp) (sym (dedup_is place_eq.ghosts.eq sorted c.dedup.new.self.items c.dedup.ensures.filtered))
    (IsStrictlySortedBy-dedup place_total place_ties sorted c.sort_unstable.ensures.sorted)

pub returns-clause-stay : goal.returns-clause-stay
returns-clause-stay c =
    λ place i.
    let old : List NodePlace = c.args.places.now.items in
    let sorted : List NodePlace = c.sort_unstable.new.self.items in
    let moved = Contains-permutation old sorted place c.sort_unstable.ensures.permutation (in_contains place old i) in
    subst (In place) (sym (dedup_is place_eq.ghosts.eq sorted c.dedup.new.self.items c.dedup.ensures.filtered))
    (contains_in place (dedup place_eq.ghosts.eq sorted) (Contains-dedup place_eq_laws.laws-law same_place sorted place moved))
