-- The places of the last change: where they are forgotten, and where a user goes.
use Rattle.std.proofs.Common.{◌≡◌, List, [], subst, sym}
use Rattle.std.specs.BTreeMap.{is_at}
use Rattle.std.specs.List.Sorted.{IsStrictlySortedBy}
use Rattle.std.specs.Set.{remove_key}
use Rattle.cb_alpha_network.proofs.Pieces.{key_left}
use Rattle.cb_alpha_network.proofs.Users.{user_at, user_cmp}
use Rattle.cb_alpha_network.specs.LastPlaces.{AreLast}
use Rattle.cb_alpha_network.specs.Places.{place_cmp}
use Rattle.cb_alpha_network.specs.declared.last_places.LastPlaces.{LastPlaces}
use Rattle.cb_alpha_network.specs.declared.user.User.{User}
use Rattle.cb_matches.specs.Chains.{In}

no_places : IsStrictlySortedBy place_cmp []
unfolding IsStrictlySortedBy
no_places = tt

-- none are those of no shapes, whoever uses any
pub none_last : (users : List User) (last : LastPlaces) → last.numbers.items ≡ [] → last.places.items ≡ [] → AreLast users last
none_last users last none empty = record {
  ordered = subst (IsStrictlySortedBy place_cmp) (sym empty) no_places;
  found = λ n place i at. absurd (subst (In n) none i);
}

-- a user less
pub last_left : (keys keys' : List User) (last : LastPlaces) (lost : User) → keys' ≡ remove_key (is_at (user_cmp lost)) keys → AreLast keys last → AreLast keys' last
last_left keys keys' last lost is was = record {
  ordered = was.ordered;
  found = λ n place i at. was.found n place i (key_left (is_at (user_cmp lost)) keys (user_at n place) (subst (In (user_at n place)) is at));
}
