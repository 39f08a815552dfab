-- Places among others that stand in their order.
use Rattle.std.proofs.Common.{◌≡◌, ◌∙◌, ◌+◌, ℕ, true, false, List, Result, Ok, Err, Equal, ap, arith, get_or, inl, inr, is_lt, is_ok, length, refl, subst}
use Rattle.std.proofs.lemmas.Bool.{cases_lt}
use Rattle.std.proofs.lemmas.List.Sorted.{searchable_from_sorted}
use Rattle.std.proofs.lemmas.Map.Keys.{Less-from_sorted}
use Rattle.std.specs.Cmp.{tied_itself}
use Rattle.std.specs.List.Sorted.{IsBinarySearchResult, IsSearchInRange, IsSortedBy, IsStrictlySortedBy}
use Rattle.std.specs.Ordering.{ordering_reverse}
use Rattle.cb_alpha_network.proofs.Order.{place_exact, place_total}
use Rattle.cb_alpha_network.specs.Places.{place_cmp}
use Rattle.cb_alpha_network.specs.declared.node_place.NodePlace.{NodePlace}
use Rattle.cb_matches.proofs.Lists.{in_at, place_of}
use Rattle.cb_matches.specs.Chains.{In}

is_sorted : (ps : List NodePlace) → IsStrictlySortedBy place_cmp ps → IsSortedBy (λ a b. is_lt (place_cmp a b)) ps
is_sorted ps s k d low high = ap is_lt (place_total.antisymm (get_or ps (k + 1) d) (get_or ps k d) ∙ ap ordering_reverse (Less-from_sorted place_cmp ps k (k + 1) d s (omega arith) high))

module _ (ps : List NodePlace) (place : NodePlace) (sorted : IsStrictlySortedBy place_cmp ps) where
  pub found_there : (r : Result ℕ ℕ) → IsSearchInRange r (length ps) → IsBinarySearchResult (λ y. place_cmp y place) ps r → is_ok r ≡ true → In place ps
  found_there (Ok i) within found t =
      subst (λ it. In it ps) (place_exact (get_or ps i place) place (found place)) (in_at ps i place within)
  found_there (Err i) within found t = cc

  pub there_found : (r : Result ℕ ℕ) → IsSearchInRange r (length ps) → IsBinarySearchResult (λ y. place_cmp y place) ps r → In place ps → is_ok r ≡ true
  there_found (Ok i) within found h = refl
  there_found (Err i) within found h =
      let at = place_of place ps h in
      let parted = found (searchable_from_sorted place_total (λ (it : NodePlace). it) ps place (is_sorted ps sorted)) in
      let level : place_cmp (get_or ps at.0 place) place ≡ Equal = ap (λ it. place_cmp it place) (at.2 place) ∙ tied_itself place_total place in
      elim (cases_lt at.0 i) as (λ _. false ≡ true) [
        | inl l ↦ (let less = parted.0 at.0 place (omega arith) l in cc)
        | inr l ↦ (let more = parted.1 at.0 place l at.1 in cc)
      ]
