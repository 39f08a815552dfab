use Rattle.std.proofs.Common.{◌≡◌, ◌∙◌, subst, sym}
use Rattle.cb_alpha_network.proofs.Order.{same_places}
use Rattle.cb_alpha_network.proofs.SpotLaws.{spot_with}
use Rattle.cb_alpha_network.proofs.spots.Spots.number_of.Goals as goal
use Rattle.cb_alpha_network.specs.declared.spots.Spot.{Spot}
use Rattle.cb_fit.specs.declared.field_place.FieldPlace.{FieldPlace}
use Rattle.std.specs.Prelude.{List}
use Rattle.cb_matches.proofs.Lists.{in_at}
use Rattle.cb_matches.specs.Chains.{In}

pub returns-then-eq : goal.returns-then-eq
returns-then-eq c =
    let all = c.as_slice-spot-items.result.now in
    let at : Spot = c.spot-item.result in
    let there : In at all = subst (λ (it : Spot). In it all) (sym c.spot-item.is) (in_at all c.loop-spot.spot-index at c.loop-spot-test.true) in
    let same : at.places ≡ c.args.places.now = same_places at.places c.args.places.now (sym c.eq.ensures ∙ c.if-eq.true) in
    subst (In (spot_with c.args.places.now at.number)) c.as_slice-spot-items.ensures (subst (λ (ps : List FieldPlace). In (spot_with ps at.number) all) same there)
