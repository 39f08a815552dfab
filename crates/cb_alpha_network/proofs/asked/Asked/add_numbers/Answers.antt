use Rattle.std.proofs.Common.{◌≡◌, ◌⊎◌, ◌∙◌, ◌+◌, suc, ℕ, List, [], None, Some, ap, arith, drop, inl, inr, length, rules, subst, sym}
use Rattle.std.proofs.lemmas.List.{at_drop_all}
use Rattle.std.specs.BTreeMap.{get}
use Rattle.cb_alpha_network.proofs.Found.{AreAdded}
use Rattle.cb_alpha_network.proofs.SpotLaws.{no_answer, one_answer, one_less_ahead, spot_with}
use Rattle.cb_alpha_network.proofs.asked.Asked.add_numbers.Goals as goal
use Rattle.cb_alpha_network.specs.Asked.{name_cmp}
use Rattle.cb_alpha_network.specs.declared.spots.Spot.{Spot}
use Rattle.cb_matches.specs.Chains.{In}

pub loop-spot-preserved : goal.loop-spot-preserved
loop-spot-preserved c =
    λ s h.
    let all = c.as_slice-spot-items.result.now in
    let i = c.loop-spot.spot-index in
    let at : Spot = c.spot-item.result in
    let table = c.args.self.now in
    let f = c.args.fact.now in
    let numbers = c.add_numbers_at.new.found.items in
    let now = c.in_ok-add_numbers_at.ensures in
    let next : suc i ≡ i + 1 = omega arith in
    elim (c.loop-spot.invariant s h) as (λ _. AreAdded table f numbers s ⊎ In s (drop (i + 1) all)) [
      | inl done ↦ inl (λ values n is there. now.stay n (done values n is there))
      | inr more ↦ elim (one_less_ahead all i at s more) as (λ _. AreAdded table f numbers s ⊎ In s (drop (i + 1) all)) [
        | inl e ↦ inl (subst (AreAdded table f numbers) (c.spot-item.is ∙ sym e) now.added)
        | inr later ↦ inr (subst (λ n. In s (drop n all)) next later)
      ]
    ]

pub returns : goal.returns
returns c =
    λ wanted n there wants.
    let spots = c.args.self.now.spots in
    let relation = c.relation_name.result.now in
    let here : relation ≡ wanted.relation = c.relation_name.ensures ∙ sym wants.0 in
    let found : get name_cmp spots relation ≡ Some c.in-Some.spots.now = sym c.in-Some.ensures.value in
    let spot : Spot = spot_with wanted.places there.0 in
    let all = c.as_slice-spot-items.result.now in
    let same : there.1.0 ≡ all = one_answer (get name_cmp spots wanted.relation) there.1.1 (ap (get name_cmp spots) (sym here) ∙ found) ∙ sym c.as_slice-spot-items.ensures in
    elim (c.loop-spot.invariant spot (subst (In spot) same there.1.2)) as (λ _. In n c.loop-spot.found.items) [
      | inl added ↦ added wanted.values n wants.1 there.2
      | inr more ↦ absurd (subst (In spot) (at_drop_all (λ (it : List Spot). it) all c.loop-spot.spot-index (omega arith)) more)
    ]

pub returns-in_default : goal.returns-in_default
returns-in_default c =
    λ wanted n there wants.
    let spots = c.args.self.now.spots in
    let relation = c.relation_name.result.now in
    let here : relation ≡ wanted.relation = c.relation_name.ensures ∙ sym wants.0 in
    let none : get name_cmp spots relation ≡ None = search rules in
    no_answer (get name_cmp spots wanted.relation) there.1.1 (ap (get name_cmp spots) (sym here) ∙ none)
