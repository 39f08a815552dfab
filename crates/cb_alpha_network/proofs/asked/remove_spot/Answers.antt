use Rattle.std.proofs.Common.{◌≡◌, ◌≢◌, ◌∙◌, ℕ, IsSome, None, Some, ap, refl, rules, subst, sym}
use Rattle.std.specs.BTreeMap as tree
use Rattle.std.specs.BTreeMap.{get}
use Rattle.cb_alpha_network.proofs.SpotLaws.{left_others, set_keeps, spot_with}
use Rattle.cb_alpha_network.proofs.asked.remove_spot.Goals as goal
use Rattle.cb_alpha_network.proofs.asked.remove_spot.Goals.{in-Some, in_default}
use Rattle.cb_alpha_network.specs.Asked.{IsSpot, Spots, name_cmp}
use Rattle.cb_matches.specs.Chains.{In}

pub returns : goal.returns
returns c =
    λ q places n apart h.
    let old = c.args.spots.now in
    let r = c.args.relation.now in
    elim c.match-get_mut.branch [
      | in-Some w ↦
          let was = w.in-Some.all.now in
          let is = w.remove.new.self in
          let there : get name_cmp old r ≡ Some was = sym w.in-Some.ensures.value in
          let updates : tree.Updates name_cmp old (c.get_mut.follows.lender is) r (Some is) = (c.get_mut.follows.holds is).3 (subst IsSome (sym there) refl) in
          c.settle.ensures q places n (subst (λ (it : Spots). IsSpot it q places n) (sym w.spots-is)
          (set_keeps old (c.get_mut.follows.lender is) r was is (λ s. s.number ≢ c.args.number) there updates
          (λ s other i. subst (In s) (sym w.remove.ensures) (left_others c.args.number was s other i)) q places n apart h))
      | in_default w ↦ c.settle.ensures q places n (subst (λ (it : Spots). IsSpot it q places n) (sym c.get_mut.follows.holds-at-none ∙ sym w.spots-is) h)
    ]
