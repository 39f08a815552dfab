use Rattle.std.proofs.Common.{◌≡◌, ◌∙◌, ◌++◌, ◌∷◌, [], IsSome, None, Some, ap, inl, refl, rules, subst, sym}
use Rattle.std.specs.BTreeMap as tree
use Rattle.std.specs.BTreeMap.{get}
use Rattle.cb_alpha_network.proofs.SpotLaws.{put_keeps, set_keeps}
use Rattle.cb_alpha_network.proofs.asked.add_spot.Goals as goal
use Rattle.cb_alpha_network.specs.Asked.{name_cmp}
use Rattle.cb_alpha_network.specs.declared.spots.Spot.{Spot}
use Rattle.cb_matches.proofs.Lists.{in_left, in_right}
use Rattle.cb_matches.specs.Chains.{In}

pub returns-in_err-push-in-Some-clause-stay : goal.returns-in_err-push-in-Some-clause-stay
returns-in_err-push-in-Some-clause-stay c =
    let old = c.args.spots.now in
    let was = c.in-Some.others.now in
    let is = c.push.new.self in
    let there : get name_cmp old c.args.relation ≡ Some was = sym c.in-Some.ensures.value in
    let updates : tree.Updates name_cmp old (c.get_mut.follows.lender is) c.args.relation (Some is) = (c.get_mut.follows.holds is).3 (subst IsSome (sym there) refl) in
    λ q places n. set_keeps old (c.get_mut.follows.lender is) c.args.relation was is (λ s. Unit {0}) there updates
    (λ s p i. subst (In s) (sym c.in_err-push-in-Some.ensures.err) i) q places n tt

pub returns-in_ok-push-in-Some-clause-there : goal.returns-in_ok-push-in-Some-clause-there
returns-in_ok-push-in-Some-clause-there c =
    let old = c.args.spots.now in
    let was = c.in-Some.others.now in
    let is = c.push.new.self in
    let there : get name_cmp old c.args.relation ≡ Some was = sym c.in-Some.ensures.value in
    let updates : tree.Updates name_cmp old (c.get_mut.follows.lender is) c.args.relation (Some is) = (c.get_mut.follows.holds is).3 (subst IsSome (sym there) refl) in
    let spot : Spot = c.args.spot in
    (is, updates.1, subst (In spot) (sym c.in_ok-push-in-Some.ensures.ok) (in_right spot was (spot ∷ []) (inl refl)))

pub returns-in_ok-push-in-Some-clause-stay : goal.returns-in_ok-push-in-Some-clause-stay
returns-in_ok-push-in-Some-clause-stay c =
    let old = c.args.spots.now in
    let was = c.in-Some.others.now in
    let is = c.push.new.self in
    let there : get name_cmp old c.args.relation ≡ Some was = sym c.in-Some.ensures.value in
    let updates : tree.Updates name_cmp old (c.get_mut.follows.lender is) c.args.relation (Some is) = (c.get_mut.follows.holds is).3 (subst IsSome (sym there) refl) in
    λ q places n. set_keeps old (c.get_mut.follows.lender is) c.args.relation was is (λ s. Unit {0}) there updates
    (λ s p i. subst (In s) (sym c.in_ok-push-in-Some.ensures.ok) (in_left s was (c.args.spot ∷ []) i)) q places n tt

pub returns-in_ok-insert-in-None-clause-stay : goal.returns-in_ok-insert-in-None-clause-stay
returns-in_ok-insert-in-None-clause-stay c =
    let old = c.args.spots.now in
    let none : get name_cmp old c.args.relation ≡ None = search rules in
    let updates : tree.Updates name_cmp old c.insert.new.self c.args.relation (Some c.push-in-None.new.self) = search rules in
    put_keeps old c.insert.new.self c.args.relation c.push-in-None.new.self none updates
