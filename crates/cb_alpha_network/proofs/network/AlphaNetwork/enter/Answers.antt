use Rattle.std.proofs.Common.{◌≡◌, ◌∙◌, List, Some, ap, arith, length, refl, rules, subst, sym}
use Rattle.std.specs.BTreeMap.{get}
use Rattle.cb_alpha_network.proofs.Numbered.{network_stays}
use Rattle.cb_alpha_network.proofs.Pieces.{key_kept, key_there}
use Rattle.cb_alpha_network.proofs.Shapes.{alphas_still, users_more}
use Rattle.cb_alpha_network.proofs.Users.{user_at, user_cmp, user_exact}
use Rattle.cb_alpha_network.proofs.network.AlphaNetwork.enter.Goals as goal
use Rattle.cb_alpha_network.specs.Internal.{IsNetwork, shape_cmp}
use Rattle.cb_alpha_network.specs.Networks.{AlphaNetworkValue, AreAlphas, AreAtRest, KeepsShapes}
use Rattle.cb_alpha_network.specs.declared.user.User.{User}
use Rattle.cb_constraints.specs.PatternValues.{PatternValue}
use Rattle.cb_fit.specs.Shapes.{selection}
use Rattle.cb_matches.specs.Chains.{In}

pub invariant_of-self : goal.invariant_of-self
invariant_of-self g c =
    let old = c.self.inside in (
      subst (λ (us : List User). IsNetwork old.asked old.numbers old.shapes.slots us (length old.memories)) (sym c.in_err-insert.ensures.err) c.self.invariant.0,
      c.forget.ensures c.insert.new.self.keys,
    )

pub invariant_of-self-in-Some : goal.invariant_of-self-in-Some
invariant_of-self-in-Some g c =
    let old = c.self.inside in (
      network_stays old.asked old.asked old.numbers old.numbers old.shapes.slots old.shapes.slots old.users.keys c.insert.new.self.keys (length old.memories) (length old.memories) c.self.invariant.0
          (λ p n e. e) (λ k. refl) (λ u i. subst (In u) (sym c.in_ok-insert.ensures.keys) (key_kept user_cmp (user_at c.in-Some.number c.args.place) old.users.keys u i)) (omega arith),
      c.forget.ensures c.insert.new.self.keys,
    )

pub returns-in-Some-clause-entered : goal.returns-in-Some-clause-entered
returns-in-Some-clause-entered g c =
    let old = c.self.inside in
    let number = c.in-Some.number in
    let p : PatternValue = c.args.pattern.now in
    let at : get shape_cmp old.numbers c.in_ok-shape.shape ≡ Some number = search rules in
    let found = c.self.invariant.0.found c.in_ok-shape.shape number at in
    let same : selection found.0 ≡ selection p = c.patterns_of_one_shape_are_equal_without_variables.ensures found.0 p (found.1 ∙ c.in_ok-shape.ensures) in
    record {
      shape = found.2 ∙ ap Some same;
      used = subst (In (user_at number c.args.place)) (sym c.in_ok-insert.ensures.keys) (key_there user_cmp (user_at number c.args.place) user_exact old.users.keys);
    }

pub returns-in-Some-clause-stay : goal.returns-in-Some-clause-stay
returns-in-Some-clause-stay g c =
    let old = c.self.inside in
    let v' : AlphaNetworkValue = record { shapes = old.shapes.slots; users = c.insert.new.self.keys; memories = old.memories } in
    subst (λ it. KeepsShapes it v') c.self.view_is
    (users_more old.shapes.slots old.users.keys c.insert.new.self.keys old.memories (λ u i. subst (In u) (sym c.in_ok-insert.ensures.keys) (key_kept user_cmp (user_at c.in-Some.number c.args.place) old.users.keys u i)))

pub returns-in-Some-clause-rest : goal.returns-in-Some-clause-rest
returns-in-Some-clause-rest g c = subst (λ (it : AlphaNetworkValue). AreAtRest it.memories) (sym c.self.view_is) c.requires

pub returns-in-Some-clause-alphas : goal.returns-in-Some-clause-alphas
returns-in-Some-clause-alphas g c =
    λ was.
    let old = c.self.inside in
    let fs = c.args.facts.now in
    alphas_still old.shapes.slots old.users.keys c.insert.new.self.keys old.memories fs (subst (λ it. AreAlphas it fs) (sym c.self.view_is) was)
