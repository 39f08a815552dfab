use Rattle.std.proofs.Common.{◌≡◌, ◌∙◌, ◌+◌, List, None, Some, false, true, length, refl, rules, subst, sym}
use Rattle.std.specs.BTreeMap as tree
use Rattle.cb_alpha_network.proofs.Changes.{on_any}
use Rattle.cb_alpha_network.proofs.LastPlaces.{last_left}
use Rattle.cb_alpha_network.proofs.Numbered.{network_left, network_less, not_there}
use Rattle.cb_alpha_network.proofs.Shapes.{KeepsOthers, alphas_still, dropped, shape_less, users_less}
use Rattle.cb_alpha_network.proofs.Users.{one_user_less, other_alpha, user_at, user_stays}
use Rattle.cb_alpha_network.proofs.network.AlphaNetwork.leave.Goals as goal
use Rattle.cb_alpha_network.specs.Internal.{shape_cmp}
use Rattle.cb_alpha_network.specs.Networks.{AlphaNetworkValue, AreAlphas, IsAtRest, IsShapeOf, KeepsShapesBut, shape_in, use_count}
use Rattle.cb_alpha_network.specs.declared.user.User.{User}
use Rattle.cb_fit.specs.ShapeKeys.{key_of}
use Rattle.cb_fit.specs.Shapes.{SelectionValue}
use Rattle.cb_matches.specs.Chains.{In}

pub invariant_of-self : goal.invariant_of-self
invariant_of-self g c =
    let old = c.self.inside in
    let none : shape_in old.shapes.slots c.args.number ≡ None = search rules in (
      network_left old.asked old.asked old.numbers old.numbers old.shapes.slots old.shapes.slots old.users.keys c.remove.new.self.keys (length old.memories) (length old.memories) c.self.invariant.0 c.args.number
          (λ u d i. subst (In u) (sym c.remove.ensures.keys) (user_stays old.users.keys (user_at c.args.number c.args.place) u (other_alpha u c.args.number c.args.place d) i))
          (λ q at. absurd (not_there (shape_in old.shapes.slots c.args.number) q none at)),
      last_left old.users.keys c.remove.new.self.keys old.last (user_at c.args.number c.args.place) c.remove.ensures.keys c.self.invariant.1,
    )

pub returns-in_default-clause-others : goal.returns-in_default-clause-others
returns-in_default-clause-others g c =
    let old = c.self.inside in
    let v : AlphaNetworkValue = record { shapes = old.shapes.slots; users = old.users.keys; memories = old.memories } in
    let v' : AlphaNetworkValue = record { shapes = old.shapes.slots; users = c.remove.new.self.keys; memories = old.memories } in
    subst (λ it. KeepsShapesBut c.args.place it v') c.self.view_is
    (users_less old.shapes.slots old.users.keys c.remove.new.self.keys old.memories c.args.number c.args.place
    (λ u d i. subst (In u) (sym c.remove.ensures.keys) (user_stays old.users.keys (user_at c.args.number c.args.place) u d i)))

pub returns-in_default-clause-alphas : goal.returns-in_default-clause-alphas
returns-in_default-clause-alphas g c =
    λ fs was.
    let old = c.self.inside in
    alphas_still old.shapes.slots old.users.keys c.remove.new.self.keys old.memories fs (subst (λ it. AreAlphas it fs) (sym c.self.view_is) was)

pub invariant_of-self-then-is_used : goal.invariant_of-self-then-is_used
invariant_of-self-then-is_used g c =
    let old = c.self.inside in
    let us' : List User = c.remove-2.new.self.keys in (
      network_left old.asked old.asked old.numbers old.numbers old.shapes.slots old.shapes.slots old.users.keys us' (length old.memories) (length old.memories) c.self.invariant.0 c.args.number
          (λ u d i. subst (In u) (sym c.remove-2.ensures.keys) (user_stays old.users.keys (user_at c.args.number c.args.place) u (other_alpha u c.args.number c.args.place d) i))
          (λ q at. c.is_used.ensures.0 c.if-is_used.true),
      last_left old.users.keys us' old.last (user_at c.args.number c.args.place) c.remove-2.ensures.keys c.self.invariant.1,
    )

pub returns-then-is_used-clause-others : goal.returns-then-is_used-clause-others
returns-then-is_used-clause-others g c =
    let old = c.self.inside in
    let v : AlphaNetworkValue = record { shapes = old.shapes.slots; users = old.users.keys; memories = old.memories } in
    let v' : AlphaNetworkValue = record { shapes = old.shapes.slots; users = c.remove-2.new.self.keys; memories = old.memories } in
    subst (λ it. KeepsShapesBut c.args.place it v') c.self.view_is
    (users_less old.shapes.slots old.users.keys c.remove-2.new.self.keys old.memories c.args.number c.args.place
    (λ u d i. subst (In u) (sym c.remove-2.ensures.keys) (user_stays old.users.keys (user_at c.args.number c.args.place) u d i)))

pub returns-then-is_used-clause-alphas : goal.returns-then-is_used-clause-alphas
returns-then-is_used-clause-alphas g c =
    λ fs was.
    let old = c.self.inside in
    alphas_still old.shapes.slots old.users.keys c.remove-2.new.self.keys old.memories fs (subst (λ it. AreAlphas it fs) (sym c.self.view_is) was)

pub returns-then-is_used-clause-count : goal.returns-then-is_used-clause-count
returns-then-is_used-clause-count g c =
    let old = c.self.inside in
    let v : AlphaNetworkValue = record { shapes = old.shapes.slots; users = old.users.keys; memories = old.memories } in
    λ p is.
    let was : IsShapeOf v c.args.number p c.args.place = subst (λ it. IsShapeOf it c.args.number p c.args.place) (sym c.self.view_is) is in
    subst (λ it. length c.remove-2.new.self.keys + 1 ≡ use_count it) c.self.view_is
    (one_user_less old.users.keys c.remove-2.new.self.keys (user_at c.args.number c.args.place) c.remove-2.result was.used c.remove-2.ensures.test c.remove-2.ensures.len)

pub invariant_of-self-in-Some-try_remove : goal.invariant_of-self-in-Some-try_remove
invariant_of-self-in-Some-try_remove g c =
    let old = c.self.inside in
    let number = c.args.number in
    let us' : List User = c.remove-2.new.self.keys in
    let lost : SelectionValue = c.in-Some.selection.now in
    let there : shape_in old.shapes.slots number ≡ Some lost = search rules in
    let updates : tree.Updates shape_cmp old.numbers c.remove-3.new.self (key_of lost) None =
    subst (λ k. tree.Updates shape_cmp old.numbers c.remove-3.new.self k None) c.in_ok-shape.ensures c.remove-3.ensures.updates in (
      network_less old.asked c.remove-in-Some-try_remove.new.self old.numbers c.remove-3.new.self old.shapes.slots c.try_remove.new.self.slots old.users.keys us' (length old.memories) (length c.reset.new.self)
          c.self.invariant.0 number c.in-Some-try_remove.ensures.updates.others lost there c.in-Some-try_remove.ensures.updates.changed updates
          c.remove-in-Some-try_remove.ensures c.reset.ensures.long
          (λ u d i. subst (In u) (sym c.remove-2.ensures.keys) (user_stays old.users.keys (user_at number c.args.place) u (other_alpha u number c.args.place d) i)),
      last_left old.users.keys us' old.last (user_at number c.args.place) c.remove-2.ensures.keys c.self.invariant.1,
    )

pub returns-in-Some-try_remove-clause-others : goal.returns-in-Some-try_remove-clause-others
returns-in-Some-try_remove-clause-others g c =
    let old = c.self.inside in
    let v : AlphaNetworkValue = record { shapes = old.shapes.slots; users = old.users.keys; memories = old.memories } in
    let us' : List User = c.remove-2.new.self.keys in
    let v' : AlphaNetworkValue = record { shapes = c.try_remove.new.self.slots; users = us'; memories = c.reset.new.self } in
    let keeps : KeepsOthers c.args.number v v' = record { shapes = c.in-Some-try_remove.ensures.updates.others; memories = c.reset.ensures.others } in
    on_any c.remove-in-Some-try_remove.result
    (subst (λ it. KeepsShapesBut c.args.place it v') c.self.view_is
    (dropped v v' c.args.number keeps c.args.place
    (λ u d i. subst (In u) (sym c.remove-2.ensures.keys) (user_stays old.users.keys (user_at c.args.number c.args.place) u d i))
    (λ other i. let no : false ≡ true = sym c.if-is_used.false ∙ c.is_used.ensures.1 (other, i) in cc)))

pub returns-in-Some-try_remove-clause-alphas : goal.returns-in-Some-try_remove-clause-alphas
returns-in-Some-try_remove-clause-alphas g c =
    let old = c.self.inside in
    let v : AlphaNetworkValue = record { shapes = old.shapes.slots; users = old.users.keys; memories = old.memories } in
    let us' : List User = c.remove-2.new.self.keys in
    let v' : AlphaNetworkValue = record { shapes = c.try_remove.new.self.slots; users = us'; memories = c.reset.new.self } in
    let keeps : KeepsOthers c.args.number v v' = record { shapes = c.in-Some-try_remove.ensures.updates.others; memories = c.reset.ensures.others } in
    on_any c.remove-in-Some-try_remove.result
    (λ fs was.
    shape_less v v' c.args.number keeps fs (subst (λ it. AreAlphas it fs) (sym c.self.view_is) was) c.in-Some-try_remove.ensures.updates.changed
    (subst IsAtRest (sym c.reset.ensures.at) (record { none_gone = refl; none_come = refl })))

pub returns-in-Some-try_remove-clause-count : goal.returns-in-Some-try_remove-clause-count
returns-in-Some-try_remove-clause-count g c =
    let old = c.self.inside in
    let v : AlphaNetworkValue = record { shapes = old.shapes.slots; users = old.users.keys; memories = old.memories } in
    on_any c.remove-in-Some-try_remove.result
    (λ p is.
    let was : IsShapeOf v c.args.number p c.args.place = subst (λ it. IsShapeOf it c.args.number p c.args.place) (sym c.self.view_is) is in
    subst (λ it. length c.remove-2.new.self.keys + 1 ≡ use_count it) c.self.view_is
    (one_user_less old.users.keys c.remove-2.new.self.keys (user_at c.args.number c.args.place) c.remove-2.result was.used c.remove-2.ensures.test c.remove-2.ensures.len))
