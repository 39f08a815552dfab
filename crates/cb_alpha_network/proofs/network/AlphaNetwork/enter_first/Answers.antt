use Rattle.std.proofs.Common.{◌≡◌, ◌≢◌, ◌∙◌, ℕ, List, None, Some, ap, arith, length, refl, rules, subst, sym}
use Rattle.std.specs.BTreeMap as tree
use Rattle.std.specs.BTreeMap.{is_at}
use Rattle.std.specs.Map.{lookup}
use Rattle.cb_alpha.specs.Turning.{IsAlphaOver}
use Rattle.cb_alpha_network.proofs.Numbered.{network_more, network_stays}
use Rattle.cb_alpha_network.proofs.Pieces.{key_kept, key_there}
use Rattle.cb_alpha_network.proofs.Shapes.{KeepsOthers, others_kept, rest_put, shape_more}
use Rattle.cb_alpha_network.proofs.Users.{user_at, user_cmp, user_exact}
use Rattle.cb_alpha_network.proofs.network.AlphaNetwork.enter_first.Goals as goal
use Rattle.cb_alpha_network.specs.Internal.{IsNetwork, shape_cmp}
use Rattle.cb_alpha_network.specs.Networks.{AlphaNetworkValue, AreAlphas, AreAtRest, IsAtRest, IsShapeAt, KeepsShapes, ShapeValues, shape_at, shape_in}
use Rattle.cb_alpha_network.specs.declared.user.User.{User}
use Rattle.cb_constraints.specs.PatternValues.{PatternValue}
use Rattle.cb_fit.specs.ShapeKeys.{key_of, shape_of}
use Rattle.cb_fit.specs.Shapes.{SelectionValue, selection}
use Rattle.cb_matches.specs.Chains.{In}
use Rattle.slab.specs.Slab.{Slab}

pub invariant_of-self-in_err-insert : goal.invariant_of-self-in_err-insert
invariant_of-self-in_err-insert g c =
    let old = c.self.inside in
    let slots = ap (λ (it : Slab SelectionValue). it.slots) c.in_ok-reserve.ensures.rest_kept in (
      subst (λ (us : List User). IsNetwork old.asked old.numbers c.reserve.new.self.slots us (length old.memories)) (sym c.in_err-insert.ensures.err)
          (subst (λ (ss : ShapeValues). IsNetwork old.asked old.numbers ss old.users.keys (length old.memories)) (sym slots) c.self.invariant.0),
      c.forget.ensures c.insert.new.self.keys,
    )

pub invariant_of-self-in_err-add : goal.invariant_of-self-in_err-add
invariant_of-self-in_err-add g c =
    let old = c.self.inside in
    let slots = ap (λ (it : Slab SelectionValue). it.slots) c.in_ok-reserve.ensures.rest_kept in (
      subst (λ (ss : ShapeValues). IsNetwork c.add.new.self old.numbers ss c.insert.new.self.keys (length old.memories)) (sym slots)
          (network_stays old.asked c.add.new.self old.numbers old.numbers old.shapes.slots old.shapes.slots old.users.keys c.insert.new.self.keys (length old.memories) (length old.memories) c.self.invariant.0
          c.in_err-add.ensures.stay (λ k. refl) (λ u i. subst (In u) (sym c.in_ok-insert.ensures.keys) (key_kept user_cmp (user_at c.in-Ok.number c.args.place) old.users.keys u i)) (omega arith)),
      c.forget.ensures c.insert.new.self.keys,
    )

pub invariant_of-self-in_err-put : goal.invariant_of-self-in_err-put
invariant_of-self-in_err-put g c =
    let old = c.self.inside in
    let slots = ap (λ (it : Slab SelectionValue). it.slots) c.in_ok-reserve.ensures.rest_kept in (
      subst (λ (ss : ShapeValues). IsNetwork c.add.new.self old.numbers ss c.insert.new.self.keys (length c.put.new.self)) (sym slots)
          (network_stays old.asked c.add.new.self old.numbers old.numbers old.shapes.slots old.shapes.slots old.users.keys c.insert.new.self.keys (length old.memories) (length c.put.new.self) c.self.invariant.0
          c.in_ok-add.ensures.stay (λ k. refl) (λ u i. subst (In u) (sym c.in_ok-insert.ensures.keys) (key_kept user_cmp (user_at c.in-Ok.number c.args.place) old.users.keys u i)) c.in_err-put.ensures.long),
      c.forget.ensures c.insert.new.self.keys,
    )

pub invariant_of-self-in_err-insert-2 : goal.invariant_of-self-in_err-insert-2
invariant_of-self-in_err-insert-2 g c =
    let old = c.self.inside in
    let slots = ap (λ (it : Slab SelectionValue). it.slots) c.in_ok-reserve.ensures.rest_kept in (
      subst (λ (ss : ShapeValues). IsNetwork c.add.new.self c.insert-2.new.self ss c.insert.new.self.keys (length c.put.new.self)) (sym slots)
          (network_stays old.asked c.add.new.self old.numbers c.insert-2.new.self old.shapes.slots old.shapes.slots old.users.keys c.insert.new.self.keys (length old.memories) (length c.put.new.self) c.self.invariant.0
          c.in_ok-add.ensures.stay (λ k. ap (λ es. lookup (is_at (shape_cmp k)) es) c.in_err-insert-2.ensures.err)
          (λ u i. subst (In u) (sym c.in_ok-insert.ensures.keys) (key_kept user_cmp (user_at c.in-Ok.number c.args.place) old.users.keys u i)) c.in_ok-put.ensures.long),
      c.forget.ensures c.insert.new.self.keys,
    )

pub invariant_of-self-2 : goal.invariant_of-self-2
invariant_of-self-2 g c =
    let old = c.self.inside in
    let number = c.in-Ok.number in
    let p : PatternValue = c.args.pattern.now in
    let reserved : ShapeValues = c.reserve.new.self.slots in
    let new : ShapeValues = c.insert_reserved.new.self.slots in
    let same : c.insert_reserved.result ≡ number = search rules in
    let slots = ap (λ (it : Slab SelectionValue). it.slots) c.in_ok-reserve.ensures.rest_kept in
    let free : shape_in old.shapes.slots number ≡ None = ap (λ (ss : ShapeValues). shape_in ss number) (sym slots) ∙ (ap (shape_in reserved) (sym same) ∙ c.insert_reserved.ensures.was_vacant) in
    let there : shape_in new number ≡ Some (selection p) = ap (shape_in new) (sym same) ∙ (c.insert_reserved.ensures.updates.changed ∙ ap Some c.in_ok-selection.ensures.shape) in
    let others : (n : ℕ) → n ≢ number → shape_in new n ≡ shape_in old.shapes.slots n =
    λ n d. c.insert_reserved.ensures.updates.others n (λ e. d (e ∙ same)) ∙ ap (λ (ss : ShapeValues). shape_in ss n) slots in
    let first : (n : ℕ) (q : SelectionValue) → shape_in old.shapes.slots n ≡ Some q → key_of q ≢ shape_of p =
    λ n q at e. c.requires.first n q (ap (λ it. shape_at it n) (sym c.self.view_is) ∙ at) (e ∙ sym c.requires.shape) in
    let updates : tree.Updates shape_cmp old.numbers c.insert-2.new.self (shape_of p) (Some number) =
    subst (λ k. tree.Updates shape_cmp old.numbers c.insert-2.new.self k (Some number)) c.requires.shape c.in_ok-insert-2.ensures.updates in (
      network_more old.asked c.add.new.self old.numbers c.insert-2.new.self old.shapes.slots new old.users.keys c.insert.new.self.keys (length old.memories) (length c.put.new.self) c.self.invariant.0
          number others p free there first updates c.in_ok-add.ensures.entered c.in_ok-put.ensures.within c.in_ok-add.ensures.stay c.in_ok-put.ensures.long c.args.place
          (subst (In (user_at number c.args.place)) (sym c.in_ok-insert.ensures.keys) (key_there user_cmp (user_at number c.args.place) user_exact old.users.keys))
          (λ u i. subst (In u) (sym c.in_ok-insert.ensures.keys) (key_kept user_cmp (user_at number c.args.place) old.users.keys u i)),
      c.forget.ensures c.insert.new.self.keys,
    )

pub returns-clause-entered : goal.returns-clause-entered
returns-clause-entered g c =
    let old = c.self.inside in
    let number = c.in-Ok.number in
    let new : ShapeValues = c.insert_reserved.new.self.slots in
    let same : c.insert_reserved.result ≡ number = search rules in
    record {
      shape = ap (shape_in new) (sym same) ∙ (c.insert_reserved.ensures.updates.changed ∙ ap Some c.in_ok-selection.ensures.shape);
      used = subst (In (user_at number c.args.place)) (sym c.in_ok-insert.ensures.keys) (key_there user_cmp (user_at number c.args.place) user_exact old.users.keys);
    }

pub returns-clause-stay : goal.returns-clause-stay
returns-clause-stay g c =
    let old = c.self.inside in
    let number = c.in-Ok.number in
    let reserved : ShapeValues = c.reserve.new.self.slots in
    let new : ShapeValues = c.insert_reserved.new.self.slots in
    let same : c.insert_reserved.result ≡ number = search rules in
    let slots = ap (λ (it : Slab SelectionValue). it.slots) c.in_ok-reserve.ensures.rest_kept in
    let v : AlphaNetworkValue = record { shapes = old.shapes.slots; users = old.users.keys; memories = old.memories } in
    let v' : AlphaNetworkValue = record { shapes = new; users = c.insert.new.self.keys; memories = c.put.new.self } in
    let free : shape_at v number ≡ None = ap (λ (ss : ShapeValues). shape_in ss number) (sym slots) ∙ (ap (shape_in reserved) (sym same) ∙ c.insert_reserved.ensures.was_vacant) in
    let keeps : KeepsOthers number v v' = record {
      shapes = λ n d. c.insert_reserved.ensures.updates.others n (λ e. d (e ∙ same)) ∙ ap (λ (ss : ShapeValues). shape_in ss n) slots;
      memories = c.in_ok-put.ensures.others;
    } in
    subst (λ it. KeepsShapes it v') c.self.view_is
    (others_kept v v' number keeps free (λ u i. subst (In u) (sym c.in_ok-insert.ensures.keys) (key_kept user_cmp (user_at number c.args.place) old.users.keys u i)))

pub returns-clause-rest : goal.returns-clause-rest
returns-clause-rest g c =
    let old = c.self.inside in
    let over = c.in_ok-selection.ensures.over in
    rest_put old.memories c.put.new.self c.in-Ok.number (subst (λ (it : AlphaNetworkValue). AreAtRest it.memories) (sym c.self.view_is) c.requires.rest) c.in_ok-put.ensures.others
    (subst IsAtRest (sym c.in_ok-put.ensures.at) (record { none_gone = over.none_gone; none_come = over.none_come }))

pub returns-clause-alphas : goal.returns-clause-alphas
returns-clause-alphas g c =
    λ was.
    let fs = c.args.facts.now in
    let old = c.self.inside in
    let number = c.in-Ok.number in
    let p : PatternValue = c.args.pattern.now in
    let new : ShapeValues = c.insert_reserved.new.self.slots in
    let same : c.insert_reserved.result ≡ number = search rules in
    let slots = ap (λ (it : Slab SelectionValue). it.slots) c.in_ok-reserve.ensures.rest_kept in
    let v : AlphaNetworkValue = record { shapes = old.shapes.slots; users = old.users.keys; memories = old.memories } in
    let v' : AlphaNetworkValue = record { shapes = new; users = c.insert.new.self.keys; memories = c.put.new.self } in
    let there : IsShapeAt v' number p = ap (shape_in new) (sym same) ∙ (c.insert_reserved.ensures.updates.changed ∙ ap Some c.in_ok-selection.ensures.shape) in
    let keeps : KeepsOthers number v v' = record {
      shapes = λ n d. c.insert_reserved.ensures.updates.others n (λ e. d (e ∙ same)) ∙ ap (λ (ss : ShapeValues). shape_in ss n) slots;
      memories = c.in_ok-put.ensures.others;
    } in
    shape_more v v' number keeps fs (subst (λ it. AreAlphas it fs) (sym c.self.view_is) was) p there (subst (IsAlphaOver p fs) (sym c.in_ok-put.ensures.at) c.in_ok-selection.ensures.over)
