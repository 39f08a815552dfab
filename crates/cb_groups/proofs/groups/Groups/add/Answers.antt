use Rattle.std.proofs.Common.{◌≡◌, ◌∙◌, None, Option, Some, ap, set, subst, sym}
use Rattle.cb_groups.proofs.Places.{failed, no_place, pushed_places, pushed_updates, same_groups, same_places}
use Rattle.cb_groups.specs.Groups.{Updates, group_of}
use Rattle.cb_groups.specs.Internal.{ArePlaces, membership, standing}
use Rattle.cb_groups.specs.declared.standing.Place.{Place}
use Rattle.cb_groups.proofs.groups.Groups.add.Goals as goal

pub returns-in_err-reach_place-clause-err : goal.returns-in_err-reach_place-clause-err
returns-in_err-reach_place-clause-err c =
    failed c.from_residual-in_err-reach_place.result c.self.inside.places.items c.reach_place.new.places.items c.args.self.now c.self.view_is c.reach_place.ensures.same

pub returns-in_err-position-clause-err : goal.returns-in_err-position-clause-err
returns-in_err-position-clause-err c =
    failed c.from_residual-in_err-position.result c.self.inside.places.items c.reach_place.new.places.items c.args.self.now c.self.view_is c.reach_place.ensures.same

pub invariant_of-self-2 : goal.invariant_of-self-2
invariant_of-self-2 c =
    let old = c.self.inside in
    let ls = c.reach_list.new.lists.items in
    let ps = c.reach_place.new.places.items in
    let are = same_places old.lists.items ls old.places.items ps c.reach_list.ensures.same c.reach_place.ensures.same c.self.invariant in
    let free : standing ps c.args.member ≡ None = c.reach_place.ensures.same c.args.member ∙ no_place old.places.items c.args.member (ap (λ it. group_of it c.args.member) c.self.view_is ∙ c.requires) in
    subst (λ (it : Option Place). ArePlaces c.push_to.new.lists.items (set ps c.args.member it)) (sym c.at.ensures)
    (pushed_places ls c.push_to.new.lists.items ps are c.args.group c.args.member c.in_ok-position.position free c.in_ok-reach_place.ensures.long c.in_ok-position.ensures.pushed)

pub returns-clause-ok : goal.returns-clause-ok
returns-clause-ok c =
    let old = c.self.inside in
    let ls = c.reach_list.new.lists.items in
    let ps = c.reach_place.new.places.items in
    let are = same_places old.lists.items ls old.places.items ps c.reach_list.ensures.same c.reach_place.ensures.same c.self.invariant in
    let free : standing ps c.args.member ≡ None = c.reach_place.ensures.same c.args.member ∙ no_place old.places.items c.args.member (ap (λ it. group_of it c.args.member) c.self.view_is ∙ c.requires) in
    let is = subst (λ (it : Option Place). Updates (membership ps) (membership (set ps c.args.member it)) c.args.member (Some c.args.group)) (sym c.at.ensures)
    (pushed_updates ls c.push_to.new.lists.items ps are c.args.group c.args.member c.in_ok-position.position free c.in_ok-reach_place.ensures.long c.in_ok-position.ensures.pushed) in
    record {
      changed = is.changed;
      others = λ m d. is.others m d ∙ (same_groups old.places.items ps c.reach_place.ensures.same m ∙ ap (λ it. group_of it m) c.self.view_is);
    }
