use Rattle.std.proofs.Common.{◌∙◌, ap, sym}
use Rattle.std.proofs.lemmas.Option.{slice_get_within}
use Rattle.cb_groups.proofs.Places.{nothing_out, out_places, out_updates, place_within, was_last}
use Rattle.cb_groups.specs.Groups.{group_of}
use Rattle.cb_groups.specs.Internal.{members_at}
use Rattle.cb_groups.proofs.groups.Groups.remove.Goals as goal

pub returns-in_default : goal.returns-in_default
returns-in_default c = nothing_out c.self.inside.places.items c.args.self.now c.self.view_is c.args.member (sym c.place_of.ensures.place ∙ c.in_default.is)

pub take_out-moved-requires : goal.take_out-moved-requires
take_out-moved-requires c =
    let at = c.in-Some.place in
    slice_get_within (members_at c.self.inside.lists.items at.group) at.position c.args.member (c.self.invariant.placed c.args.member at (sym c.place_of.ensures.place ∙ c.in-Some.is))

pub move_place-requires-clause-moved : goal.move_place-requires-clause-moved
move_place-requires-clause-moved c m e =
    let last = was_last c.self.inside.lists.items c.take_out-moved.new.lists.items c.self.inside.places.items c.self.invariant c.args.member c.in-Some.place (sym c.place_of.ensures.place ∙ c.in-Some.is)
    c.take_out-moved.ensures.out c.take_out-moved.ensures.others m (sym c.take_out-moved.ensures.moved ∙ e) in
    place_within c.self.inside.places.items m _ last.0

pub invariant_of-self : goal.invariant_of-self
invariant_of-self c =
    out_places c.self.inside.lists.items c.take_out-moved.new.lists.items c.self.inside.places.items c.self.invariant c.args.member c.in-Some.place (sym c.place_of.ensures.place ∙ c.in-Some.is)
    c.take_out-moved.ensures.out c.take_out-moved.ensures.others c.move_place.new.places.items c.move_place.ensures.gone
    (λ m e d. c.move_place.ensures.moved m (c.take_out-moved.ensures.moved ∙ e) d) (λ m n d. c.move_place.ensures.others m (λ e. n (sym c.take_out-moved.ensures.moved ∙ e)) d)

pub returns : goal.returns
returns c =
    let is = out_updates c.self.inside.lists.items c.take_out-moved.new.lists.items c.self.inside.places.items c.self.invariant c.args.member c.in-Some.place (sym c.place_of.ensures.place ∙ c.in-Some.is)
    c.take_out-moved.ensures.out c.take_out-moved.ensures.others c.move_place.new.places.items c.move_place.ensures.gone
    (λ m e d. c.move_place.ensures.moved m (c.take_out-moved.ensures.moved ∙ e) d) (λ m n d. c.move_place.ensures.others m (λ e. n (sym c.take_out-moved.ensures.moved ∙ e)) d) in
    record { changed = is.changed; others = λ m d. is.others m d ∙ ap (λ it. group_of it m) c.self.view_is }
