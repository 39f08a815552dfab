use Rattle.std.proofs.Common.{◌≡◌, ◌∙◌, ◌++◌, [], ◌∷◌, IfSome, is_some, not, sym, ap, rules, subst}
use Rattle.cb_templates.specs.Building.{are_distinct, given_for, given_names}
use Rattle.cb_templates.specs.GivenPlaces.{AreTheirPlaces}
use Rattle.cb_templates.proofs.PlaceLaws.{distinct_still, places_after}
use Rattle.cb_templates.proofs.parts.GivenSlots.push.Goals as goal

pub invariant_of-self-2 : goal.invariant_of-self-2
invariant_of-self-2 c =
    let slots = c.self.inside.slots.items in
    let slot = c.args.slot in
    let after : c.push.new.self.items ≡ slots ++ slot ∷ [] = search rules in
    let named : IfSome c.note.new.places (λ p. p ≡ given_names slots ++ slot.0 ∷ []) = search rules in
    let new : c.in_ok-is_new.is_new ≡ not (is_some (given_for slots slot.0)) = search rules in (
      subst (AreTheirPlaces c.note.new.places) (sym after) (places_after c.note.new.places slots slot named),
      c.both-self-inside.ensures ∙ distinct_still slots slot c.self.inside.distinct c.in_ok-is_new.is_new c.self.invariant.1 new ∙ ap are_distinct (sym after),
    )
