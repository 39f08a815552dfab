use Rattle.std.proofs.Common.{◌≡◌, length, rules, subst, sym}
use Rattle.cb_facts.specs.Internal.NamePlaces.{HasPlaces}
use Rattle.cb_facts.proofs.PlaceLaws.{has_places-push}
use Rattle.cb_facts.proofs.places.Places.push.Goals as goal

pub invariant_of-self-2 : goal.invariant_of-self-2
invariant_of-self-2 c =
    let same : c.args.place ≡ length c.self.inside.names.items = search rules in
    subst (HasPlaces c.note.new.firsts) (sym c.and-self-inside.ensures) (has_places-push c.self.inside.firsts c.note.new.firsts c.self.inside.names.items c.args.name.now c.args.place
    c.self.invariant c.in_ok-is_new.ensures.ok same)
