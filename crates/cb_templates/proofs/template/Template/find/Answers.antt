use Rattle.std.proofs.Common.{◌≡◌, Some, rules}
use Rattle.cb_facts.specs.Places.{place_in}
use Rattle.cb_templates.specs.Slots.{names}
use Rattle.cb_templates.proofs.PlaceLaws.{slot_lent}
use Rattle.cb_templates.proofs.template.Template.find.Goals as goal

pub returns : goal.returns
returns c =
    let at : place_in (names c.args.self.now) c.args.name.now ≡ Some c.in_ok-place.place = search rules in
    slot_lent c.args.self.now c.args.name.now c.in_ok-place.place c.get.result at (search rules)
