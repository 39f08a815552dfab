use Rattle.std.proofs.Common.{◌≡◌, ◌∙◌, None, Some, ap, rules}
use Rattle.std.specs.Option.{option_copied}
use Rattle.std.specs.Slice.{IsItemAt}
use Rattle.cb_templates.specs.Building.{given_names}
use Rattle.cb_facts.specs.Places.{place_in}
use Rattle.cb_templates.proofs.PlaceLaws.{values_at, values_of}
use Rattle.cb_templates.proofs.parts.given_at.Goals as goal

pub returns-in_err-slot : goal.returns-in_err-slot
returns-in_err-slot c =
    let at : place_in (given_names c.args.slots.now) c.args.name.now ≡ Some c.in_ok-place.place = search rules in
    let lent : IsItemAt c.args.slots.now c.in_ok-place.place c.get.result = search rules in
    let none : c.get.result ≡ None = search rules in
    let gone : c.from_residual-in_err-slot.result ≡ None = search rules in
    rw gone (values_at c.args.slots.now c.args.name.now c.in_ok-place.place c.get.result at lent ∙ ap (λ r. values_of (option_copied r)) none)

pub returns : goal.returns
returns c =
    let at : place_in (given_names c.args.slots.now) c.args.name.now ≡ Some c.in_ok-place.place = search rules in
    let lent : IsItemAt c.args.slots.now c.in_ok-place.place c.get.result = search rules in
    let some : c.get.result ≡ Some c.in_ok-slot.slot = search rules in
    let values : c.in_ok-slot.slot.now.1 ≡ c.as_slice.result.now = search rules in
    values_at c.args.slots.now c.args.name.now c.in_ok-place.place c.get.result at lent ∙ ap (λ r. values_of (option_copied r)) some ∙ ap Some values
