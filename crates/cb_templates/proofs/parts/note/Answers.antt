use Rattle.std.proofs.Common.{◌≡◌, ◌∙◌, IfOk, ap, is_some, not, rules, subst, sym}
use Rattle.cb_facts.specs.Places.{place_in}
use Rattle.cb_templates.specs.Building.{given_for, given_names}
use Rattle.cb_templates.proofs.PlaceLaws.{is_given}
use Rattle.cb_templates.proofs.parts.note.Goals as goal

pub returns-in-Some-clause-new : goal.returns-in-Some-clause-new
returns-in-Some-clause-new c =
    let named : c.in-Some.places ≡ given_names c.args.slots.now = search rules in
    let same : is_some (place_in c.in-Some.places c.args.name.now) ≡ is_some (given_for c.args.slots.now c.args.name.now) =
    ap (λ ns. is_some (place_in ns c.args.name.now)) named ∙ sym (is_given c.args.slots.now c.args.name.now) in
    subst (λ t. IfOk c.push.result (λ is_new. is_new ≡ not t)) same c.push.ensures.new
