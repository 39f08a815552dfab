use Rattle.std.proofs.Common.{◌≡◌, ◌+◌, drop, option_map}
use Rattle.cb_forms.specs.Members.{members}
use Rattle.cb_rule_forms.specs.Internal.SectionPlaces.{arrow_place}
use Rattle.cb_rule_forms.proofs.sections.find_arrow.Given as goal

abbrev pub invariant-loop-form : goal.invariant-loop-form
invariant-loop-form l =
    (l.place ≡ l.form-index)
    × (option_map (λ n. l.form-index + n) (arrow_place (members (drop l.form-index l.forms))) ≡ arrow_place (members l.forms))
