use Rattle.std.proofs.Common.{◌≡◌, None, Some, rules}
use Rattle.cb_forms.specs.Members.{members}
use Rattle.cb_rule_forms.specs.Internal.SectionPlaces.{arrow_place}
use Rattle.cb_rule_forms.proofs.Arrows.{divided_nowhere, divided_there}
use Rattle.cb_rule_forms.proofs.sections.split_arrow.Goals as goal

pub returns-in_err-place : goal.returns-in_err-place
returns-in_err-place c =
    let none : arrow_place (members c.args.forms.now) ≡ None = search rules in
    let so = divided_nowhere (members c.args.forms.now) none in
    search rules

pub returns : goal.returns
returns c =
    let there : arrow_place (members c.args.forms.now) ≡ Some c.in_ok-place.place = search rules in
    let parts = (divided_there c.args.forms.now c.in_ok-place.place there).parts in
    search rules
