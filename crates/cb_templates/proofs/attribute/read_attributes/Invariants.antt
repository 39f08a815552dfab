use Rattle.std.proofs.Common.{◌≡◌, drop}
use Rattle.cb_forms.specs.Members.{members}
use Rattle.cb_templates.specs.Internal.{attributes_after, no_attributes}
use Rattle.cb_templates.proofs.attribute.read_attributes.Given as goal

abbrev pub invariant-loop-form : goal.invariant-loop-form
invariant-loop-form l = attributes_after l.is_multi l.attributes (members (drop l.form-index l.forms)) ≡ attributes_after l.is_multi no_attributes (members l.forms)
