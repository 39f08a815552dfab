use Rattle.std.proofs.Common.{◌≡◌, drop}
use Rattle.std.proofs.Common.{[]}
use Rattle.cb_forms.specs.Members.{members}
use Rattle.cb_templates.specs.Internal.{types_after}
use Rattle.cb_templates.proofs.attribute.read_type_names.Given as goal

abbrev pub invariant-loop-form : goal.invariant-loop-form
invariant-loop-form l = types_after l.types.items (members (drop l.form-index l.forms)) ≡ types_after [] (members l.forms)
