use Rattle.std.proofs.Common.{◌≡◌, drop}
use Rattle.cb_forms.specs.Members.{members}
use Rattle.cb_templates.specs.Internal.{default_constants}
use Rattle.cb_facts.specs.Internal.{after_those}
use Rattle.cb_templates.proofs.attribute.read_constants.Given as goal

abbrev pub invariant-loop-form : goal.invariant-loop-form
invariant-loop-form l = after_those l.values.items (default_constants (members (drop l.form-index l.forms))) ≡ default_constants (members l.forms)
