use Rattle.std.proofs.Common.{◌≡◌, drop}
use Rattle.std.proofs.Common.{[]}
use Rattle.cb_forms.specs.Members.{members}
use Rattle.cb_templates.specs.Internal.{slots_after}
use Rattle.cb_templates.proofs.relations.read_slots.Given as goal

abbrev pub invariant-loop-form : goal.invariant-loop-form
invariant-loop-form l = slots_after l.template (members (drop l.form-index l.forms)) ≡ slots_after [] (members l.forms)
