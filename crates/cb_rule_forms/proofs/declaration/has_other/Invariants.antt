use Rattle.std.proofs.Common.{◌≡◌, drop}
use Rattle.cb_forms.specs.Members.{members}
use Rattle.cb_rule_forms.specs.Declarations.{has_other}
use Rattle.cb_rule_forms.proofs.declaration.has_other.Given as goal

abbrev pub invariant-loop-form : goal.invariant-loop-form
invariant-loop-form l = has_other (members (drop l.form-index l.forms)) ≡ has_other (members l.forms)
