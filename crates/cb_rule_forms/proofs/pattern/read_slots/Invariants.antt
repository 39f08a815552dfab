use Rattle.std.proofs.Common.{◌≡◌, ◌++◌, [], drop, map}
use Rattle.cb_constraints.specs.PartValues.{asked_slot}
use Rattle.cb_forms.specs.Members.{members}
use Rattle.cb_rule_forms.specs.PatternFaults.{pattern_slots_faults}
use Rattle.cb_rule_forms.specs.Patterns.{slots_in}
use Rattle.cb_rule_forms.proofs.pattern.read_slots.Given as goal

abbrev pub invariant-loop-form : goal.invariant-loop-form
invariant-loop-form l =
    (pattern_slots_faults l.scope l.template l.given (members (drop l.form-index l.forms)) ≡ pattern_slots_faults l.scope l.template [] (members l.forms))
    × (map asked_slot l.slots.items ++ slots_in l.scope.templates l.template (members (drop l.form-index l.forms)) ≡ slots_in l.scope.templates l.template (members l.forms))
