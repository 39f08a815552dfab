use Rattle.std.proofs.Common.{◌≡◌, length}
use Rattle.cb_beta.specs.GivenValues.{values_taken}
use Rattle.cb_exprs.specs.Bindings.{no_bindings, value_at, with_variables}
use Rattle.cb_beta.proofs.taken_fields.field_of.Given as goal

abbrev pub invariant-loop-last : goal.invariant-loop-last
invariant-loop-last l =
    value_at l.name (with_variables (values_taken l.left l.fact.content) no_bindings).variables
    ≡ value_at l.name (with_variables (values_taken l.fields l.fact.content) no_bindings).variables

abbrev pub decreases-loop-last : goal.decreases-loop-last
decreases-loop-last l = length l.left
