use Rattle.std.proofs.Common.{◌≡◌, ◌++◌, filter, not}
use Rattle.cb_branch.specs.Internal.ByValues.{is_own}
use Rattle.cb_fit.specs.declared.join_fields.JoinField.{JoinField}
use Rattle.cb_branch.proofs.by_values.others.Given as goal

abbrev pub invariant-loop-field : goal.invariant-loop-field
invariant-loop-field l =
    l.left.items ++ filter (λ (j : JoinField). not (is_own l.address j.variable)) l.field-iterator.rest.items ≡ filter (λ (j : JoinField). not (is_own l.address j.variable)) l.fn.fields.items
