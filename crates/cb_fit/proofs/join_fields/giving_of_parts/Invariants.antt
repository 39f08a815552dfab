use Rattle.std.proofs.Common.{◌≡◌, ◌++◌}
use Rattle.cb_constraints.specs.PartValues.{asked_parts}
use Rattle.cb_fit.proofs.FirstFields.{unseen}
use Rattle.cb_fit.proofs.join_fields.giving_of_parts.Given as goal
use Rattle.cb_fit.specs.JoinFields.{first_fields, giving_fields}

abbrev pub invariant-loop-field : goal.invariant-loop-field
invariant-loop-field l =
    l.all ++ unseen l.all (first_fields l.field-iterator.rest.items) ≡ giving_fields (asked_parts l.parts)
