use Rattle.std.proofs.Common.{◌≡◌, ◌++◌, drop}
use Rattle.cb_beta.specs.GivenValues.{values_taken}
use Rattle.cb_beta.proofs.taken_fields.add_fields.Given as goal

abbrev pub invariant-loop-field : goal.invariant-loop-field
invariant-loop-field l =
    l.bindings.items ++ values_taken (drop l.field-index l.fields) l.fact.content ≡ l.initial.bindings.items ++ values_taken l.fields l.fact.content
