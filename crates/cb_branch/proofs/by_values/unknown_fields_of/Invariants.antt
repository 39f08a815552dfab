use Rattle.std.proofs.Common.{◌≡◌, ◌++◌}
use Rattle.cb_fit.specs.JoinFields.{giving_fields}
use Rattle.cb_scopes.specs.Decided.{unknown_fields}
use Rattle.cb_branch.proofs.by_values.unknown_fields_of.Given as goal

abbrev pub invariant-loop-field : goal.invariant-loop-field
invariant-loop-field g l = l.unknown.items ++ unknown_fields l.field-iterator.rest.items l.bound ≡ unknown_fields (giving_fields l.pattern.parts) l.bound
