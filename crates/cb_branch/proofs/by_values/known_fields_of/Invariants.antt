use Rattle.std.proofs.Common.{◌≡◌, ◌++◌}
use Rattle.cb_fit.specs.JoinFields.{join_fields}
use Rattle.cb_scopes.specs.Decided.{known_fields}
use Rattle.cb_branch.proofs.by_values.known_fields_of.Given as goal

abbrev pub invariant-loop-field : goal.invariant-loop-field
invariant-loop-field g l = l.known.items ++ known_fields l.field-iterator.rest.items l.bound ≡ known_fields (join_fields l.pattern.parts) l.bound
