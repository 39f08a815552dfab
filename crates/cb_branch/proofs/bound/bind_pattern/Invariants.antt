use Rattle.std.proofs.Common.{◌≡◌, ◌++◌}
use Rattle.std.specs.Prelude.{option_to_list}
use Rattle.cb_branch.specs.Internal.Bounds.{with_names}
use Rattle.cb_fit.specs.Plain.{bound_names}
use Rattle.cb_branch.proofs.bound.bind_pattern.Given as goal

abbrev pub invariant-loop-name : goal.invariant-loop-name
invariant-loop-name g l = with_names l.name-iterator.rest.items l.bound ≡ with_names (option_to_list l.address ++ bound_names l.pattern) l.fn.bound
