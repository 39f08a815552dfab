use Rattle.std.proofs.Common.{◌≡◌, ◌++◌}
use Rattle.cb_constraints.specs.Binders.{binders}
use Rattle.cb_constraints.specs.Constraints.{demand_of}
use Rattle.cb_fit.proofs.variable_fields.VariableFields.with_demand.Given as goal
use Rattle.cb_fit.specs.JoinFields.{fields_for}

abbrev pub invariant-loop-field : goal.invariant-loop-field
invariant-loop-field l = l.known ++ l.field-iterator.rest.items ≡ l.fn.self ++ fields_for l.fn.place (binders (demand_of l.fn.demand))
