use Rattle.std.proofs.Common.{◌≡◌, ◌++◌}
use Rattle.cb_alpha_network.proofs.wanted.wanted_of.Given as goal
use Rattle.cb_alpha_network.specs.Wanted.{constants_of, places_of}
use Rattle.cb_fit.specs.ConstantFields.{constant_fields}

abbrev pub invariant-loop-field : goal.invariant-loop-field
invariant-loop-field g l = record {
  places : l.places.items ++ places_of l.field-iterator.rest.items ≡ places_of (constant_fields l.pattern.parts);
  values : l.values.items ++ constants_of l.field-iterator.rest.items ≡ constants_of (constant_fields l.pattern.parts);
}
