use Rattle.std.proofs.Common.{◌≡◌, drop}
use Rattle.cb_alpha.proofs.ValuesFound.{with_found}
use Rattle.cb_alpha_network.proofs.field_places.values_in_many.Given as goal
use Rattle.cb_alpha_network.specs.Wanted.{values_at}

abbrev pub invariant-loop-place : goal.invariant-loop-place
invariant-loop-place l = with_found l.values.items (values_at (drop l.place-index l.places) l.fact.content) ≡ values_at l.places l.fact.content
