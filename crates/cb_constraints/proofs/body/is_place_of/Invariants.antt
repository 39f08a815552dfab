use Rattle.std.proofs.Common.{◌≡◌, drop, true}
use Rattle.cb_constraints.specs.Internal.Places.{has_place}
use Rattle.cb_constraints.proofs.body.is_place_of.Given as goal

abbrev pub invariant-loop-variable : goal.invariant-loop-variable
invariant-loop-variable l = has_place l.name l.constraint l.check (drop l.variable-index l.variables) ≡ true → has_place l.name l.constraint l.check l.variables ≡ true
