use Rattle.std.proofs.Common.{◌≡◌, drop, filter}
use Rattle.std.specs.Map.{lookup}
use Rattle.std.specs.Str.{bytes_eq}
use Rattle.cb_constraints.specs.Internal.Places.{is_before}
use Rattle.cb_constraints.proofs.body.place_before.Given as goal

abbrev pub invariant-loop-variable : goal.invariant-loop-variable
invariant-loop-variable l =
    lookup (bytes_eq l.name) (filter (λ e. is_before e.1 l.constraint l.check) (drop l.variable-index l.variables))
    ≡ lookup (bytes_eq l.name) (filter (λ e. is_before e.1 l.constraint l.check) l.variables)
