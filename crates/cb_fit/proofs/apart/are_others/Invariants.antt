use Rattle.std.proofs.Common.{◌≡◌, drop}
use Rattle.std.specs.List.{list_all}
use Rattle.cb_fit.specs.Comparisons.{is_other}
use Rattle.cb_fit.proofs.apart.are_others.Given as goal

abbrev pub invariant-loop-variable : goal.invariant-loop-variable
invariant-loop-variable l =
    list_all (is_other l.names) (drop l.variable-index l.variables) ≡ list_all (is_other l.names) l.variables
