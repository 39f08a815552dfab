use Rattle.std.proofs.Common.{◌≡◌, drop}
use Rattle.std.specs.List.{list_all}
use Rattle.cb_fit.specs.Internal.Reading.{alternatives_of}
use Rattle.cb_fit.specs.StandsAlone.{are_constants}
use Rattle.cb_fit.proofs.demands.are_all_constants.Given as goal

abbrev pub invariant-loop-checks : goal.invariant-loop-checks
invariant-loop-checks l =
    list_all are_constants (alternatives_of (drop l.checks-index l.alternatives)) ≡ list_all are_constants (alternatives_of l.alternatives)
