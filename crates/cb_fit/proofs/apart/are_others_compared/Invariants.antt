use Rattle.std.proofs.Common.{◌≡◌, drop, map}
use Rattle.std.specs.List.{list_all}
use Rattle.cb_fit.specs.Comparisons.{WithVariable, is_other}
use Rattle.cb_fit.specs.Internal.Reading.{compared_of}
use Rattle.cb_fit.proofs.apart.are_others_compared.Given as goal

abbrev pub invariant-loop-compared : goal.invariant-loop-compared
invariant-loop-compared l =
    list_all (λ (it : WithVariable). is_other l.names it.1) (map compared_of (drop l.compared-index l.comparisons))
    ≡ list_all (λ (it : WithVariable). is_other l.names it.1) (map compared_of l.comparisons)
