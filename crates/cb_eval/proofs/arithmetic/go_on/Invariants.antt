use Rattle.std.proofs.Common.{◌≡◌, drop, map}
use Rattle.cb_eval.proofs.arithmetic.go_on.Given as goal
use Rattle.cb_eval.specs.Arithmetic.{with_others}
use Rattle.cb_eval.specs.Internal.Operations.{operator_of}
use Rattle.cb_eval.specs.Internal.{as_number}

abbrev pub invariant-loop-value : goal.invariant-loop-value
invariant-loop-value l = with_others (operator_of l.operation) l.total (map as_number (drop l.value-index l.others)) ≡ with_others (operator_of l.operation) l.first (map as_number l.others)
