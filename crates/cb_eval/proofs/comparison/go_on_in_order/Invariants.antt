use Rattle.std.proofs.Common.{◌≡◌, drop, map}
use Rattle.cb_eval.proofs.comparison.go_on_in_order.Given as goal
use Rattle.cb_eval.specs.Comparison.{in_order_after}
use Rattle.cb_eval.specs.Internal.Operations.{order_of}
use Rattle.cb_eval.specs.Internal.{as_number}

abbrev pub invariant-loop-value : goal.invariant-loop-value
invariant-loop-value l = in_order_after (order_of l.order) l.previous (map as_number (drop l.value-index l.others)) ≡ in_order_after (order_of l.order) l.first (map as_number l.others)
