use Rattle.std.proofs.Common.{◌≡◌, drop}
use Rattle.cb_exprs.specs.Terms.{terms_of}
use Rattle.cb_fit.proofs.settled.+settling.Given as goal
use Rattle.cb_fit.specs.Internal.Reading.{own_of}
use Rattle.cb_fit.specs.Settled.{are_settled}

abbrev pub invariant-are_settled-loop-expr : goal.invariant-are_settled-loop-expr
invariant-are_settled-loop-expr l =
    are_settled l.names l.before (own_of l.own) (terms_of (drop l.expr-index l.exprs)) ≡ are_settled l.names l.before (own_of l.own) (terms_of l.exprs)
