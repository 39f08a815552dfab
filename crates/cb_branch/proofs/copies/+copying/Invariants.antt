use Rattle.std.proofs.Common.{◌≡◌, ◌++◌, drop, map}
use Rattle.cb_branch.proofs.copies.+copying.Given as goal
use Rattle.cb_exprs.specs.Terms.{term_of}

abbrev pub invariant-copy_each-loop-expr : goal.invariant-copy_each-loop-expr
invariant-copy_each-loop-expr l = map term_of l.copies.items ++ map term_of (drop l.expr-index l.exprs) ≡ map term_of l.exprs
