use Rattle.std.proofs.Common.{◌≡◌, ◌++◌, drop, map}
use Rattle.cb_branch.proofs.copies.copy_all.Given as goal
use Rattle.cb_exprs.specs.Terms.{term_of}
use Rattle.cb_fit.specs.Decisions.{terms_at}

abbrev pub invariant-loop-expr : goal.invariant-loop-expr
invariant-loop-expr l = map term_of l.copies.items ++ terms_at (drop l.expr-index l.exprs) ≡ terms_at l.exprs
