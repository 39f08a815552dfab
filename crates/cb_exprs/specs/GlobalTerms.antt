-- Global variables that were read, each with its initial expression.
use Rattle.std.specs.Prelude.{ℕ, List}
use Rattle.cb_exprs.specs.Terms.{Term}

-- a global variable that was read: its name, and the term of its initial expression
abbrev pub GlobalTerm : Type 0
GlobalTerm = List ℕ × Term
