-- What the law of globals speaks of.
use Rattle.std.specs.Prelude.{ℕ, List, map}
use Rattle.cb_exprs.specs.GlobalTerms.{GlobalTerm}

-- the names of globals, in order
abbrev pub global_names : List GlobalTerm → List (List ℕ)
global_names globals = map (λ g. g.0) globals
