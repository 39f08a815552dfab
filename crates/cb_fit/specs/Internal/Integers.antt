-- Which comparisons are of integers.
use Rattle.std.specs.Prelude.{Bool, true, false}
use Rattle.cb_fit.specs.declared.comparison.Comparison.{Comparison}
use Rattle.cb_fit.specs.declared.comparison.Comparison.TheVariants.{Same, Differs}

-- it holds of integers alone
abbrev pub needs_integers : Comparison → Bool
needs_integers Same = false
needs_integers Differs = false
needs_integers c = true
