-- Numbers of branches, summed up over branches and over rules.
use Rattle.std.specs.Prelude.{◌+◌, ℕ, List, [], ◌∷◌}
use Rattle.cb_matches.specs.Networks.{Conditions}
use Rattle.cb_rules.specs.Elements.{Elements}

abbrev pub branches_sum : (Elements → ℕ) → List Elements → ℕ
branches_sum of [] = 0
branches_sum of (es ∷ more) = of es + branches_sum of more

abbrev pub rules_sum : (Elements → ℕ) → Conditions → ℕ
rules_sum of [] = 0
rules_sum of (r ∷ more) = branches_sum of r.1 + rules_sum of more
