-- What the laws of constraints speak of.
use Rattle.std.specs.Prelude.{◌≡◌, true, false, List, [], ◌∷◌, None, All, Contains}
use Rattle.cb_constraints.specs.Constraints.{Test, Check, Demand, each, either}
use Rattle.cb_constraints.specs.Holding.{check_holds}
use Rattle.cb_exprs.specs.Bindings.{Bindings}
use Rattle.cb_facts.specs.declared.value.Value.{Value}

-- a test without `~`
abbrev pub plain : Test → Check
plain t = record { negated = false; test = t }

-- a test with `~`
abbrev pub opposite : Test → Check
opposite t = record { negated = true; test = t }

-- a constraint of one check
abbrev pub only : Check → Demand
only c = each (c ∷ [])

-- a constraint of alternatives
abbrev pub any_of_these : List (List Check) → Demand
any_of_these alternatives = either None alternatives

-- there is an alternative of which each check holds
abbrev pub OneHolds : List (List Check) → Value → Bindings → Type 0
OneHolds alternatives v env = (cs : List Check) × Contains alternatives cs × All (λ c. check_holds v env c ≡ true) cs
