-- What a constraint asks, found out without a value.
use Rattle.std.specs.Prelude.{◌≡◌, ℕ, true, false, List, [], ◌∷◌, length}
use Rattle.cb_constraints.specs.Binders.{constraints_in}
use Rattle.cb_constraints.specs.Constraints.{Demand, each, variable}
use Rattle.cb_constraints.specs.Holding.{Follows, MeetsIn}
use Rattle.cb_constraints.specs.Internal.Known.{bindings_before}
use Rattle.cb_constraints.specs.PatternValues.{PatternParts}
use Rattle.cb_exprs.specs.Bindings.{Bindings}
use Rattle.cb_facts.specs.declared.value.Value.{Value}

-- a variable alone
abbrev pub lone : List ℕ → Demand
lone x = each (record { negated = false; test = variable x } ∷ [])

-- whatever the constraints before the one with this number took, it holds of every value
abbrev pub HoldsOfAll : PatternParts → ℕ → Bindings → Demand → Type 0
HoldsOfAll parts n before d =
    (vs : List Value) (v : Value) → length vs ≡ n → Follows (bindings_before (constraints_in parts) vs v before) d v → MeetsIn true (bindings_before (constraints_in parts) vs v before) d v
