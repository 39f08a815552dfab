-- What variables have in the course of a test.
use Rattle.std.specs.Prelude.{ℕ, zero, suc, List, [], ◌∷◌, Option, Some, None, nat_lt, if◌then◌else◌}
use Rattle.std.specs.Option.{option_map_or}
use Rattle.cb_constraints.specs.Binders.{binders, constraints_in}
use Rattle.cb_constraints.specs.Holding.{tested_value}
use Rattle.cb_constraints.specs.Internal.Places.{binders_before}
use Rattle.cb_constraints.specs.Internal.Values.{values}
use Rattle.cb_constraints.specs.Constraints.{Constraint}
use Rattle.cb_constraints.specs.declared.known.Known.{Known}
use Rattle.cb_constraints.specs.declared.place.Place.{Place}
use Rattle.cb_exprs.specs.Bindings.{Bindings, value_at, with_variable}
use Rattle.cb_facts.specs.declared.value.Value.{Value}

-- a variable has this value, if it had none
abbrev pub given_to : List ℕ → Value → Bindings → Bindings
given_to x v env = option_map_or (λ w. env) (value_at x env.variables) (with_variable x v env)

-- the same of several, one after another
abbrev pub given_to_all : List (List ℕ) → Value → Bindings → Bindings
given_to_all [] v env = env
given_to_all (x ∷ xs) v env = given_to_all xs v (given_to x v env)

-- what variables have after constraints took these values, one each from the first on
abbrev pub bindings_after : List Constraint → List Value → Bindings → Bindings
bindings_after [] vs env = env
bindings_after (c ∷ cs) [] env = env
bindings_after (c ∷ cs) (v ∷ vs) env = bindings_after cs vs (given_to_all (binders c.demand) v env)

-- and before a check of the constraint that comes next, which is tested for a value
abbrev pub bindings_before : List Constraint → List Value → Value → Bindings → ℕ → Bindings
bindings_before [] vs v env i = env
bindings_before (c ∷ cs) [] v env i = given_to_all (binders_before i c.demand) v env
bindings_before (c ∷ cs) (w ∷ ws) v env i = bindings_before cs ws v (given_to_all (binders c.demand) w env) i

-- the value that a variable took at its place, if that comes before a check
abbrev pub taken_at : List Value → Value → ℕ → ℕ → ℕ → Option Value
taken_at [] v i zero k = if nat_lt k i then Some v else None
taken_at [] v i (suc m) k = None
taken_at (w ∷ ws) v i zero k = Some w
taken_at (w ∷ ws) v i (suc m) k = taken_at ws v i m k

-- The value that a variable took at its place, if it has one and that comes before a check.
abbrev pub taken_if : List Value → Value → ℕ → Option Place → Option Value
taken_if vs v i None = None
taken_if vs v i (Some p) = taken_at vs v i p.constraint p.check

-- what variables have before a check of the constraint that comes next, where a look-up has these bindings
abbrev pub before_check : {L : Type 0} → (L → Bindings) → Known L → ℕ → Bindings
before_check bindings k i = bindings_before (constraints_in k.body.now) (values k.took.now) (tested_value k.tested) (bindings k.before.now) i
