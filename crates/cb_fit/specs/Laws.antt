-- What the laws of ways speak of.
use Rattle.std.specs.Prelude.{ℕ, true, false, List, [], ◌∷◌}
use Rattle.cb_constraints.specs.Constraints.{nothing, Constraint}
use Rattle.cb_constraints.specs.PatternValues.{fields, PatternValue}
use Rattle.cb_fit.specs.Ways.{WayValue}

-- `?`
abbrev pub one_field : Constraint
one_field = record { segment = false; demand = nothing }

-- `$?`
abbrev pub any_fields : Constraint
any_fields = record { segment = true; demand = nothing }

-- a pattern of one constraint for the facts of an ordered relation
abbrev pub of_one : List ℕ → Constraint → PatternValue
of_one relation c = record { relation = relation; parts = fields (c ∷ []) }

-- the way of one segment of this length, by which no variable takes a value
abbrev pub of_length : ℕ → WayValue
of_length n = record { cuts = n ∷ []; bound = [] }
