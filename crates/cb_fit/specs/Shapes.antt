-- What a pattern asks by its constants and lengths alone.
use Rattle.std.specs.Prelude.{◌&&◌, ℕ, Bool, true, false, List, [], ◌∷◌, None, filter, map}
use Rattle.cb_constraints.specs.Constraints.{Check, Demand, nothing, each, either, Constraint}
use Rattle.cb_constraints.specs.Holding.{is_constant}
use Rattle.cb_constraints.specs.PatternValues.{PatternParts, fields, slots, PatternValue, SlotValue}
use Rattle.cb_exprs.specs.Bindings.{no_bindings}
use Rattle.cb_facts.specs.Facts.{FactValue}
use Rattle.cb_fit.specs.Comparisons.{all_own_hold, own_fields}
use Rattle.cb_fit.specs.Related.{Fits}
use Rattle.cb_fit.specs.Ways.{WayValue, ways}
use Rattle.cb_fit.specs.declared.own_field.OwnField.{OwnField}

-- the checks for constants; a variable or an expression, with `~` or without, counts as true
abbrev pub constants_in : List Check → List Check
constants_in cs = filter (λ c. is_constant c.test) cs

-- What a constraint asks, with its checks for constants alone.
abbrev pub loose_demand : Demand → Demand
loose_demand nothing = nothing
loose_demand (each cs) = each (constants_in cs)
loose_demand (either first alternatives) = either None (map constants_in alternatives)

-- The constraint with its checks for constants alone.
abbrev pub loose_constraint : Constraint → Constraint
loose_constraint c = record { segment = c.segment; demand = loose_demand c.demand }

-- The constraints of a row, each with its checks for constants alone.
abbrev pub loose_row : List Constraint → List Constraint
loose_row row = map loose_constraint row

-- A slot that a pattern asks, with the checks for constants alone.
abbrev pub loose_slot : SlotValue → SlotValue
loose_slot s = record { name = s.name; place = s.place; row = loose_row s.row }

-- The row or the slots of a pattern, with the checks for constants alone.
abbrev pub loose_parts : PatternParts → PatternParts
loose_parts (fields row) = fields (loose_row row)
loose_parts (slots rows) = slots (map loose_slot rows)

-- the pattern without its variables and expressions
abbrev pub loose : PatternValue → PatternValue
loose p = record { relation = p.relation; parts = loose_parts p.parts }

-- a fact has the shape of a pattern where it fits, variables and expressions aside
abbrev pub HasShape : PatternValue → FactValue → Type 0
HasShape p f = (cuts : List ℕ) × Fits (loose p) f cuts no_bindings no_bindings

-- there is a way
abbrev pub has_way : List WayValue → Bool
has_way [] = false
has_way (w ∷ ws) = true

-- the same as a test
abbrev pub has_shape : PatternValue → FactValue → Bool
has_shape p f = has_way (ways (loose p) f no_bindings)

-- what a pattern asks of a fact alone: that it fits without variables and expressions, and that its own fields compare so with
-- constants and with one another
pub record SelectionValue : Type 0 where
  pub shape : PatternValue
  pub own : List OwnField

-- what this pattern asks of a fact alone
abbrev pub selection : PatternValue → SelectionValue
selection p = record { shape = loose p; own = own_fields p.parts }

-- a fact is selected
abbrev pub selects : SelectionValue → FactValue → Bool
selects s f = has_way (ways s.shape f no_bindings) && all_own_hold s.own f.content

-- a fact is selected for a pattern where it has its shape, and the fields that the pattern compares with constants and with one another
-- compare so
abbrev pub is_selected : PatternValue → FactValue → Bool
is_selected p f = selects (selection p) f
