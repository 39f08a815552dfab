-- Which pattern forms are. Where they have a fault, it is an arbitrary one.
use Rattle.std.specs.Prelude.{ℕ, zero, List, [], ◌∷◌, Option, Some, None}
use Rattle.std.specs.Option.{unwrap_or}
use Rattle.cb_constraints.specs.PartValues.{asked_parts}
use Rattle.cb_constraints.specs.PatternValues.{PatternParts, fields, slots, PatternValue, SlotValue}
use Rattle.cb_constraints.specs.declared.pattern_parts.PatternParts as program
use Rattle.cb_forms.specs.Members.{call_of}
use Rattle.cb_forms.specs.Trees.{Tree, Trees, no_trees, tree}
use Rattle.cb_rule_forms.specs.Members.{members_in}
use Rattle.cb_rule_forms.specs.Rows.{row_in}
use Rattle.cb_facts.specs.Places.{place_in}
use Rattle.cb_templates.specs.Slots.{SlotShape, names}
use Rattle.cb_templates.specs.Templates.{Templates, slots_of}

-- a slot: its name, its place among the slots of the template, and its constraints
abbrev pub named_slot : Templates → List SlotShape → Option (List ℕ × Trees) → SlotValue
named_slot templates shapes None = record { name = []; place = zero; row = [] }
named_slot templates shapes (Some (name, ts)) = record { name = name; place = unwrap_or (place_in (names shapes) name) zero; row = row_in templates (members_in ts) }

-- the slot that a form is
abbrev pub slot_in : Templates → List SlotShape → Tree → SlotValue
slot_in templates shapes t = named_slot templates shapes (call_of t)

-- The slots that a pattern writes.
abbrev pub slots_in : Templates → List SlotShape → Trees → List SlotValue
slots_in templates shapes no_trees = []
slots_in templates shapes (tree t ts) = slot_in templates shapes t ∷ slots_in templates shapes ts

-- what a pattern asks: of the slots, if its relation has a template with these, and else of the fields
abbrev pub parts_in : Templates → Option (List SlotShape) → Trees → PatternParts
parts_in templates None ts = fields (row_in templates (members_in ts))
parts_in templates (Some shapes) ts = slots (slots_in templates shapes ts)

-- the pattern of the relation that forms are
abbrev pub pattern_of : Templates → List ℕ → Trees → PatternValue
pattern_of templates relation ts = record { relation = relation; parts = parts_in templates (slots_of templates relation) ts }

-- the pattern that a relation and the parts of the program are
abbrev pub pattern_value : List ℕ × program.PatternParts → PatternValue
pattern_value p = record { relation = p.0; parts = asked_parts p.1 }
