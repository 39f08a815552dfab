-- What is wrong with a pattern after its relation, in the order in which it is looked for.
use Rattle.std.specs.Prelude.{◌||◌, ◌++◌, ℕ, Bool, false, not, List, [], ◌∷◌, Option, Some, None}
use Rattle.cb_constraints.specs.Constraints.{Constraint}
use Rattle.cb_expr_forms.specs.ExprFaults.{content_faults}
use Rattle.cb_expr_forms.specs.ExprForms.{slot_name}
use Rattle.cb_facts.specs.FaultLists.{unless}
use Rattle.cb_expr_forms.specs.Scopes.{Scope, is_known}
use Rattle.cb_forms.specs.Members.{call_of}
use Rattle.cb_forms.specs.Trees.{Tree, Trees, no_trees, tree}
use Rattle.cb_forms.specs.declared.fault.Fault.{Fault}
use Rattle.cb_forms.specs.declared.fault.Fault.TheVariants.{FactDoesNotFit}
use Rattle.cb_rule_forms.specs.Members.{members_in}
use Rattle.cb_rule_forms.specs.RowFaults.{row_faults}
use Rattle.cb_rule_forms.specs.Rows.{row_in}
use Rattle.cb_templates.specs.Slots.{SlotShape, slot_named}
use Rattle.cb_templates.specs.Templates.{slots_of}

-- what is wrong with the constraints that forms are
abbrev pub constraints_faults : Scope → Trees → List Fault
constraints_faults s ts = row_faults s false (members_in ts)

-- the constraints are one, which takes one field
abbrev pub take_one : List Constraint → Bool
take_one (c ∷ []) = not c.segment
take_one cs = false

-- what is wrong with the constraints for a slot: those of a slot that is no multislot are one, which takes one field
abbrev pub slot_row_faults : Scope → Bool → Trees → List Fault
slot_row_faults s is_multi ts = constraints_faults s ts ++ unless (is_multi || take_one (row_in s.templates (members_in ts))) FactDoesNotFit

-- what is wrong with a slot: the template has it, it is written once, and then these faults of its constraints
abbrev pub found_slot_faults : Option SlotShape → Bool → (Bool → List Fault) → List Fault
found_slot_faults None is_given filling = FactDoesNotFit ∷ []
found_slot_faults (Some slot) is_given filling = unless (not is_given) FactDoesNotFit ++ filling slot.is_multi

-- what is wrong with a list that begins with a name, as a slot after those with these names
abbrev pub named_faults : Scope → List SlotShape → List (List ℕ) → Option (List ℕ × Trees) → List Fault
named_faults s slots given None = FactDoesNotFit ∷ []
named_faults s slots given (Some (name, ts)) = found_slot_faults (slot_named slots name) (is_known given name) (λ is_multi. slot_row_faults s is_multi ts)

-- what is wrong with a form as a slot after those with these names
abbrev pub pattern_slot_faults : Scope → List SlotShape → List (List ℕ) → Tree → List Fault
pattern_slot_faults s slots given t = named_faults s slots given (call_of t)

-- what is wrong with the slots after those with these names
abbrev pub pattern_slots_faults : Scope → List SlotShape → List (List ℕ) → Trees → List Fault
pattern_slots_faults s slots given no_trees = []
pattern_slots_faults s slots given (tree t ts) = pattern_slot_faults s slots given t ++ pattern_slots_faults s slots (given ++ slot_name t ∷ []) ts

-- what is wrong with a pattern of the relation: with its slots, if the relation has a template, and else with its constraints
abbrev pub pattern_faults : Scope → List ℕ → Trees → List Fault
pattern_faults s relation ts = content_faults (slots_of s.templates relation) (constraints_faults s ts) (λ slots. pattern_slots_faults s slots [] ts)
