use Rattle.std.proofs.Common.{◌≡◌, ◌≤◌, ◌+◌, ◌*◌, ◌++◌, [], drop, length, map}
use Rattle.std.specs.Option.{option_and_then}
use Rattle.cb_expr_forms.specs.ExprFaults.{all_faults, changes_faults, facts_faults, slots_faults, values_faults}
use Rattle.cb_expr_forms.specs.ExprForms.{assertions, change_exprs, exprs_of, slot_counts, slot_exprs, slot_names}
use Rattle.cb_expr_forms.specs.Internal.Sizes.{filling_size, plan_size, tree_size, trees_size}
use Rattle.cb_exprs.specs.Terms.{term_of}
use Rattle.cb_forms.specs.Members.{members}
use Rattle.cb_forms.specs.Trees.{tree_of}
use Rattle.cb_expr_forms.proofs.expr_form.+reading.Given as goal

abbrev pub decreases-read_expr : goal.decreases-read_expr
decreases-read_expr l = 8 * tree_size (tree_of l.form.now)

abbrev pub decreases-read_boxed : goal.decreases-read_boxed
decreases-read_boxed l = 8 * tree_size (tree_of l.form.now) + 1

abbrev pub decreases-read_value : goal.decreases-read_value
decreases-read_value l = 8 * tree_size (tree_of l.form.now) + 1

abbrev pub decreases-read_fact : goal.decreases-read_fact
decreases-read_fact l = 8 * tree_size (tree_of l.form.now) + 1

abbrev pub decreases-read_exprs : goal.decreases-read_exprs
decreases-read_exprs l = 8 * trees_size (members l.forms.now) + 1

abbrev pub decreases-read_effect : goal.decreases-read_effect
decreases-read_effect l = 8 * trees_size (members l.values.now) + 2

abbrev pub decreases-read_bind : goal.decreases-read_bind
decreases-read_bind l = 8 * trees_size (members l.values.now) + 3

abbrev pub decreases-read_facts : goal.decreases-read_facts
decreases-read_facts l = 8 * trees_size (members l.forms.now) + 2

abbrev pub decreases-read_values : goal.decreases-read_values
decreases-read_values l = 8 * trees_size (members l.forms.now) + 2

abbrev pub decreases-read_if : goal.decreases-read_if
decreases-read_if l = 8 * (tree_size (tree_of l.test.now) + (trees_size (members l.yes.now) + trees_size (members l.no.now))) + 2

abbrev pub decreases-read_while : goal.decreases-read_while
decreases-read_while l = 8 * (tree_size (tree_of l.test.now) + trees_size (members l.actions.now)) + 2

abbrev pub decreases-read_action : goal.decreases-read_action
decreases-read_action l = 8 * plan_size l.action + 4

abbrev pub decreases-read_slot : goal.decreases-read_slot
decreases-read_slot l = 8 * filling_size l.slot + 3

abbrev pub decreases-read_slots : goal.decreases-read_slots
decreases-read_slots l = 8 * trees_size (members l.forms.now) + 4

abbrev pub decreases-read_given : goal.decreases-read_given
decreases-read_given l = 8 * tree_size (tree_of l.form.now) + 1

abbrev pub decreases-read_list : goal.decreases-read_list
decreases-read_list l = 8 * trees_size (members l.forms.now) + 4

abbrev pub decreases-read_modify : goal.decreases-read_modify
decreases-read_modify l = 8 * (tree_size (tree_of l.fact.now) + trees_size (members l.slots.now)) + 4

abbrev pub decreases-read_changes : goal.decreases-read_changes
decreases-read_changes l = 8 * trees_size (members l.forms.now) + 3

abbrev pub decreases-read_change : goal.decreases-read_change
decreases-read_change l = 8 * tree_size (tree_of l.form.now) + 2

abbrev pub invariant-read_changes-loop-form : goal.invariant-read_changes-loop-form
invariant-read_changes-loop-form l =
    (changes_faults l.scope l.changes.names (members (drop l.form-index l.forms)) ≡ changes_faults l.scope l.fn.changes.names (members l.forms))
    × (l.changes.slots.items ++ slot_counts (members (drop l.form-index l.forms)) ≡ l.fn.changes.slots.items ++ slot_counts (members l.forms))
    × (map term_of l.changes.values.items ++ change_exprs l.scope.templates (members (drop l.form-index l.forms)) ≡ map term_of l.fn.changes.values.items ++ change_exprs l.scope.templates (members l.forms))

abbrev pub invariant-read_exprs-loop-form : goal.invariant-read_exprs-loop-form
invariant-read_exprs-loop-form l =
    (all_faults l.scope (members (drop l.form-index l.forms)) ≡ all_faults l.scope (members l.forms))
    × (map term_of l.exprs.items ++ exprs_of l.scope.templates (members (drop l.form-index l.forms)) ≡ exprs_of l.scope.templates (members l.forms))

abbrev pub invariant-read_facts-loop-form : goal.invariant-read_facts-loop-form
invariant-read_facts-loop-form l =
    (facts_faults l.scope (members (drop l.form-index l.forms)) ≡ facts_faults l.scope (members l.forms))
    × (map term_of l.facts.items ++ assertions l.scope.templates (members (drop l.form-index l.forms)) ≡ assertions l.scope.templates (members l.forms))

abbrev pub invariant-read_slots-loop-form : goal.invariant-read_slots-loop-form
invariant-read_slots-loop-form l =
    (slots_faults l.scope l.template l.given.names (members (drop l.form-index l.forms)) ≡ slots_faults l.scope l.template [] (members l.forms))
    × (l.given.names ++ slot_names (members (drop l.form-index l.forms)) ≡ slot_names (members l.forms))
    × (map term_of l.given.values.items ++ slot_exprs l.scope.templates l.template (members (drop l.form-index l.forms)) ≡ slot_exprs l.scope.templates l.template (members l.forms))

abbrev pub invariant-read_values-loop-first : goal.invariant-read_values-loop-first
invariant-read_values-loop-first l =
    (values_faults l.scope (option_and_then (λ s. s.now.types) l.slot) (members l.rest) ≡ values_faults l.scope (option_and_then (λ s. s.now.types) l.slot) (members l.forms))
    × (map term_of l.values.items ++ exprs_of l.scope.templates (members l.rest) ≡ exprs_of l.scope.templates (members l.forms))
    × (trees_size (members l.rest) ≤ trees_size (members l.forms))

abbrev pub decreases-read_values-loop-first : goal.decreases-read_values-loop-first
decreases-read_values-loop-first l = length l.rest
