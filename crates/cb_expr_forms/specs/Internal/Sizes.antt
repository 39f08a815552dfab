-- How large forms are: reading ends, since it goes on with smaller ones.
use Rattle.std.specs.Prelude.{ℕ, ◌+◌}
use Rattle.cb_expr_forms.specs.declared.action_form.ActionForm.{ActionForm}
use Rattle.cb_expr_forms.specs.declared.action_form.ActionForm.TheVariants as program
use Rattle.cb_expr_forms.specs.declared.call_form.CallForm.{CallForm}
use Rattle.cb_expr_forms.specs.declared.call_form.CallForm.TheVariants as called
use Rattle.cb_expr_forms.specs.declared.slot_form.SlotForm.{SlotForm}
use Rattle.cb_expr_forms.specs.declared.slot_form.SlotForm.TheVariants as slot_form
use Rattle.cb_forms.specs.Members.{members}
use Rattle.cb_forms.specs.Trees.{Tree, atom, branch, Trees, no_trees, tree, tree_of}

-- how many atoms and lists a form has
abbrev mutual
  pub tree_size : Tree → ℕ
  tree_size (atom t) = 1
  tree_size (branch ts) = 1 + trees_size ts

  pub trees_size : Trees → ℕ
  trees_size no_trees = 0
  trees_size (tree t ts) = tree_size t + trees_size ts

-- how many there are in what is read next
abbrev pub plan_size : ActionForm → ℕ
plan_size (program.Of e values) = trees_size (members values.now)
plan_size (program.Bind b values) = trees_size (members values.now)
plan_size (program.If test first second) = tree_size (tree_of test.now) + (trees_size (members first.now) + trees_size (members second.now))
plan_size (program.While test body) = tree_size (tree_of test.now) + trees_size (members body.now)

abbrev pub called_size : CallForm → ℕ
called_size (called.Function f args) = trees_size (members args.now)
called_size (called.Assert facts) = trees_size (members facts.now)
called_size (called.Modify t slots) = tree_size (tree_of t.now) + trees_size (members slots.now)
called_size (called.Action plan) = plan_size plan

abbrev pub filling_size : SlotForm → ℕ
filling_size (slot_form.One slot t) = tree_size (tree_of t.now)
filling_size (slot_form.Several slot ts) = trees_size (members ts.now)
