use Rattle.std.proofs.Common.{◌≡◌, ◌∙◌, ◌++◌, ◌∷◌, [], ap, ap₂, ℕ, List, length, rules, sym}
use Rattle.cb_expr_forms.specs.ExprForms.{count, slot_count}
use Rattle.cb_expr_forms.proofs.Heads.{count_members}
use Rattle.cb_forms.specs.Members.{members}
use Rattle.cb_forms.specs.Trees.{tree_of}
use Rattle.cb_expr_forms.proofs.slot_changes.SlotChanges.next.Goals as goal

pub returns-clause-count : goal.returns-clause-count
returns-clause-count c =
    let is : slot_count (tree_of c.args.form.now) ≡ (c.in_ok-name.name, count (members c.in_ok-name.forms.now)) = c.in_ok-name.ensures.count_is in
    let added : c.push-2.new.self.items ≡ c.args.self.now.slots.items ++ (c.in_ok-name.name, length c.in_ok-name.forms.now) ∷ [] = search rules in
    added ∙ ap (λ (p : List ℕ × ℕ). c.args.self.now.slots.items ++ p ∷ []) (ap (λ (n : ℕ). (c.in_ok-name.name, n)) (sym (count_members c.in_ok-name.forms.now)) ∙ sym is)
