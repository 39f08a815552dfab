-- The sections of a rule that the program has, and where the arrow stands.
use Rattle.std.specs.Prelude.{ℕ, suc, Option, Some, None, codes, option_map, if◌then◌else◌}
use Rattle.cb_expr_forms.specs.ExprFaults.{is_this_symbol}
use Rattle.cb_forms.specs.Members.{members}
use Rattle.cb_forms.specs.Trees.{Trees, no_trees, tree}
use Rattle.cb_rule_forms.specs.Sections.{Sections}
use Rattle.cb_rule_forms.specs.declared.sections.Sections as program

-- the place of the first `=>`
abbrev pub arrow_place : Trees → Option ℕ
arrow_place no_trees = None
arrow_place (tree t ts) = if is_this_symbol (codes "=>") t then Some 0 else option_map suc (arrow_place ts)

-- the sections that the program has
abbrev pub sections_seen : program.Sections → Sections
sections_seen s = record {
  name = s.name.now;
  declared = option_map (λ fs. members fs.now) s.declared;
  elements = members s.elements.now;
  actions = members s.actions.now;
}
