-- The condition elements of a left side: what is wrong with them, and which ones they are.
use Rattle.std.specs.Prelude.{◌++◌, List, [], ◌∷◌}
use Rattle.cb_expr_forms.specs.ExprFaults.{faults_of}
use Rattle.cb_expr_forms.specs.ExprForms.{expr_of}
use Rattle.cb_expr_forms.specs.Scopes.{Scope}
use Rattle.cb_forms.specs.declared.fault.Fault.{Fault}
use Rattle.cb_rule_forms.specs.PatternFaults.{pattern_faults}
use Rattle.cb_rule_forms.specs.Patterns.{pattern_of}
use Rattle.cb_rule_forms.specs.WrittenElements.{Written, wrong, written_pattern, written_test, all_of, one_of, written_group, Writtens, none_written, written}
use Rattle.cb_rules.specs.Elements.{Element, pattern, test, group, elements}
use Rattle.cb_templates.specs.Templates.{Templates}

abbrev mutual
  -- what is wrong with an element: its own faults, then those of its members
  pub element_faults : Scope → Written → List Fault
  element_faults s (wrong f) = f ∷ []
  element_faults s (written_pattern x relation ts) = pattern_faults s relation ts
  element_faults s (written_test t) = faults_of s t
  element_faults s (all_of ws) = elements_faults s ws
  element_faults s (one_of ws) = elements_faults s ws
  element_faults s (written_group positive ws) = elements_faults s ws

  -- the same of elements, from left to right
  pub elements_faults : Scope → Writtens → List Fault
  elements_faults s none_written = []
  elements_faults s (written w ws) = element_faults s w ++ elements_faults s ws

abbrev mutual
  -- the elements that stand in an element, from left to right, without the words `and` and `or`; where it has a fault, arbitrary ones
  pub written_elements : Templates → Written → List Element
  written_elements templates (wrong f) = []
  written_elements templates (written_pattern x relation ts) = pattern x (pattern_of templates relation ts) ∷ []
  written_elements templates (written_test t) = test (expr_of templates t) ∷ []
  written_elements templates (all_of ws) = each_written templates ws
  written_elements templates (one_of ws) = each_written templates ws
  written_elements templates (written_group positive ws) = group positive (elements (each_written templates ws)) ∷ []

  pub each_written : Templates → Writtens → List Element
  each_written templates none_written = []
  each_written templates (written w ws) = written_elements templates w ++ each_written templates ws
