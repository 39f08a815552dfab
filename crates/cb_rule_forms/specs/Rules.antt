-- Rules as they are written: which one forms are, and what is wrong with them, in the order in which it is looked for.
use Rattle.std.specs.Prelude.{◌++◌, ℕ, ℤ, pos, Bool, true, false, List, [], ◌∷◌, Option, Some, None, length, map, nat_le}
use Rattle.std.specs.List.{flat_map}
use Rattle.cb_facts.specs.FaultLists.{unless}
use Rattle.cb_expr_forms.specs.Bound.{bound_in_all}
use Rattle.cb_expr_forms.specs.ExprFaults.{all_faults}
use Rattle.cb_expr_forms.specs.ExprForms.{exprs_of}
use Rattle.cb_expr_forms.specs.Scopes.{Scope, names_of}
use Rattle.cb_expr_forms.specs.declared.scope.Side.TheVariants as side
use Rattle.cb_exprs.specs.Bindings.{Bindings}
use Rattle.cb_exprs.specs.Terms.{Term}
use Rattle.cb_forms.specs.Trees.{Trees}
use Rattle.cb_forms.specs.declared.fault.Fault.{Fault}
use Rattle.cb_forms.specs.declared.fault.Fault.TheVariants.{MalformedForm, TooManyBranches}
use Rattle.cb_rule_forms.specs.Declarations.{declared_faults, salience_of}
use Rattle.cb_rule_forms.specs.Branches.{branches_in, ways_through_all}
use Rattle.cb_rule_forms.specs.Elements.{elements_faults}
use Rattle.cb_rule_forms.specs.Mentions.{known_by_all, variables_faults}
use Rattle.cb_rule_forms.specs.Relations.{relations_of}
use Rattle.cb_rule_forms.specs.Sections.{Sections, sections_of}
use Rattle.cb_rule_forms.specs.WrittenElements.{Writtens, written_in}
use Rattle.cb_rules.specs.Elements.{Element, pattern, test, group, Elements, no_elements, element}
use Rattle.cb_rules.specs.RuleValues.{RuleValue}
use Rattle.cb_templates.specs.Templates.{Templates}

-- an expression of a left side may name any variable; whether that has a value, the mentions say
abbrev pub left_scope : Templates → Bindings → Scope
left_scope templates env = record { side = side.Left; variables = []; globals = names_of env.globals; templates = templates }

-- an action may name the variables that the left side binds, and those that a `bind` of the actions names
abbrev pub action_scope : Templates → Bindings → List (List ℕ) → Trees → Scope
action_scope templates env known ts =
    record { side = side.Actions; variables = known ++ bound_in_all ts; globals = names_of env.globals; templates = templates }

-- what is wrong with a left side but for its variables: a rule has at most 64 branches
abbrev pub left_faults : Scope → Writtens → List Fault
left_faults s ws = elements_faults s ws ++ unless (nat_le (length (ways_through_all ws)) 64) TooManyBranches

-- what is wrong with the variables of each branch, and then with the actions
abbrev pub branches_faults : Templates → Bindings → List Elements → Trees → List Fault
branches_faults templates env branches actions =
    flat_map (variables_faults []) branches ++ all_faults (action_scope templates env (known_by_all branches) actions) actions

-- what is wrong with a rule that has its sections
abbrev pub sections_faults : Templates → Bindings → Option Sections → List Fault
sections_faults templates env None = MalformedForm ∷ []
sections_faults templates env (Some s) =
    declared_faults templates env s.declared
    ++ (left_faults (left_scope templates env) (written_in false s.elements) ++ branches_faults templates env (branches_in templates (written_in false s.elements)) s.actions)

-- the place of an element in a layout: whether it is a pattern; a test has none
abbrev pub place_of : Element → Option Bool
place_of (pattern x p) = Some true
place_of (test t) = None
place_of (group positive es) = Some false

abbrev pub with_place : Option Bool → List Bool → List Bool
with_place None places = places
with_place (Some b) places = b ∷ places

-- the layout of a branch
abbrev pub layout_of : Elements → List Bool
layout_of no_elements = []
layout_of (element e es) = with_place (place_of e) (layout_of es)

-- the rule of these parts
abbrev pub rule_with : List ℕ → ℤ → List Elements → List Term → RuleValue
rule_with name salience branches actions = record {
  name = name;
  salience = salience;
  branches = branches;
  layouts = map layout_of branches;
  actions = actions;
  relations = relations_of branches actions;
}

-- the rule of these sections
abbrev pub sections_rule : Templates → Bindings → Option Sections → RuleValue
sections_rule templates env None = rule_with [] (pos 0) [] []
sections_rule templates env (Some s) =
    rule_with s.name (salience_of templates env s.declared) (branches_in templates (written_in false s.elements)) (exprs_of templates s.actions)

-- what is wrong with a rule, by what follows the word `defrule`
abbrev pub rule_faults : Templates → Bindings → Trees → List Fault
rule_faults templates env ts = sections_faults templates env (sections_of ts)

-- the rule that forms are; where they have a fault, an arbitrary one
abbrev pub rule_of : Templates → Bindings → Trees → RuleValue
rule_of templates env ts = sections_rule templates env (sections_of ts)
