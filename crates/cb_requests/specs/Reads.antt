-- Expressions, facts, rules and global variables where they stand in a script, or their first faults.
use Rattle.std.specs.Prelude.{ℕ, List, [], ◌∷◌, ◌++◌, Option, Some, None, Result, Ok, Err, codes, if◌then◌else◌}
use Rattle.cb_expr_forms.specs.Bound.{bound_in}
use Rattle.cb_expr_forms.specs.ExprFaults.{faults_of, fact_faults, is_this_symbol}
use Rattle.cb_expr_forms.specs.ExprForms.{expr_of, fact_of}
use Rattle.cb_facts.specs.FaultLists.{unless_faulty}
use Rattle.cb_expr_forms.specs.Scopes.{Scope, names_of, plain_scope}
use Rattle.cb_expr_forms.specs.declared.scope.Side.TheVariants as side
use Rattle.cb_exprs.specs.Bindings.{Bindings}
use Rattle.cb_exprs.specs.FactTerms.{FactTerm}
use Rattle.cb_exprs.specs.GlobalTerms.{GlobalTerm}
use Rattle.cb_exprs.specs.Terms.{Term}
use Rattle.cb_facts.specs.Results.{ok_then, with_first}
use Rattle.cb_forms.specs.Trees.{Tree, atom, Trees, no_trees, tree}
use Rattle.cb_forms.specs.declared.fault.Fault.{Fault}
use Rattle.cb_forms.specs.declared.fault.Fault.TheVariants.{MalformedForm}
use Rattle.cb_forms.specs.declared.token.Token.TheVariants as token
use Rattle.cb_rule_forms.specs.Rules.{rule_faults, rule_of}
use Rattle.cb_rules.specs.RuleValues.{RuleValue}
use Rattle.cb_templates.specs.Templates.{Templates}

-- at the top level the known variables are those that have a value and those that a `bind` anywhere in the form names
abbrev pub top_scope : Templates → Bindings → Tree → Scope
top_scope templates env t = record { side = side.Top; variables = names_of env.variables ++ bound_in t; globals = names_of env.globals; templates = templates }

-- the expression that a form is, or its first fault
abbrev pub expr_in : Scope → Tree → Result Term Fault
expr_in s t = unless_faulty (faults_of s t) (expr_of s.templates t)

-- the fact that a form is, or its first fault
abbrev pub fact_in : Scope → Tree → Result FactTerm Fault
fact_in s t = unless_faulty (fact_faults s t) (fact_of s.templates t)

-- the facts that forms are, or the first fault
abbrev pub facts_in : Scope → Trees → Result (List FactTerm) Fault
facts_in s no_trees = Ok []
facts_in s (tree t ts) = with_first (fact_in s t) (facts_in s ts)

-- the rule that the forms after `defrule` are, or its first fault
unfoldable pub rule_in : Templates → Bindings → Trees → Result RuleValue Fault
rule_in templates env ts = unless_faulty (rule_faults templates env ts) (rule_of templates env ts)

-- the name of a global that is given: `?*name*`, and then `=`
abbrev pub name_given : Tree → Tree → Option (List ℕ)
name_given (atom (token.Global name)) word = if is_this_symbol (codes "=") word then Some name else None
name_given first word = None

-- a global by its name, if its shape is right, with its expression, and the globals after it
abbrev pub global_then : Option (List ℕ) → Result Term Fault → (List ℕ → Result (List GlobalTerm) Fault) → Result (List GlobalTerm) Fault
global_then None expr others = Err MalformedForm
global_then (Some name) expr others = with_first (ok_then (λ e. (name, e)) expr) (others name)

-- The globals that forms give, `?*name* = expression` each, after those with these names; or the first fault. The
-- expression of each may name those before it.
abbrev pub globals_in : Templates → Bindings → List (List ℕ) → Trees → Result (List GlobalTerm) Fault
globals_in templates env given no_trees = Ok []
globals_in templates env given (tree first (tree word (tree t ts))) =
    global_then (name_given first word) (expr_in (plain_scope templates env given) t) (λ name. globals_in templates env (given ++ name ∷ []) ts)
globals_in templates env given ts = Err MalformedForm
