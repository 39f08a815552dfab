-- The salience that a rule declares.
use Rattle.std.specs.Prelude.{◌&&◌, ◌||◌, ◌++◌, ℕ, ℤ, pos, neg_ℤ, Bool, false, not, List, [], ◌∷◌, Option, Some, None, Result, Ok, codes, int_le, is_some, if◌then◌else◌}
use Rattle.std.specs.Option.{option_and_then, unwrap_or}
use Rattle.std.specs.Str.{bytes_eq}
use Rattle.cb_eval.specs.Evaluation.{value_of}
use Rattle.cb_expr_forms.specs.ExprFaults.{faults_of}
use Rattle.cb_expr_forms.specs.ExprForms.{expr_of}
use Rattle.cb_facts.specs.FaultLists.{unless}
use Rattle.cb_expr_forms.specs.Scopes.{plain_scope}
use Rattle.cb_exprs.specs.Bindings.{Bindings}
use Rattle.cb_facts.specs.declared.value.Value.{Value}
use Rattle.cb_facts.specs.declared.value.Value.TheVariants as value
use Rattle.cb_forms.specs.Members.{call_of}
use Rattle.cb_forms.specs.Trees.{Tree, Trees, no_trees, tree}
use Rattle.cb_forms.specs.declared.fault.Fault.{Fault}
use Rattle.cb_forms.specs.declared.fault.Fault.TheVariants.{MalformedForm, NotInProfile, BadSalience}
use Rattle.cb_rule_forms.specs.Sections.{members_after, only_of}
use Rattle.cb_templates.specs.Templates.{Templates}

-- a list begins with a word other than `salience`
abbrev pub is_other : Option (List ℕ × Trees) → Bool
is_other None = false
is_other (Some (word, ts)) = not (bytes_eq word (codes "salience"))

-- one of the members of a declaration declares something else
abbrev pub has_other : Trees → Bool
has_other no_trees = false
has_other (tree t ts) = is_other (call_of t) || has_other ts

-- the expression, where the declaration is `(salience expression)` alone
abbrev pub salience_form : Trees → Option Tree
salience_form ts = option_and_then (λ t. option_and_then only_of (members_after (codes "salience") (call_of t))) (only_of ts)

-- a salience is an integer from -10000 to 10000
abbrev pub salience_in : Result Value Fault → Option ℤ
salience_in (Ok (value.Int n)) = if int_le (neg_ℤ (pos 10000)) n && int_le n (pos 10000) then Some n else None
salience_in r = None

-- the salience that an expression has
abbrev pub salience_by : Templates → Bindings → Tree → Option ℤ
salience_by templates env t = salience_in (value_of (expr_of templates t) env)

-- what is wrong with the salience of a declaration: there is no expression for it, or what is wrong with that, which may name globals and no variable
abbrev pub salience_faults : Templates → Bindings → Option Tree → List Fault
salience_faults templates env None = MalformedForm ∷ []
salience_faults templates env (Some t) = faults_of (plain_scope templates env []) t ++ unless (is_some (salience_by templates env t)) BadSalience

-- what is wrong with the members of a declaration
abbrev pub declaration_faults : Templates → Bindings → Trees → List Fault
declaration_faults templates env ts = unless (not (has_other ts)) NotInProfile ++ salience_faults templates env (salience_form ts)

-- what is wrong with a declaration, if there is one
abbrev pub declared_faults : Templates → Bindings → Option Trees → List Fault
declared_faults templates env None = []
declared_faults templates env (Some ts) = declaration_faults templates env ts

-- the salience of a rule: 0, unless it declares another
abbrev pub salience_of : Templates → Bindings → Option Trees → ℤ
salience_of templates env declared =
    unwrap_or (option_and_then (salience_by templates env) (option_and_then salience_form declared)) (pos 0)
