-- What a call with an effect is and what is wrong with its arguments, once their number and shape are known to be right.
pub mod Sizes
use Rattle.std.specs.Prelude.{◌≡◌, ◌≤◌, ◌<◌, ◌+◌, ℕ, Bool, List, [], ◌∷◌, ◌++◌, Option, Some, None}
use Rattle.cb_expr_forms.specs.Actions.{action_of, after_else, before_else}
use Rattle.cb_expr_forms.specs.ExprFaults.{call_faults, token_faults, equals_faults, faults_of, all_faults, list_faults, change_faults, changes_faults, facts_faults, modify_faults, fact_faults, content_faults, slot_faults, given_slot_faults, slots_faults, type_faults, values_faults}
use Rattle.cb_expr_forms.specs.ExprForms.{call_expr, change_exprs, count, expr_of, exprs_in_slot, exprs_of, list_expr, assertions, modification, fact_of, fact_with, given_slot, slot_counts, slot_count, slot_expr, slot_exprs, slot_name, slot_names}
use Rattle.cb_facts.specs.FaultLists.{first_of}
use Rattle.cb_expr_forms.specs.Scopes.{Scope}
use Rattle.cb_expr_forms.specs.Internal.Sizes.{tree_size, trees_size, plan_size, called_size, filling_size}
use Rattle.cb_expr_forms.specs.declared.call_form.CallForm.{CallForm}
use Rattle.cb_expr_forms.specs.declared.call_form.CallForm.TheVariants as called
use Rattle.cb_expr_forms.specs.declared.slot_form.SlotForm.{SlotForm}
use Rattle.cb_expr_forms.specs.declared.slot_form.SlotForm.TheVariants as slot_form
use Rattle.cb_expr_forms.specs.declared.scope.Side.{Side}
use Rattle.cb_expr_forms.specs.declared.action_form.ActionForm.{ActionForm}
use Rattle.cb_expr_forms.specs.declared.action_form.Bound.{Bound}
use Rattle.cb_expr_forms.specs.declared.action_form.Bound.TheVariants as bound
use Rattle.cb_expr_forms.specs.declared.action_form.ActionForm.TheVariants as program
use Rattle.cb_exprs.specs.FactTerms.{FactTerm}
use Rattle.cb_exprs.specs.Terms.{Term, call, effect, choose, repeat, actions, terms}
use Rattle.cb_exprs.specs.declared.effect.Effect.{Effect}
use Rattle.cb_exprs.specs.declared.effect.Effect.TheVariants as kind
use Rattle.cb_forms.specs.Members.{members}
use Rattle.cb_forms.specs.Trees.{Tree, Trees, no_trees, tree_of}
use Rattle.cb_forms.specs.declared.fault.Fault.{Fault}
use Rattle.cb_forms.specs.declared.token.Token.TheVariants as token
use Rattle.cb_templates.specs.Slots.{SlotShape, Types}
use Rattle.cb_templates.specs.Templates.{Templates, slots_of}
use Rattle.cb_words.specs.declared.words.Function.TheVariants as function
use Rattle.cb_words.specs.declared.words.Action.{Action}
use Rattle.cb_words.specs.declared.words.Head.{Head}

-- an `if` and a `while`, and what is wrong with one, by their parts
abbrev pub if_expr : Templates → Tree → Trees → Trees → Term
if_expr templates test first second = choose (expr_of templates test) (actions (terms (exprs_of templates first))) (actions (terms (exprs_of templates second)))

abbrev pub if_faults : Scope → Tree → Trees → Trees → List Fault
if_faults s test first second = faults_of s test ++ (all_faults s first ++ all_faults s second)

abbrev pub while_expr : Templates → Tree → Trees → Term
while_expr templates test body = repeat (expr_of templates test) (actions (terms (exprs_of templates body)))

abbrev pub while_faults : Scope → Tree → Trees → List Fault
while_faults s test body = faults_of s test ++ all_faults s body

-- to bind it, and what is wrong with that
abbrev pub binding : Bound → Effect
binding (bound.Variable name) = kind.Bind name.now
binding (bound.Global name) = kind.BindGlobal name.now

abbrev pub bound_faults : Scope → Bound → List Fault
bound_faults s (bound.Variable name) = token_faults s (token.Var name.now)
bound_faults s (bound.Global name) = token_faults s (token.Global name.now)

-- a call with an effect, and what is wrong with it
abbrev pub plan_expr : Templates → ActionForm → Term
plan_expr templates (program.Of e values) = effect e (terms (exprs_of templates (members values.now)))
plan_expr templates (program.Bind b values) = effect (binding b) (terms (exprs_of templates (members values.now)))
plan_expr templates (program.If test first second) = if_expr templates (tree_of test.now) (members first.now) (members second.now)
plan_expr templates (program.While test body) = while_expr templates (tree_of test.now) (members body.now)

abbrev pub plan_faults : Scope → ActionForm → List Fault
plan_faults s (program.Of e values) = all_faults s (members values.now)
plan_faults s (program.Bind b values) = bound_faults s b ++ all_faults s (members values.now)
plan_faults s (program.If test first second) = if_faults s (tree_of test.now) (members first.now) (members second.now)
plan_faults s (program.While test body) = while_faults s (tree_of test.now) (members body.now)

-- the actions of an `if`: those before the first `else`, and those after it
pub record IsCutAtElse (all first second : Trees) : Type 0 where
  pub before_is : (t : Templates) → exprs_of t first ≡ before_else (exprs_of t all)
  pub after_is : (t : Templates) → exprs_of t second ≡ after_else (exprs_of t all)
  pub faults_are : (s : Scope) → all_faults s all ≡ all_faults s first ++ all_faults s second
  pub no_larger : trees_size first + trees_size second ≤ trees_size all

-- a call of the action with these arguments is this one, if their number and shape are right
abbrev pub HasPlan : Action → Trees → Option ActionForm → Type 0
HasPlan a ts None = (t : Templates) → action_of a (exprs_of t ts) ≡ None
HasPlan a ts (Some plan) =
    ((t : Templates) → action_of a (exprs_of t ts) ≡ Some (plan_expr t plan)) × ((s : Scope) → all_faults s ts ≡ plan_faults s plan)
    × (plan_size plan ≤ trees_size ts)

-- a `modify`, and what is wrong with one, by its parts
abbrev pub modify_expr : Templates → Tree → Trees → Term
modify_expr templates t slots = effect (kind.Modify (slot_counts slots)) (terms (expr_of templates t ∷ change_exprs templates slots))

abbrev pub what_modify_faults : Scope → Tree → Trees → List Fault
what_modify_faults s t slots = faults_of s t ++ changes_faults s [] slots

-- what a call is, and what is wrong with its arguments or facts
abbrev pub called_expr : Templates → CallForm → Term
called_expr templates (called.Function f args) = call f (terms (exprs_of templates (members args.now)))
called_expr templates (called.Assert facts) = actions (terms (assertions templates (members facts.now)))
called_expr templates (called.Modify t slots) = modify_expr templates (tree_of t.now) (members slots.now)
called_expr templates (called.Action plan) = plan_expr templates plan

abbrev pub called_faults : Scope → CallForm → List Fault
called_faults s (called.Function f args) = all_faults s (members args.now)
called_faults s (called.Assert facts) = facts_faults s (members facts.now)
called_faults s (called.Modify t slots) = what_modify_faults s (tree_of t.now) (members slots.now)
called_faults s (called.Action plan) = plan_faults s plan

-- where it stands on this side, what begins with this word and goes on so is this call
abbrev pub IsHeaded : Side → Option Head → Trees → CallForm → Type 0
IsHeaded side h ts c =
    ((t : Templates) → call_expr h (exprs_of t ts) (assertions t ts) (modification t ts) ≡ called_expr t c)
    × ((s : Scope) → s.side ≡ side → call_faults s h ts (all_faults s ts) (facts_faults s ts) (modify_faults s ts) ≡ called_faults s c)
    × (called_size c ≤ trees_size ts)

-- this is its first fault there
abbrev pub IsHeadedFault : Side → Option Head → Trees → Fault → Type 0
IsHeadedFault side h ts f = (s : Scope) → s.side ≡ side → first_of (call_faults s h ts (all_faults s ts) (facts_faults s ts) (modify_faults s ts)) ≡ Some f

-- the list is this call where it stands on this side
abbrev pub IsCall : Side → Trees → CallForm → Type 0
IsCall side ts c =
    ((t : Templates) → list_expr t ts ≡ called_expr t c) × ((s : Scope) → s.side ≡ side → list_faults s ts ≡ called_faults s c)
    × (called_size c < trees_size ts)

-- this is its first fault there
abbrev pub IsCallFault : Side → Trees → Fault → Type 0
IsCallFault side ts f = (s : Scope) → s.side ≡ side → first_of (list_faults s ts) ≡ Some f

-- the fact of the relation with what follows it, and what is wrong with that
abbrev pub fact_by : Templates → List ℕ → Trees → FactTerm
fact_by templates relation ts = fact_with relation (slots_of templates relation) (exprs_of templates ts) (slot_names ts) (λ slots. slot_exprs templates slots ts)

abbrev pub content_by : Scope → List ℕ → Trees → List Fault
content_by s relation ts = content_faults (slots_of s.templates relation) (values_faults s None ts) (λ slots. slots_faults s slots [] ts)

-- the form is a fact of this relation with what follows it
pub record IsFact (t : Tree) (relation : List ℕ) (ts : Trees) : Type 0 where
  pub fact_is : (templates : Templates) → fact_of templates t ≡ fact_by templates relation ts
  pub faults_are : (s : Scope) → fact_faults s t ≡ content_by s relation ts
  pub smaller : trees_size ts < tree_size t

-- this is its first fault
abbrev pub IsFactFault : Tree → Fault → Type 0
IsFactFault t f = (s : Scope) → first_of (fact_faults s t) ≡ Some f

-- the slot's name, what it is, and what is wrong with its values
abbrev pub slot_of : SlotForm → List ℕ
slot_of (slot_form.One slot t) = slot.now.name
slot_of (slot_form.Several slot ts) = slot.now.name

abbrev pub filling_expr : Templates → SlotForm → Term
filling_expr templates (slot_form.One slot t) = expr_of templates (tree_of t.now)
filling_expr templates (slot_form.Several slot ts) = call function.Create (terms (exprs_of templates (members ts.now)))

-- what is wrong with a value, before those that follow it
abbrev pub value_faults : Scope → Types → Tree → Trees → List Fault
value_faults s types t following = equals_faults t following ++ (faults_of s t ++ type_faults types (expr_of s.templates t))

abbrev pub filling_faults : Scope → SlotForm → List Fault
filling_faults s (slot_form.One slot t) = value_faults s slot.now.types (tree_of t.now) no_trees
filling_faults s (slot_form.Several slot ts) = values_faults s slot.now.types (members ts.now)

-- the form gives this slot of a template, after those with these names
pub record IsSlot (slots : List SlotShape) (given : List (List ℕ)) (t : Tree) (c : SlotForm) : Type 0 where
  pub name_is : slot_name t ≡ slot_of c
  pub expr_is : (templates : Templates) → given_slot templates slots t ≡ filling_expr templates c
  pub faults_are : (s : Scope) → slot_faults s slots given t ≡ filling_faults s c
  pub smaller : filling_size c < tree_size t

-- this is its first fault
abbrev pub IsSlotFault : List SlotShape → List (List ℕ) → Tree → Fault → Type 0
IsSlotFault slots given t f = (s : Scope) → first_of (slot_faults s slots given t) ≡ Some f

-- these are the values of a slot, which may be given already
pub record IsFilling (slot : SlotShape) (is_given : Bool) (ts : Trees) (c : SlotForm) : Type 0 where
  pub slot_is : slot_of c ≡ slot.name
  pub expr_is : (templates : Templates) → slot_expr (Some slot) (exprs_of templates ts) ≡ filling_expr templates c
  pub faults_are : (s : Scope) → given_slot_faults (Some slot) is_given ts (λ types. values_faults s types ts) ≡ filling_faults s c
  pub smaller : filling_size c ≤ trees_size ts

-- this is their first fault
abbrev pub IsFillingFault : SlotShape → Bool → Trees → Fault → Type 0
IsFillingFault slot is_given ts f = (s : Scope) → first_of (given_slot_faults (Some slot) is_given ts (λ types. values_faults s types ts)) ≡ Some f

-- the form is a slot that a `modify` names after those with these names, with what follows its name
pub record IsChange (given : List (List ℕ)) (t : Tree) (name : List ℕ) (ts : Trees) : Type 0 where
  pub name_is : slot_name t ≡ name
  pub count_is : slot_count t ≡ (name, count ts)
  pub exprs_are : (templates : Templates) → exprs_in_slot templates t ≡ exprs_of templates ts
  pub faults_are : (s : Scope) → change_faults s given t ≡ values_faults s None ts
  pub smaller : trees_size ts < tree_size t

-- this is its first fault
abbrev pub IsChangeFault : List (List ℕ) → Tree → Fault → Type 0
IsChangeFault given t f = (s : Scope) → first_of (change_faults s given t) ≡ Some f
