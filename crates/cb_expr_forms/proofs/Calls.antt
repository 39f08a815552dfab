-- Calls, by the word that they begin with.
use Rattle.std.proofs.Common.{◌≡◌, ◌≢◌, ◌∙◌, ◌++◌, ℕ, true, List, Option, Some, None, Result, Ok, Err, arith, is_some, refl, sym, ap, subst}
use Rattle.std.specs.Prelude.{MatchResult}
use Rattle.std.specs.Option.{unwrap_or}
use Rattle.cb_expr_forms.specs.Actions.{action_of}
use Rattle.cb_expr_forms.specs.ExprFaults.{action_faults, all_faults, arguments_fault, facts_faults, modify_faults}
use Rattle.cb_expr_forms.specs.ExprForms.{assertions, call_expr, exprs_of, modification, no_expr}
use Rattle.cb_facts.specs.FaultLists.{first_of, unless}
use Rattle.cb_expr_forms.specs.Internal.{HasPlan, IsCall, IsCallFault, IsHeaded, IsHeadedFault, plan_expr}
use Rattle.cb_expr_forms.specs.Scopes.{Scope, effect_fault, may_act}
use Rattle.cb_expr_forms.specs.declared.action_form.ActionForm.{ActionForm}
use Rattle.cb_expr_forms.specs.declared.call_form.CallForm.{CallForm}
use Rattle.cb_expr_forms.specs.declared.call_form.CallForm.TheVariants as form
use Rattle.cb_expr_forms.specs.declared.scope.Side.{Side}
use Rattle.cb_expr_forms.proofs.Heads.{headed}
use Rattle.cb_facts.specs.Results.{Reports}
use Rattle.cb_facts.specs.declared.refused.Refused.{Refused}
use Rattle.cb_forms.specs.Members.{head_and_rest}
use Rattle.cb_forms.specs.Trees.{atom, Trees, tree}
use Rattle.cb_forms.specs.declared.token.Token.TheVariants as token
use Rattle.cb_forms.specs.declared.fault.Fault.{Fault}
use Rattle.cb_exprs.specs.Shapes.{SlotCounts}
use Rattle.cb_exprs.specs.Terms.{Term}
use Rattle.cb_words.specs.Words.{head_of}
use Rattle.cb_words.specs.declared.words.Action.{Action}
use Rattle.cb_words.specs.declared.words.Action.TheVariants as action
use Rattle.cb_words.specs.declared.words.Head.{Head}
use Rattle.cb_words.specs.declared.words.Head.TheVariants as head

one_more : (side : Side) (name : List ℕ) (us : Trees) (r : Result CallForm Refused)
    → MatchResult r (IsHeaded side (head_of name) us) (λ e. Reports e (IsHeadedFault side (head_of name) us))
    → MatchResult r (IsCall side (tree (atom (token.Symbol name)) us)) (λ e. Reports e (IsCallFault side (tree (atom (token.Symbol name)) us)))
one_more side name us (Ok c) h = (h.0, h.1, omega arith)
one_more side name us (Err e) h = h

-- a list that begins with a word
pub by_head : (side : Side) (ts : Trees) (name : List ℕ) (us : Trees) (r : Result CallForm Refused) → head_and_rest ts ≡ Some (name, us)
    → MatchResult r (IsHeaded side (head_of name) us) (λ e. Reports e (IsHeadedFault side (head_of name) us)) → MatchResult r (IsCall side ts) (λ e. Reports e (IsCallFault side ts))
by_head side ts name us r h there = subst (λ it. MatchResult r (IsCall side it) (λ e. Reports e (IsCallFault side it))) (sym (headed ts name us h)) (one_more side name us r there)

-- what the word names
pub by_word : (side : Side) (word known : Option Head) (us : Trees) (r : Result CallForm Refused) → word ≡ known
    → MatchResult r (IsHeaded side known us) (λ e. Reports e (IsHeadedFault side known us)) → MatchResult r (IsHeaded side word us) (λ e. Reports e (IsHeadedFault side word us))
by_word side word known us r h there = subst (λ it. MatchResult r (IsHeaded side it us) (λ e. Reports e (IsHeadedFault side it us))) (sym h) there

expr_other : (a : Action) (ts facts : List Term) (change : SlotCounts × List Term) (t : Term) → a ≢ action.Assert → a ≢ action.Modify → action_of a ts ≡ Some t → call_expr (Some (head.Action a)) ts facts change ≡ t
expr_other action.Assert ts facts change t other else h = absurd (other refl)
expr_other action.Modify ts facts change t other else h = absurd (else refl)
expr_other a ts facts change t other else h = ap (λ o. unwrap_or o no_expr) h

faults_other : (s : Scope) (a : Action) (ts : Trees) (args facts change : List Fault) → a ≢ action.Assert → a ≢ action.Modify
    → action_faults s a ts args facts change ≡ unless (is_some (action_of a (exprs_of s.templates ts))) (arguments_fault a) ++ args
faults_other s action.Assert ts args facts change other else = absurd (other refl)
faults_other s action.Modify ts args facts change other else = absurd (else refl)
faults_other s a ts args facts change other else = refl

allowed : (s : Scope) (side : Side) → may_act side ≡ true → s.side ≡ side → may_act s.side ≡ true
allowed s side may is = ap may_act is ∙ may

-- a call with an effect that has its arguments
pub by_plan : (side : Side) (a : Action) (ts : Trees) (plan : ActionForm) → a ≢ action.Assert → a ≢ action.Modify → may_act side ≡ true → HasPlan a ts (Some plan)
    → IsHeaded side (Some (head.Action a)) ts (form.Action plan)
by_plan side a ts plan other else may has = (
  λ t. expr_other a (exprs_of t ts) (assertions t ts) (modification t ts) (plan_expr t plan) other else (has.0 t),
  λ s is.
      ap (λ b. unless b (effect_fault s.side) ++ action_faults s a ts (all_faults s ts) (facts_faults s ts) (modify_faults s ts)) (allowed s side may is)
      ∙ (faults_other s a ts (all_faults s ts) (facts_faults s ts) (modify_faults s ts) other else
      ∙ (ap (λ o. unless (is_some o) (arguments_fault a) ++ all_faults s ts) (has.0 s.templates) ∙ has.1 s)),
  has.2,
)

-- one that hasn't
pub by_no_plan : (side : Side) (a : Action) (ts : Trees) → a ≢ action.Assert → a ≢ action.Modify → may_act side ≡ true → HasPlan a ts None → IsHeadedFault side (Some (head.Action a)) ts (arguments_fault a)
by_no_plan side a ts other else may has =
    λ s is.
    ap (λ b. first_of (unless b (effect_fault s.side) ++ action_faults s a ts (all_faults s ts) (facts_faults s ts) (modify_faults s ts))) (allowed s side may is)
    ∙ (ap first_of (faults_other s a ts (all_faults s ts) (facts_faults s ts) (modify_faults s ts) other else)
    ∙ ap (λ o. first_of (unless (is_some o) (arguments_fault a) ++ all_faults s ts)) (has s.templates))
