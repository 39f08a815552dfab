-- What may stand on the left side of a rule, and which variables are known in its actions.
use Rattle.std.proofs.Common.{◌≡◌, ◌↔◌, ◌∙◌, ◌++◌, ℕ, List, [], Option, Some, None, ap, sym}
use Rattle.std.proofs.lemmas.Cmp.{nat_list_eq_equiv}
use Rattle.std.proofs.lemmas.Map.Views.{Contains-from_any, list_any-from_Contains}
use Rattle.std.proofs.lemmas.Slice.Eq.{bytes_eq-Decides}
use Rattle.std.specs.List.{Contains}
use Rattle.std.specs.Str.{bytes_eq}
use Rattle.cb_expr_forms.specs.ExprFaults.{action_faults, all_faults, call_faults, facts_faults, faults_of, list_faults, modify_faults, token_faults}
use Rattle.cb_expr_forms.specs.ExprForms.{assertions, call_expr, count, expr_of, exprs_of, list_expr, modification, token_expr}
use Rattle.cb_facts.specs.FaultLists.{first_of, unless}
use Rattle.cb_expr_forms.specs.Laws.{ArePlain, IsPlain, list_of}
use Rattle.cb_expr_forms.specs.Scopes.{Scope, effect_fault, is_known, may_act, may_use_globals}
use Rattle.cb_expr_forms.specs.declared.scope.Side.TheVariants.{Left}
use Rattle.cb_expr_forms.proofs.Known.{turned}
use Rattle.cb_expr_forms.proofs.RightLaws.{both_none, holds}
use Rattle.cb_exprs.specs.Shapes.{SlotCounts}
use Rattle.cb_exprs.specs.Terms.{Term, terms}
use Rattle.cb_forms.specs.Trees.{Tree, atom, branch, Trees, no_trees, tree}
use Rattle.cb_forms.specs.declared.fault.Fault.{Fault}
use Rattle.cb_forms.specs.declared.fault.Fault.TheVariants.{NotOnLeftSide, UnboundVariable, UnknownGlobal, WrongArguments}
use Rattle.cb_forms.specs.declared.token.Token.{Token}
use Rattle.cb_forms.specs.declared.token.Token.TheVariants as token
use Rattle.cb_words.specs.Words.{arity_of, takes}
use Rattle.cb_words.specs.Words.{head_of}
use Rattle.cb_words.specs.declared.words.Action.{Action}
use Rattle.cb_words.specs.declared.words.Head.{Head}
use Rattle.cb_words.specs.declared.words.Head.TheVariants as head

pub global_refused : (s : Scope) (name : List ℕ) → s.side ≡ Left → first_of (token_faults s (token.Global name)) ≡ Some NotOnLeftSide
global_refused s name left = ap (λ it. first_of (unless (may_use_globals it) NotOnLeftSide ++ unless (is_known s.globals name) UnknownGlobal)) left

effect_refused : (s : Scope) (a : Action) (args : Trees) (all facts change : List Fault) → s.side ≡ Left
    → first_of (call_faults s (Some (head.Action a)) args all facts change) ≡ Some NotOnLeftSide
effect_refused s a args all facts change left = ap (λ it. first_of (unless (may_act it) (effect_fault it) ++ action_faults s a args all facts change)) left

pub call_refused : (s : Scope) (name : List ℕ) (a : Action) (args : Trees) → s.side ≡ Left → head_of name ≡ Some (head.Action a)
    → first_of (faults_of s (list_of name args)) ≡ Some NotOnLeftSide
call_refused s name a args left is =
    ap (λ word. first_of (call_faults s word args (all_faults s args) (facts_faults s args) (modify_faults s args))) is
    ∙ effect_refused s a args (all_faults s args) (facts_faults s args) (modify_faults s args) left

never : (fs : List Fault) (f : Fault) → first_of fs ≡ Some f → fs ≡ [] → ⊥
never fs f one none = let no : None ≡ Some f = sym (ap first_of none) ∙ one in cc

token_plain : (s : Scope) (t : Token) → s.side ≡ Left → token_faults s t ≡ [] → IsPlain (token_expr t)
token_plain s (token.Symbol bytes) left h = tt
token_plain s (token.Str bytes) left h = tt
token_plain s (token.Int n) left h = tt
token_plain s (token.Var name) left h = tt
token_plain s (token.MultiVar name) left h = tt
token_plain s (token.Global name) left h = absurd (never (token_faults s (token.Global name)) NotOnLeftSide (global_refused s name left) h)
token_plain s token.Any left h = absurd (cc)
token_plain s token.MultiAny left h = absurd (cc)
token_plain s token.And left h = absurd (cc)
token_plain s token.Or left h = absurd (cc)
token_plain s token.Not left h = absurd (cc)

-- a call, by what its word names, if its arguments are plain
call_plain : (s : Scope) (word : Option Head) (args : Trees) (facts : List Term) (change : SlotCounts × List Term) (wrong more : List Fault) → s.side ≡ Left
    → (all_faults s args ≡ [] → ArePlain (terms (exprs_of s.templates args))) → call_faults s word args (all_faults s args) wrong more ≡ []
    → IsPlain (call_expr word (exprs_of s.templates args) facts change)
call_plain s None args facts change wrong more left plain h = absurd (cc)
call_plain s (Some (head.Function f)) args facts change wrong more left plain h = plain (both_none (unless (takes (arity_of f) (count args)) WrongArguments) (all_faults s args) h).1
call_plain s (Some (head.Action a)) args facts change wrong more left plain h =
    absurd (never (call_faults s (Some (head.Action a)) args (all_faults s args) wrong more) NotOnLeftSide (effect_refused s a args (all_faults s args) wrong more left) h)
call_plain s (Some (head.Construct c)) args facts change wrong more left plain h = absurd (cc)
call_plain s (Some (head.Command c)) args facts change wrong more left plain h = absurd (cc)
call_plain s (Some head.Refused) args facts change wrong more left plain h = absurd (cc)

mutual
  pub is_plain : (s : Scope) (t : Tree) → s.side ≡ Left → faults_of s t ≡ [] → IsPlain (expr_of s.templates t)
  is_plain s (atom t) left h = token_plain s t left h
  is_plain s (branch ts) left h = list_plain s ts left h

  list_plain : (s : Scope) (ts : Trees) → s.side ≡ Left → list_faults s ts ≡ [] → IsPlain (list_expr s.templates ts)
  list_plain s no_trees left h = absurd (cc)
  list_plain s (tree (branch us) ts) left h = absurd (cc)
  list_plain s (tree (atom (token.Symbol name)) ts) left h = call_plain s (head_of name) ts (assertions s.templates ts) (modification s.templates ts) (facts_faults s ts) (modify_faults s ts) left (λ none. are_plain s ts left none) h
  list_plain s (tree (atom (token.Str bytes)) ts) left h = absurd (cc)
  list_plain s (tree (atom (token.Int n)) ts) left h = absurd (cc)
  list_plain s (tree (atom (token.Var name)) ts) left h = absurd (cc)
  list_plain s (tree (atom (token.MultiVar name)) ts) left h = absurd (cc)
  list_plain s (tree (atom token.Any) ts) left h = absurd (cc)
  list_plain s (tree (atom token.MultiAny) ts) left h = absurd (cc)
  list_plain s (tree (atom (token.Global name)) ts) left h = absurd (cc)
  list_plain s (tree (atom token.And) ts) left h = absurd (cc)
  list_plain s (tree (atom token.Or) ts) left h = absurd (cc)
  list_plain s (tree (atom token.Not) ts) left h = absurd (cc)

  are_plain : (s : Scope) (ts : Trees) → s.side ≡ Left → all_faults s ts ≡ [] → ArePlain (terms (exprs_of s.templates ts))
  are_plain s no_trees left h = tt
  are_plain s (tree t ts) left h = let parts = both_none (faults_of s t) (all_faults s ts) h in (is_plain s t left parts.0, are_plain s ts left parts.1)

-- a variable is known where it is among the names
pub known_where : (names : List (List ℕ)) (name : List ℕ) → (unless (is_known names name) UnboundVariable ≡ []) ↔ Contains names name
known_where names name = (
  λ none. Contains-from_any {eq = bytes_eq} (λ x y same. (bytes_eq-Decides x y).0 same) name names (turned names name ∙ holds (is_known names name) UnboundVariable none),
  λ among. ap (λ b. unless b UnboundVariable) (sym (turned names name) ∙ list_any-from_Contains {eq = bytes_eq} nat_list_eq_equiv name names among),
)
