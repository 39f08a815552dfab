-- Which expression a form is, and which fact. Where the form has a fault, it is an arbitrary one.
use Rattle.std.specs.Prelude.{ℕ, suc, zero, List, [], ◌∷◌, ◌++◌, Option, Some, None, if◌then◌else◌}
use Rattle.std.specs.Option.{unwrap_or}
use Rattle.cb_expr_forms.specs.Actions.{action_of}
use Rattle.cb_exprs.specs.FactTerms.{FactTerm}
use Rattle.cb_exprs.specs.Shapes.{SlotCounts}
use Rattle.cb_exprs.specs.Terms.{Term, constant, variable, global, call, effect, actions, no_terms, terms}
use Rattle.cb_exprs.specs.declared.effect.Effect.TheVariants as kind
use Rattle.cb_facts.specs.declared.value.Value.TheVariants as value
use Rattle.cb_forms.specs.Trees.{Tree, atom, branch, Trees, no_trees, tree}
use Rattle.cb_forms.specs.declared.token.Token.{Token}
use Rattle.cb_forms.specs.declared.token.Token.TheVariants as token
use Rattle.cb_templates.specs.Slots.{SlotShape, slot_named}
use Rattle.cb_templates.specs.Templates.{Templates, slots_of}
use Rattle.cb_words.specs.Words.{head_of}
use Rattle.cb_words.specs.declared.words.Function.TheVariants as function
use Rattle.cb_words.specs.declared.words.Action.TheVariants as action
use Rattle.cb_words.specs.declared.words.Head.{Head}
use Rattle.cb_words.specs.declared.words.Head.TheVariants as head

-- what stands for a form with a fault
abbrev pub no_expr : Term
no_expr = actions no_terms

-- a token
abbrev pub token_expr : Token → Term
token_expr (token.Symbol bytes) = constant (value.Symbol bytes)
token_expr (token.Str bytes) = constant (value.Str bytes)
token_expr (token.Int n) = constant (value.Int n)
token_expr (token.Var name) = variable name
token_expr (token.MultiVar name) = variable name
token_expr (token.Global name) = global name
token_expr t = no_expr

-- to assert it
abbrev pub assertion : FactTerm → Term
assertion f = effect (kind.Assert f.shape) f.values

-- what stands for a fact with a fault
abbrev pub no_fact : FactTerm
no_fact = record { shape = record { relation = []; slots = None }; values = no_terms }

-- The first of several expressions.
abbrev pub one_of : List Term → Term
one_of [] = no_expr
one_of (t ∷ ts) = t

-- the value of a slot: of a multislot a multifield of all that it is given, of another slot the one value
abbrev pub slot_expr : Option SlotShape → List Term → Term
slot_expr None ts = no_expr
slot_expr (Some s) ts = if s.is_multi then call function.Create (terms ts) else one_of ts

-- the name of a slot that is given
abbrev pub slot_name : Tree → List ℕ
slot_name (branch (tree (atom (token.Symbol name)) ts)) = name
slot_name t = []

-- The names of the slots that a fact gives, as they are written.
abbrev pub slot_names : Trees → List (List ℕ)
slot_names no_trees = []
slot_names (tree t ts) = slot_name t ∷ slot_names ts

-- how many there are
abbrev pub count : Trees → ℕ
count no_trees = zero
count (tree t ts) = suc (count ts)

-- a slot that a `modify` names, with the number of its expressions
abbrev pub slot_count : Tree → List ℕ × ℕ
slot_count (branch (tree (atom (token.Symbol name)) ts)) = (name, count ts)
slot_count t = ([], 0)

abbrev pub slot_counts : Trees → SlotCounts
slot_counts no_trees = []
slot_counts (tree t ts) = slot_count t ∷ slot_counts ts

-- a call, by the word that it begins with, and by its arguments, the facts that it asserts, or the slots that it modifies with its
-- arguments
abbrev pub call_expr : Option Head → List Term → List Term → SlotCounts × List Term → Term
call_expr (Some (head.Function f)) ts facts change = call f (terms ts)
call_expr (Some (head.Action action.Assert)) ts facts change = actions (terms facts)
call_expr (Some (head.Action action.Modify)) ts facts change = effect (kind.Modify change.0) (terms change.1)
call_expr (Some (head.Action a)) ts facts change = unwrap_or (action_of a ts) no_expr
call_expr h ts facts change = no_expr

-- a fact, by its relation and the slots of its template, if it has one
abbrev pub fact_with : List ℕ → Option (List SlotShape) → List Term → List (List ℕ) → (List SlotShape → List Term) → FactTerm
fact_with relation None fields names values = record { shape = record { relation = relation; slots = None }; values = terms fields }
fact_with relation (Some slots) fields names values = record { shape = record { relation = relation; slots = Some names }; values = terms (values slots) }

abbrev mutual
  -- the expression that a form is
  pub expr_of : Templates → Tree → Term
  expr_of templates (atom t) = token_expr t
  expr_of templates (branch ts) = list_expr templates ts

  -- a list, by the word that it begins with
  pub list_expr : Templates → Trees → Term
  list_expr templates (tree (atom (token.Symbol name)) ts) = call_expr (head_of name) (exprs_of templates ts) (assertions templates ts) (modification templates ts)
  list_expr templates ts = no_expr

  -- The expressions that forms are.
  pub exprs_of : Templates → Trees → List Term
  exprs_of templates no_trees = []
  exprs_of templates (tree t ts) = expr_of templates t ∷ exprs_of templates ts

  -- to assert the facts that forms are
  pub assertions : Templates → Trees → List Term
  assertions templates no_trees = []
  assertions templates (tree t ts) = assertion (fact_of templates t) ∷ assertions templates ts

  -- the fact that a form is
  pub fact_of : Templates → Tree → FactTerm
  fact_of templates (branch (tree (atom (token.Symbol relation)) ts)) =
      fact_with relation (slots_of templates relation) (exprs_of templates ts) (slot_names ts) (λ slots. slot_exprs templates slots ts)
  fact_of templates t = no_fact

  -- the value of each slot that is given
  pub slot_exprs : Templates → List SlotShape → Trees → List Term
  slot_exprs templates slots no_trees = []
  slot_exprs templates slots (tree t ts) = given_slot templates slots t ∷ slot_exprs templates slots ts

  -- The expression of a slot that a fact gives: of a multislot a multifield of all that it is given.
  pub given_slot : Templates → List SlotShape → Tree → Term
  given_slot templates slots (branch (tree (atom (token.Symbol name)) ts)) = slot_expr (slot_named slots name) (exprs_of templates ts)
  given_slot templates slots t = no_expr

  -- What a `modify` names and has as arguments: the expression that says which fact, and the expressions of its slots.
  pub modification : Templates → Trees → SlotCounts × List Term
  modification templates no_trees = ([], [])
  modification templates (tree t ts) = (slot_counts ts, expr_of templates t ∷ change_exprs templates ts)

  -- the expressions of all slots that a `modify` names
  pub change_exprs : Templates → Trees → List Term
  change_exprs templates no_trees = []
  change_exprs templates (tree t ts) = exprs_in_slot templates t ++ change_exprs templates ts

  -- those of one slot
  pub exprs_in_slot : Templates → Tree → List Term
  exprs_in_slot templates (branch (tree (atom (token.Symbol name)) ts)) = exprs_of templates ts
  exprs_in_slot templates t = []
