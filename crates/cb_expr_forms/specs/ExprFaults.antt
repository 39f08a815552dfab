-- What is wrong with a form as an expression, and as a fact, in the order in which it is looked for.
use Rattle.std.specs.Prelude.{◌&&◌, ◌||◌, ℕ, Bool, true, false, not, List, [], ◌∷◌, ◌++◌, Option, Some, None, is_some, codes}
use Rattle.std.specs.List.{list_all}
use Rattle.std.specs.Option.{option_map_or}
use Rattle.std.specs.Str.{bytes_eq}
use Rattle.cb_expr_forms.specs.Actions.{action_of}
use Rattle.cb_expr_forms.specs.ExprForms.{count, expr_of, exprs_of, slot_name}
use Rattle.cb_facts.specs.FaultLists.{unless}
use Rattle.cb_expr_forms.specs.Scopes.{Scope, effect_fault, is_known, may_act, may_name, may_use_globals}
use Rattle.cb_exprs.specs.Terms.{Term, constant}
use Rattle.cb_forms.specs.Members.{symbol_of}
use Rattle.cb_forms.specs.Trees.{Tree, atom, branch, Trees, no_trees, tree}
use Rattle.cb_forms.specs.declared.fault.Fault.{Fault}
use Rattle.cb_forms.specs.declared.fault.Fault.TheVariants.{UnknownFunction, WrongArguments, MalformedForm, FactDoesNotFit, ValueNotAllowed, UnboundVariable, UnknownGlobal, NotOnLeftSide, NotInProfile}
use Rattle.cb_forms.specs.declared.token.Token.{Token}
use Rattle.cb_forms.specs.declared.token.Token.TheVariants as token
use Rattle.cb_words.specs.Reserved.{is_reserved}
use Rattle.cb_templates.specs.Slots.{SlotShape, Types, allows_all, slot_named}
use Rattle.cb_templates.specs.TemplateFaults.{is_no_form, is_one_form}
use Rattle.cb_templates.specs.Templates.{slots_of}
use Rattle.cb_words.specs.Words.{arity_of, takes}
use Rattle.cb_words.specs.Words.{head_of}
use Rattle.cb_words.specs.declared.words.Action.{Action}
use Rattle.cb_words.specs.declared.words.Action.TheVariants as action
use Rattle.cb_words.specs.declared.words.Head.{Head}
use Rattle.cb_words.specs.declared.words.Head.TheVariants as head

-- a variable and a global must be allowed and known; a wildcard and a connective are no expressions
abbrev pub token_faults : Scope → Token → List Fault
token_faults s (token.Symbol bytes) = []
token_faults s (token.Str bytes) = []
token_faults s (token.Int n) = []
token_faults s (token.Var name) = unless (may_name s.side s.variables name) UnboundVariable
token_faults s (token.MultiVar name) = unless (may_name s.side s.variables name) UnboundVariable
token_faults s (token.Global name) = unless (may_use_globals s.side) NotOnLeftSide ++ unless (is_known s.globals name) UnknownGlobal
token_faults s t = MalformedForm ∷ []

-- wrong arguments of a call with an effect: `printout` to what is no channel is not in the profile
abbrev pub arguments_fault : Action → Fault
arguments_fault action.Printout = NotInProfile
arguments_fault a = WrongArguments

-- the first of the forms is a list
abbrev pub begins_with_list : Trees → Bool
begins_with_list (tree (branch us) ts) = true
begins_with_list ts = false

-- the form is this symbol
abbrev pub is_this_symbol : List ℕ → Tree → Bool
is_this_symbol word t = option_map_or (λ name. bytes_eq name word) (symbol_of t) false

abbrev pub is_equals : Tree → Bool
is_equals t = is_this_symbol (codes "=") t

-- in a fact the symbol `=` before a list is no constant
abbrev pub equals_faults : Tree → Trees → List Fault
equals_faults t following = unless (not (is_equals t && begins_with_list following)) NotInProfile

-- a constant must be of the types; what is computed may be anything
abbrev pub type_faults : Types → Term → List Fault
type_faults types (constant v) = unless (allows_all types v) ValueNotAllowed
type_faults types t = []

-- each slot is given or has a default
abbrev pub are_filled : List SlotShape → List (List ℕ) → Bool
are_filled slots given = list_all (λ s. is_known given s.name || is_some s.default) slots

-- What is wrong with a call with an effect: the number and the shape of its arguments, and then these faults of the
-- arguments, of the facts that it asserts, or of what it modifies.
abbrev pub action_faults : Scope → Action → Trees → List Fault → List Fault → List Fault → List Fault
action_faults s action.Assert ts args facts change = unless (not (is_no_form ts)) WrongArguments ++ facts
action_faults s action.Modify ts args facts change = unless (not (is_no_form ts)) WrongArguments ++ change
action_faults s a ts args facts change = unless (is_some (action_of a (exprs_of s.templates ts))) (arguments_fault a) ++ args

-- What is wrong with a call: its word is that of a function, an effect may stand there, and so on.
abbrev pub call_faults : Scope → Option Head → Trees → List Fault → List Fault → List Fault → List Fault
call_faults s None ts args facts change = UnknownFunction ∷ []
call_faults s (Some (head.Function f)) ts args facts change = unless (takes (arity_of f) (count ts)) WrongArguments ++ args
call_faults s (Some (head.Action a)) ts args facts change = unless (may_act s.side) (effect_fault s.side) ++ action_faults s a ts args facts change
call_faults s (Some h) ts args facts change = NotInProfile ∷ []

-- what is wrong with a fact after its relation, by the slots of its template, if it has one
abbrev pub content_faults : Option (List SlotShape) → List Fault → (List SlotShape → List Fault) → List Fault
content_faults None fields slots = fields
content_faults (Some shapes) fields slots = slots shapes

-- what is wrong with a slot: the template has it, it is given once, it takes so many values, and then these faults of them
abbrev pub given_slot_faults : Option SlotShape → Bool → Trees → (Types → List Fault) → List Fault
given_slot_faults None is_given ts values = FactDoesNotFit ∷ []
given_slot_faults (Some slot) is_given ts values =
    unless (not is_given) FactDoesNotFit ++ (unless (slot.is_multi || is_one_form ts) FactDoesNotFit ++ values slot.types)

abbrev mutual
  -- what is wrong with an expression
  pub faults_of : Scope → Tree → List Fault
  faults_of s (atom t) = token_faults s t
  faults_of s (branch ts) = list_faults s ts

  -- a list begins with a word
  pub list_faults : Scope → Trees → List Fault
  list_faults s (tree (atom (token.Symbol name)) ts) = call_faults s (head_of name) ts (all_faults s ts) (facts_faults s ts) (modify_faults s ts)
  list_faults s ts = MalformedForm ∷ []

  -- The faults of forms, one after another.
  pub all_faults : Scope → Trees → List Fault
  all_faults s no_trees = []
  all_faults s (tree t ts) = faults_of s t ++ all_faults s ts

  -- what is wrong with facts
  pub facts_faults : Scope → Trees → List Fault
  facts_faults s no_trees = []
  facts_faults s (tree t ts) = fact_faults s t ++ facts_faults s ts

  -- A fact is a list that begins with a relation. The fields of an ordered fact may be of any type.
  pub fact_faults : Scope → Tree → List Fault
  fact_faults s (branch (tree (atom (token.Symbol relation)) ts)) =
      unless (not (is_reserved relation)) FactDoesNotFit
      ++ content_faults (slots_of s.templates relation) (values_faults s None ts) (λ slots. slots_faults s slots [] ts)
  fact_faults s t = FactDoesNotFit ∷ []

  -- what is wrong with the slots that a fact gives after those with these names
  pub slots_faults : Scope → List SlotShape → List (List ℕ) → Trees → List Fault
  slots_faults s slots given no_trees = unless (are_filled slots given) FactDoesNotFit
  slots_faults s slots given (tree t ts) = slot_faults s slots given t ++ slots_faults s slots (given ++ slot_name t ∷ []) ts

  -- a slot is a list that begins with its name
  pub slot_faults : Scope → List SlotShape → List (List ℕ) → Tree → List Fault
  slot_faults s slots given (branch (tree (atom (token.Symbol name)) ts)) =
      given_slot_faults (slot_named slots name) (is_known given name) ts (λ types. values_faults s types ts)
  slot_faults s slots given t = FactDoesNotFit ∷ []

  -- what is wrong with the values of a slot, or with the fields of an ordered fact
  pub values_faults : Scope → Types → Trees → List Fault
  values_faults s types no_trees = []
  values_faults s types (tree t ts) = (equals_faults t ts ++ (faults_of s t ++ type_faults types (expr_of s.templates t))) ++ values_faults s types ts

  -- what is wrong with a `modify`: with the expression that says which fact, and then with the slots that it names
  pub modify_faults : Scope → Trees → List Fault
  modify_faults s no_trees = []
  modify_faults s (tree t ts) = faults_of s t ++ changes_faults s [] ts

  -- what is wrong with the slots that it names after those with these names
  pub changes_faults : Scope → List (List ℕ) → Trees → List Fault
  changes_faults s given no_trees = []
  changes_faults s given (tree t ts) = change_faults s given t ++ changes_faults s (given ++ slot_name t ∷ []) ts

  -- Such a slot is a list that begins with its name, which is written once. Its values may be of any type.
  pub change_faults : Scope → List (List ℕ) → Tree → List Fault
  change_faults s given (branch (tree (atom (token.Symbol name)) ts)) = unless (not (is_known given name)) FactDoesNotFit ++ values_faults s None ts
  change_faults s given t = FactDoesNotFit ∷ []
