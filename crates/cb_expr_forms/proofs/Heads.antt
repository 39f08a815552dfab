-- Forms by the symbol that they begin with.
use Rattle.std.proofs.Common.{◌≡◌, ℕ, suc, List, [], ◌∷◌, Option, Some, None, length, refl, ap}
use Rattle.cb_expr_forms.specs.Actions.{is_this_word}
use Rattle.cb_expr_forms.specs.ExprFaults.{change_faults, fact_faults, is_this_symbol, list_faults, slot_faults}
use Rattle.cb_expr_forms.specs.ExprForms.{count, expr_of, list_expr}
use Rattle.cb_expr_forms.specs.Scopes.{Scope}
use Rattle.cb_expr_forms.proofs.Compounds.{compound-word, list_compound}
use Rattle.cb_forms.specs.Members.{call_of, head_and_rest, members}
use Rattle.cb_forms.specs.Trees.{Tree, atom, branch, Trees, no_trees, tree}
use Rattle.cb_forms.specs.declared.fault.Fault.TheVariants.{MalformedForm, FactDoesNotFit}
use Rattle.cb_forms.specs.declared.form.Form.{Form}
use Rattle.cb_forms.specs.declared.token.Token.TheVariants as token
use Rattle.cb_templates.specs.Slots.{SlotShape}
use Rattle.cb_templates.specs.Templates.{Templates}

abbrev split_of : Option (List ℕ × Trees) → List ℕ × Trees
split_of None = ([], no_trees)
split_of (Some p) = p

-- forms that begin with a symbol
pub headed : (ts : Trees) (name : List ℕ) (us : Trees) → head_and_rest ts ≡ Some (name, us) → ts ≡ tree (atom (token.Symbol name)) us
headed no_trees name us h = absurd (cc)
headed (tree (branch vs) ts) name us h = absurd (cc)
headed (tree (atom (token.Symbol bytes)) ts) name us h = ap (λ o. tree (atom (token.Symbol (split_of o).0)) (split_of o).1) h
headed (tree (atom (token.Str bytes)) ts) name us h = absurd (cc)
headed (tree (atom (token.Int n)) ts) name us h = absurd (cc)
headed (tree (atom (token.Var x)) ts) name us h = absurd (cc)
headed (tree (atom (token.MultiVar x)) ts) name us h = absurd (cc)
headed (tree (atom token.Any) ts) name us h = absurd (cc)
headed (tree (atom token.MultiAny) ts) name us h = absurd (cc)
headed (tree (atom (token.Global x)) ts) name us h = absurd (cc)
headed (tree (atom token.And) ts) name us h = absurd (cc)
headed (tree (atom token.Or) ts) name us h = absurd (cc)
headed (tree (atom token.Not) ts) name us h = absurd (cc)

-- a list that does
pub called : (t : Tree) (name : List ℕ) (us : Trees) → call_of t ≡ Some (name, us) → t ≡ branch (tree (atom (token.Symbol name)) us)
called (atom k) name us h = absurd (cc)
called (branch ts) name us h = ap branch (headed ts name us h)

pub headless_faults : (s : Scope) (ts : Trees) → head_and_rest ts ≡ None → list_faults s ts ≡ MalformedForm ∷ []
headless_faults s no_trees h = refl
headless_faults s (tree (branch vs) ts) h = refl
headless_faults s (tree (atom (token.Symbol bytes)) ts) h = absurd (cc)
headless_faults s (tree (atom (token.Str bytes)) ts) h = refl
headless_faults s (tree (atom (token.Int n)) ts) h = refl
headless_faults s (tree (atom (token.Var x)) ts) h = refl
headless_faults s (tree (atom (token.MultiVar x)) ts) h = refl
headless_faults s (tree (atom token.Any) ts) h = refl
headless_faults s (tree (atom token.MultiAny) ts) h = refl
headless_faults s (tree (atom (token.Global x)) ts) h = refl
headless_faults s (tree (atom token.And) ts) h = refl
headless_faults s (tree (atom token.Or) ts) h = refl
headless_faults s (tree (atom token.Not) ts) h = refl

pub uncalled_faults : (s : Scope) (t : Tree) → call_of t ≡ None → fact_faults s t ≡ FactDoesNotFit ∷ []
uncalled_faults s (atom k) h = refl
uncalled_faults s (branch no_trees) h = refl
uncalled_faults s (branch (tree (branch vs) ts)) h = refl
uncalled_faults s (branch (tree (atom (token.Symbol bytes)) ts)) h = absurd (cc)
uncalled_faults s (branch (tree (atom (token.Str bytes)) ts)) h = refl
uncalled_faults s (branch (tree (atom (token.Int n)) ts)) h = refl
uncalled_faults s (branch (tree (atom (token.Var x)) ts)) h = refl
uncalled_faults s (branch (tree (atom (token.MultiVar x)) ts)) h = refl
uncalled_faults s (branch (tree (atom token.Any) ts)) h = refl
uncalled_faults s (branch (tree (atom token.MultiAny) ts)) h = refl
uncalled_faults s (branch (tree (atom (token.Global x)) ts)) h = refl
uncalled_faults s (branch (tree (atom token.And) ts)) h = refl
uncalled_faults s (branch (tree (atom token.Or) ts)) h = refl
uncalled_faults s (branch (tree (atom token.Not) ts)) h = refl

pub unslotted_faults : (s : Scope) (slots : List SlotShape) (given : List (List ℕ)) (t : Tree) → call_of t ≡ None → slot_faults s slots given t ≡ FactDoesNotFit ∷ []
unslotted_faults s slots given (atom k) h = refl
unslotted_faults s slots given (branch no_trees) h = refl
unslotted_faults s slots given (branch (tree (branch vs) ts)) h = refl
unslotted_faults s slots given (branch (tree (atom (token.Symbol bytes)) ts)) h = absurd (cc)
unslotted_faults s slots given (branch (tree (atom (token.Str bytes)) ts)) h = refl
unslotted_faults s slots given (branch (tree (atom (token.Int n)) ts)) h = refl
unslotted_faults s slots given (branch (tree (atom (token.Var x)) ts)) h = refl
unslotted_faults s slots given (branch (tree (atom (token.MultiVar x)) ts)) h = refl
unslotted_faults s slots given (branch (tree (atom token.Any) ts)) h = refl
unslotted_faults s slots given (branch (tree (atom token.MultiAny) ts)) h = refl
unslotted_faults s slots given (branch (tree (atom (token.Global x)) ts)) h = refl
unslotted_faults s slots given (branch (tree (atom token.And) ts)) h = refl
unslotted_faults s slots given (branch (tree (atom token.Or) ts)) h = refl
unslotted_faults s slots given (branch (tree (atom token.Not) ts)) h = refl

pub unchanged_faults : (s : Scope) (given : List (List ℕ)) (t : Tree) → call_of t ≡ None → change_faults s given t ≡ FactDoesNotFit ∷ []
unchanged_faults s given (atom k) h = refl
unchanged_faults s given (branch no_trees) h = refl
unchanged_faults s given (branch (tree (branch vs) ts)) h = refl
unchanged_faults s given (branch (tree (atom (token.Symbol bytes)) ts)) h = absurd (cc)
unchanged_faults s given (branch (tree (atom (token.Str bytes)) ts)) h = refl
unchanged_faults s given (branch (tree (atom (token.Int n)) ts)) h = refl
unchanged_faults s given (branch (tree (atom (token.Var x)) ts)) h = refl
unchanged_faults s given (branch (tree (atom (token.MultiVar x)) ts)) h = refl
unchanged_faults s given (branch (tree (atom token.Any) ts)) h = refl
unchanged_faults s given (branch (tree (atom token.MultiAny) ts)) h = refl
unchanged_faults s given (branch (tree (atom (token.Global x)) ts)) h = refl
unchanged_faults s given (branch (tree (atom token.And) ts)) h = refl
unchanged_faults s given (branch (tree (atom token.Or) ts)) h = refl
unchanged_faults s given (branch (tree (atom token.Not) ts)) h = refl

-- a word among the expressions is the symbol among the forms
pub word_symbol : (templates : Templates) (word : List ℕ) (t : Tree) → is_this_word word (expr_of templates t) ≡ is_this_symbol word t
word_symbol templates word (branch ts) = compound-word word (list_expr templates ts) (list_compound templates ts)
word_symbol templates word (atom (token.Symbol bytes)) = refl
word_symbol templates word (atom (token.Str bytes)) = refl
word_symbol templates word (atom (token.Int n)) = refl
word_symbol templates word (atom (token.Var x)) = refl
word_symbol templates word (atom (token.MultiVar x)) = refl
word_symbol templates word (atom token.Any) = refl
word_symbol templates word (atom token.MultiAny) = refl
word_symbol templates word (atom (token.Global x)) = refl
word_symbol templates word (atom token.And) = refl
word_symbol templates word (atom token.Or) = refl
word_symbol templates word (atom token.Not) = refl

pub count_members : (fs : List Form) → count (members fs) ≡ length fs
count_members [] = refl
count_members (f ∷ fs) = ap suc (count_members fs)
