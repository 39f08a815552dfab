-- Forms, and which expression each is or what is wrong with it.
use Rattle.std.proofs.Common.{◌≡◌, ℕ, List, [], ◌∷◌, Some, None, codes, pos, true, false, refl}
use Rattle.cb_expr_forms.specs.Bound.{bound_in}
use Rattle.cb_expr_forms.specs.ExprFaults.{faults_of}
use Rattle.cb_expr_forms.specs.ExprForms.{expr_of}
use Rattle.cb_facts.specs.FaultLists.{first_of}
use Rattle.cb_expr_forms.specs.Scopes.{Scope, scope_on}
use Rattle.cb_expr_forms.specs.Variables.{variables_of}
use Rattle.cb_expr_forms.specs.declared.scope.Side.TheVariants.{Top, Left, Actions}
use Rattle.cb_exprs.specs.Terms.{constant, variable, global, call, effect, choose, repeat, actions, no_terms, term}
use Rattle.cb_exprs.specs.declared.effect.Effect.TheVariants as kind
use Rattle.cb_facts.specs.declared.value.Value.TheVariants as value
use Rattle.cb_forms.specs.Trees.{Tree, atom, branch, Trees, no_trees, tree}
use Rattle.cb_forms.specs.declared.fault.Fault.TheVariants.{UnknownFunction, WrongArguments, MalformedForm, FactDoesNotFit, ValueNotAllowed, UnboundVariable, UnknownGlobal, NotOnLeftSide, NotInProfile}
use Rattle.cb_forms.specs.declared.token.Token.TheVariants as token
use Rattle.cb_words.specs.Reserved.{is_reserved}
use Rattle.cb_templates.specs.declared.slot_type.SlotType.TheVariants.{Integer}
use Rattle.cb_words.specs.Words.{head_of}
use Rattle.cb_words.specs.declared.words.Function.TheVariants.{Add, Create}

abbrev word : List ℕ → Tree
word bytes = atom (token.Symbol bytes)

abbrev int : ℕ → Tree
int n = atom (token.Int (pos n))

abbrev var : List ℕ → Tree
var name = atom (token.Var name)

abbrev forms : List Tree → Trees
forms [] = no_trees
forms (t ∷ ts) = tree t (forms ts)

abbrev list : List Tree → Tree
list ts = branch (forms ts)

-- a template with a slot of integers, which must be given, and a multislot of integers
abbrev scope : Scope
scope = record {
  side = Top;
  variables = codes "x" ∷ [];
  globals = codes "g" ∷ [];
  templates = (
    codes "t",
    record { name = codes "k"; is_multi = false; types = Some (Integer ∷ []); default = None } ∷ record { name = codes "m"; is_multi = true; types = Some (Integer ∷ []); default = Some (value.Multi []) } ∷ [],
  ) ∷ [];
}

-- (+ 1 ?x)
sum_is : expr_of [] (list (word (codes "+") ∷ int 1 ∷ var (codes "x") ∷ [])) ≡ call Add (term (constant (value.Int (pos 1))) (term (variable (codes "x")) no_terms))
unfolding head_of
sum_is = refl

-- (+ 1), (bogus), (run), (1 2), (+ 1 ?)
one_argument : first_of (faults_of scope (list (word (codes "+") ∷ int 1 ∷ []))) ≡ Some WrongArguments
unfolding head_of
one_argument = refl

no_function : first_of (faults_of scope (list (word (codes "bogus") ∷ []))) ≡ Some UnknownFunction
unfolding head_of
no_function = refl

a_command : first_of (faults_of scope (list (word (codes "+") ∷ int 1 ∷ list (word (codes "reset") ∷ []) ∷ []))) ≡ Some NotInProfile
unfolding head_of
a_command = refl

no_word : first_of (faults_of scope (list (int 1 ∷ int 2 ∷ []))) ≡ Some MalformedForm
no_word = refl

wildcard : first_of (faults_of scope (list (word (codes "+") ∷ int 1 ∷ atom token.Any ∷ []))) ≡ Some MalformedForm
unfolding head_of
wildcard = refl

-- (if TRUE then 1 else 2)
if_is : expr_of [] (list (word (codes "if") ∷ word (codes "TRUE") ∷ word (codes "then") ∷ int 1 ∷ word (codes "else") ∷ int 2 ∷ []))
    ≡ choose (constant (value.Symbol (codes "TRUE"))) (actions (term (constant (value.Int (pos 1))) no_terms)) (actions (term (constant (value.Int (pos 2))) no_terms))
unfolding head_of
if_is = refl

-- (if TRUE then 1 else 2 else 3), (if (bogus) else 1)
two_elses : first_of (faults_of scope (list (word (codes "if") ∷ word (codes "TRUE") ∷ word (codes "then") ∷ word (codes "else") ∷ word (codes "else") ∷ []))) ≡ Some WrongArguments
unfolding head_of
two_elses = refl

no_then : first_of (faults_of scope (list (word (codes "if") ∷ list (word (codes "bogus") ∷ []) ∷ word (codes "else") ∷ []))) ≡ Some WrongArguments
unfolding head_of
no_then = refl

-- (while do 1)
while_is : expr_of [] (list (word (codes "while") ∷ word (codes "do") ∷ int 1 ∷ [])) ≡ repeat (constant (value.Symbol (codes "do"))) (actions (term (constant (value.Int (pos 1))) no_terms))
unfolding head_of
while_is = refl

-- (while TRUE do 1), (while TRUE then 1)
while_do_is : expr_of [] (list (word (codes "while") ∷ word (codes "TRUE") ∷ word (codes "do") ∷ int 1 ∷ [])) ≡ repeat (constant (value.Symbol (codes "TRUE"))) (actions (term (constant (value.Int (pos 1))) no_terms))
unfolding head_of
while_do_is = refl

while_then_is : expr_of [] (list (word (codes "while") ∷ word (codes "TRUE") ∷ word (codes "then") ∷ int 1 ∷ []))
    ≡ repeat (constant (value.Symbol (codes "TRUE"))) (actions (term (constant (value.Symbol (codes "then"))) (term (constant (value.Int (pos 1))) no_terms)))
unfolding head_of
while_then_is = refl

-- (bind ?x 1 2), (bind ?x), (bind ?*u* (bogus)), (bind ? 1)
bind_is : expr_of [] (list (word (codes "bind") ∷ var (codes "x") ∷ int 1 ∷ int 2 ∷ []))
    ≡ effect (kind.Bind (codes "x")) (term (constant (value.Int (pos 1))) (term (constant (value.Int (pos 2))) no_terms))
unfolding head_of
bind_is = refl

bind_nothing : first_of (faults_of scope (list (word (codes "bind") ∷ var (codes "x") ∷ []))) ≡ Some WrongArguments
unfolding head_of
bind_nothing = refl

bind_unknown : first_of (faults_of scope (list (word (codes "bind") ∷ atom (token.Global (codes "u")) ∷ list (word (codes "bogus") ∷ []) ∷ []))) ≡ Some UnknownGlobal
unfolding head_of
bind_unknown = refl

bind_wildcard : first_of (faults_of scope (list (word (codes "bind") ∷ atom token.Any ∷ int 1 ∷ []))) ≡ Some WrongArguments
unfolding head_of
bind_wildcard = refl

-- (printout), (printout (bogus))
no_channel : first_of (faults_of scope (list (word (codes "printout") ∷ []))) ≡ Some NotInProfile
unfolding head_of
no_channel = refl

computed_channel : first_of (faults_of scope (list (word (codes "printout") ∷ list (word (codes "bogus") ∷ []) ∷ []))) ≡ Some NotInProfile
unfolding head_of
computed_channel = refl

-- (create$ = (create$ 1)) and (assert (d = (create$ 1)))
equals : first_of (faults_of scope (list (word (codes "create$") ∷ word (codes "=") ∷ list (word (codes "create$") ∷ int 1 ∷ []) ∷ []))) ≡ None
unfolding head_of
equals = refl

equals_in_fact : first_of (faults_of scope (list (word (codes "assert") ∷ list (word (codes "d") ∷ word (codes "=") ∷ list (word (codes "create$") ∷ int 1 ∷ []) ∷ []) ∷ []))) ≡ Some NotInProfile
unfolding head_of is_reserved
equals_in_fact = refl

-- (assert (t (k x (bogus)))), (assert (t (m x (bogus)))), (assert (t (m (bogus) x))), (assert (t (m 1)))
slot_with_two : first_of (faults_of scope (list (word (codes "assert") ∷ list (word (codes "t") ∷ list (word (codes "k") ∷ word (codes "a") ∷ list (word (codes "bogus") ∷ []) ∷ []) ∷ []) ∷ []))) ≡ Some FactDoesNotFit
unfolding head_of is_reserved
slot_with_two = refl

type_first : first_of (faults_of scope (list (word (codes "assert") ∷ list (word (codes "t") ∷ list (word (codes "m") ∷ word (codes "a") ∷ list (word (codes "bogus") ∷ []) ∷ []) ∷ []) ∷ []))) ≡ Some ValueNotAllowed
unfolding head_of is_reserved
type_first = refl

call_first : first_of (faults_of scope (list (word (codes "assert") ∷ list (word (codes "t") ∷ list (word (codes "m") ∷ list (word (codes "bogus") ∷ []) ∷ word (codes "a") ∷ []) ∷ []) ∷ []))) ≡ Some UnknownFunction
unfolding head_of is_reserved
call_first = refl

slot_not_given : first_of (faults_of scope (list (word (codes "assert") ∷ list (word (codes "t") ∷ list (word (codes "m") ∷ int 1 ∷ []) ∷ []) ∷ []))) ≡ Some FactDoesNotFit
unfolding head_of is_reserved
slot_not_given = refl

-- (if TRUE then (foo (bind ?q)) (bind 1 ?r))
bound_anywhere : bound_in (list (word (codes "if") ∷ list (word (codes "foo") ∷ list (word (codes "bind") ∷ var (codes "q") ∷ []) ∷ []) ∷ list (word (codes "bind") ∷ int 1 ∷ var (codes "r") ∷ []) ∷ [])) ≡ codes "q" ∷ []
bound_anywhere = refl

-- on the left side of a rule: (+ ?x $?y), (print (bogus)), (bind), (+ (print)), (+ 1 (print) (bogus)), (+ ?*u* (bogus)), (reset)
abbrev left : Scope
left = scope_on Left [] [] (codes "g" ∷ []) []

any_variable : faults_of left (list (word (codes "+") ∷ var (codes "x") ∷ atom (token.MultiVar (codes "y")) ∷ [])) ≡ []
unfolding head_of
any_variable = refl

effect_first : first_of (faults_of left (list (word (codes "print") ∷ list (word (codes "bogus") ∷ []) ∷ []))) ≡ Some NotOnLeftSide
unfolding head_of
effect_first = refl

effect_before_shape : first_of (faults_of left (list (word (codes "bind") ∷ []))) ≡ Some NotOnLeftSide
unfolding head_of
effect_before_shape = refl

number_before_effect : first_of (faults_of left (list (word (codes "+") ∷ list (word (codes "print") ∷ []) ∷ []))) ≡ Some WrongArguments
unfolding head_of
number_before_effect = refl

effect_inside : first_of (faults_of left (list (word (codes "+") ∷ int 1 ∷ list (word (codes "print") ∷ []) ∷ list (word (codes "bogus") ∷ []) ∷ []))) ≡ Some NotOnLeftSide
unfolding head_of
effect_inside = refl

no_global : first_of (faults_of left (list (word (codes "+") ∷ atom (token.Global (codes "u")) ∷ list (word (codes "bogus") ∷ []) ∷ []))) ≡ Some NotOnLeftSide
unfolding head_of
no_global = refl

command_on_left : first_of (faults_of left (list (word (codes "reset") ∷ []))) ≡ Some NotInProfile
unfolding head_of
command_on_left = refl

-- in actions: (print ?v), (print ?x ?*g*), where ?v has a value at the top level and ?x is given
abbrev acting : Scope
acting = scope_on Actions (codes "v" ∷ []) (codes "x" ∷ []) (codes "g" ∷ []) []

not_of_the_top : first_of (faults_of acting (list (word (codes "print") ∷ var (codes "v") ∷ []))) ≡ Some UnboundVariable
unfolding head_of
not_of_the_top = refl

given_there : faults_of acting (list (word (codes "print") ∷ var (codes "x") ∷ atom (token.Global (codes "g")) ∷ [])) ≡ []
unfolding head_of
given_there = refl

-- (bind ?x (+ ?y ?*g* ?x))
in_order : variables_of (effect (kind.Bind (codes "x")) (term (call Add (term (variable (codes "y")) (term (global (codes "g")) (term (variable (codes "x")) no_terms)))) no_terms)) ≡ codes "x" ∷ codes "y" ∷ codes "x" ∷ []
in_order = refl
