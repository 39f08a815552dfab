-- Items and what they ask for, worked out by hand from the rules.
use Prim.Native.String.{String}
use Rattle.std.proofs.Common.{◌≡◌, ℕ, true, false, pos, List, [], ◌∷◌, Result, Ok, Err, Some, None, codes, refl}
use Rattle.cb_agenda.specs.declared.strategy.Strategy.TheVariants as strategy
use Rattle.cb_exprs.specs.Bindings.{Bindings}
use Rattle.cb_exprs.specs.Terms.{Term, constant, variable, global, call, effect, terms}
use Rattle.cb_exprs.specs.declared.effect.Effect.TheVariants as kind
use Rattle.cb_facts.specs.declared.value.Value.TheVariants as value
use Rattle.cb_forms.specs.Trees.{Tree, atom, branch, trees_of}
use Rattle.cb_forms.specs.declared.fault.Fault.{Fault}
use Rattle.cb_forms.specs.declared.fault.Fault.TheVariants.{UnknownFunction, WrongArguments, MalformedForm, FactDoesNotFit, UnboundVariable, UnknownGlobal, NotInProfile, TemplateInUse, UnmatchedParenthesis}
use Rattle.cb_forms.specs.declared.token.Token.TheVariants as token
use Rattle.cb_requests.specs.Reads.{rule_in}
use Rattle.cb_requests.specs.Requests.{Request, act, define_deffacts, define_globals, define_template, exit, request_of, reset, run, set_strategy, undefine, watch}
use Rattle.cb_words.specs.Reserved.{is_reserved}
use Rattle.cb_words.specs.Words.{head_of}
use Rattle.cb_words.specs.declared.words.Function.TheVariants as function
use Rattle.cb_words.specs.declared.watch_item.WatchItem.TheVariants as item

-- atoms and lists, as they stand in a script
abbrev word : String → Tree
word s = atom (token.Symbol (codes s))

abbrev text : String → Tree
text s = atom (token.Str (codes s))

abbrev number : ℕ → Tree
number n = atom (token.Int (pos n))

abbrev var : String → Tree
var s = atom (token.Var (codes s))

abbrev glob : String → Tree
glob s = atom (token.Global (codes s))

abbrev form : String → List Tree → Tree
form name args = branch (trees_of (word name ∷ args))

-- an integer, as an expression
abbrev int : ℕ → Term
int n = constant (value.Int (pos n))

-- the variable `?x` and the global variable `?*g*` have a value
abbrev bindings : Bindings
bindings = record {
  variables = (codes "x", value.Int (pos 1)) ∷ [];
  globals = (codes "g", value.Int (pos 2)) ∷ [];
}

-- what a form asks for there, where there is no template
abbrev asked : Tree → Result Request Fault
asked t = request_of [] bindings (λ _. false) (Ok t)

-- (defglobal ?*a* = (bogus) ?*b*): an expression is read before the shape of the next global
expression_before_next_shape : asked (form "defglobal" (glob "a" ∷ word "=" ∷ form "bogus" [] ∷ glob "b" ∷ [])) ≡ Err UnknownFunction
unfolding head_of
expression_before_next_shape = refl

-- (defglobal ?*a* = 1 ?*b*)
second_shape : asked (form "defglobal" (glob "a" ∷ word "=" ∷ number 1 ∷ glob "b" ∷ [])) ≡ Err MalformedForm
unfolding head_of
second_shape = refl

-- (defglobal ?*a* = 1 ?*b* = (div 1 0)): nothing is evaluated yet
read_before_evaluation : asked (form "defglobal" (glob "a" ∷ word "=" ∷ number 1 ∷ glob "b" ∷ word "=" ∷ form "div" (number 1 ∷ number 0 ∷ []) ∷ []))
    ≡ Ok (define_globals ((codes "a", int 1) ∷ (codes "b", call function.Div (terms (int 1 ∷ int 0 ∷ []))) ∷ []))
unfolding head_of
read_before_evaluation = refl

-- (defglobal ?*a* =), (defglobal x = 1), (defglobal ?*a* is 1), (defglobal)
no_expression : asked (form "defglobal" (glob "a" ∷ word "=" ∷ [])) ≡ Err MalformedForm
unfolding head_of
no_expression = refl

no_global : asked (form "defglobal" (word "x" ∷ word "=" ∷ number 1 ∷ [])) ≡ Err MalformedForm
unfolding head_of
no_global = refl

no_equals : asked (form "defglobal" (glob "a" ∷ word "is" ∷ form "bogus" [] ∷ [])) ≡ Err MalformedForm
unfolding head_of
no_equals = refl

nothing_given : asked (form "defglobal" []) ≡ Ok (define_globals [])
unfolding head_of
nothing_given = refl

-- (defglobal ?*a* = ?*a*): it is not known yet
first_own_mention : asked (form "defglobal" (glob "a" ∷ word "=" ∷ glob "a" ∷ [])) ≡ Err UnknownGlobal
unfolding head_of
first_own_mention = refl

-- (defglobal ?*a* = ?*g* ?*a* = ?*a*): a global that has a value is known, and one given before in the form
later_mention : asked (form "defglobal" (glob "a" ∷ word "=" ∷ glob "g" ∷ glob "a" ∷ word "=" ∷ glob "a" ∷ []))
    ≡ Ok (define_globals ((codes "a", global (codes "g")) ∷ (codes "a", global (codes "a")) ∷ []))
unfolding head_of
later_mention = refl

-- (defglobal ?*a* = ?x), (defglobal ?*a* = (printout)): no variable is known in a construct, and an effect is refused first
variable_in_construct : asked (form "defglobal" (glob "a" ∷ word "=" ∷ var "x" ∷ [])) ≡ Err UnboundVariable
unfolding head_of
variable_in_construct = refl

effect_in_construct : asked (form "defglobal" (glob "a" ∷ word "=" ∷ form "printout" [] ∷ [])) ≡ Err NotInProfile
unfolding head_of
effect_in_construct = refl

-- (deffacts d "comment" (a ?*g*)), (deffacts d (a ?x)), (deffacts d a), (deffacts 3)
facts_are_kept : asked (form "deffacts" (word "d" ∷ text "comment" ∷ form "a" (glob "g" ∷ []) ∷ []))
    ≡ Ok (define_deffacts (codes "d") (record { shape = record { relation = codes "a"; slots = None }; values = terms (global (codes "g") ∷ []) } ∷ []))
unfolding head_of is_reserved
facts_are_kept = refl

variable_in_fact : asked (form "deffacts" (word "d" ∷ form "a" (var "x" ∷ []) ∷ [])) ≡ Err UnboundVariable
unfolding head_of is_reserved
variable_in_fact = refl

no_fact : asked (form "deffacts" (word "d" ∷ word "a" ∷ [])) ≡ Err FactDoesNotFit
unfolding head_of is_reserved
no_fact = refl

no_name : asked (form "deffacts" (number 3 ∷ [])) ≡ Err MalformedForm
unfolding head_of
no_name = refl

-- ?x, ?y, (bind ?y ?y): at the top level a variable is known that has a value or that the form binds
known_variable : asked (var "x") ≡ Ok (act (variable (codes "x")))
known_variable = refl

unknown_variable : asked (var "y") ≡ Err UnboundVariable
unknown_variable = refl

bound_variable : asked (form "bind" (var "y" ∷ var "y" ∷ [])) ≡ Ok (act (effect (kind.Bind (codes "y")) (terms (variable (codes "y") ∷ []))))
unfolding head_of
bound_variable = refl

-- (reset), (facts 1), (if TRUE then (reset)): a command takes no arguments, and stands at the top level alone
command_alone : asked (form "reset" []) ≡ Ok reset
unfolding head_of
command_alone = refl

command_with_argument : asked (form "facts" (number 1 ∷ [])) ≡ Err WrongArguments
unfolding head_of
command_with_argument = refl

command_inside : asked (form "if" (word "TRUE" ∷ word "then" ∷ form "reset" [] ∷ [])) ≡ Err NotInProfile
unfolding head_of
command_inside = refl

-- (run), (exit 3), (run ?y 1): no expression or one, and their number comes first
run_all : asked (form "run" []) ≡ Ok (run None)
unfolding head_of
run_all = refl

exit_with_status : asked (form "exit" (number 3 ∷ [])) ≡ Ok (exit (Some (int 3)))
unfolding head_of
exit_with_status = refl

two_counts : asked (form "run" (var "y" ∷ number 1 ∷ [])) ≡ Err WrongArguments
unfolding head_of
two_counts = refl

-- (run ?y), (run ?), (run (bind ?y ?y)): the expression stands at the top level, where the whole form binds variables
unknown_count : asked (form "run" (var "y" ∷ [])) ≡ Err UnboundVariable
unfolding head_of
unknown_count = refl

wildcard_count : asked (form "run" (atom token.Any ∷ [])) ≡ Err MalformedForm
unfolding head_of
wildcard_count = refl

bound_count : asked (form "run" (form "bind" (var "y" ∷ var "y" ∷ []) ∷ [])) ≡ Ok (run (Some (effect (kind.Bind (codes "y")) (terms (variable (codes "y") ∷ [])))))
unfolding head_of
bound_count = refl

-- (undefrule r), (undefrule *), (undefrule 3), (undefrule): the name of any rule, or all rules
one_rule : asked (form "undefrule" (word "r" ∷ [])) ≡ Ok (undefine (Some (codes "r")))
unfolding head_of
one_rule = refl

all_rules : asked (form "undefrule" (word "*" ∷ [])) ≡ Ok (undefine None)
unfolding head_of
all_rules = refl

no_rule_name : asked (form "undefrule" (number 3 ∷ [])) ≡ Err WrongArguments
unfolding head_of
no_rule_name = refl

rule_name_missing : asked (form "undefrule" []) ≡ Err WrongArguments
unfolding head_of
rule_name_missing = refl

-- (watch rules), (unwatch all), (watch globals), (watch "facts"), (watch facts bogus): one symbol, of those that are known
watched : asked (form "watch" (word "rules" ∷ [])) ≡ Ok (watch item.Rules true)
unfolding head_of
watched = refl

unwatched : asked (form "unwatch" (word "all" ∷ [])) ≡ Ok (watch item.All false)
unfolding head_of
unwatched = refl

unknown_item : asked (form "watch" (word "globals" ∷ [])) ≡ Err NotInProfile
unfolding head_of
unknown_item = refl

item_in_quotes : asked (form "watch" (text "facts" ∷ [])) ≡ Err WrongArguments
unfolding head_of
item_in_quotes = refl

two_items : asked (form "watch" (word "facts" ∷ word "bogus" ∷ [])) ≡ Err WrongArguments
unfolding head_of
two_items = refl

-- (set-strategy breadth), (set-strategy lex), (set-strategy 3)
strategy_taken : asked (form "set-strategy" (word "breadth" ∷ [])) ≡ Ok (set_strategy strategy.Breadth)
unfolding head_of
strategy_taken = refl

unknown_strategy : asked (form "set-strategy" (word "lex" ∷ [])) ≡ Err NotInProfile
unfolding head_of
unknown_strategy = refl

no_strategy : asked (form "set-strategy" (number 3 ∷ [])) ≡ Err WrongArguments
unfolding head_of
no_strategy = refl

-- (defrule r (a)): without `=>`
no_arrow : asked (form "defrule" (word "r" ∷ form "a" [] ∷ [])) ≡ Err MalformedForm
unfolding head_of rule_in
no_arrow = refl

-- (), (1 2), ?: a list without a word, and what is no expression
empty_list : asked (branch (trees_of [])) ≡ Err MalformedForm
empty_list = refl

no_word : asked (branch (trees_of (number 1 ∷ number 2 ∷ []))) ≡ Err MalformedForm
no_word = refl

wildcard : asked (atom token.Any) ≡ Err MalformedForm
wildcard = refl

-- a bad item has its own fault
bad_item : request_of [] bindings (λ _. false) (Err UnmatchedParenthesis) ≡ Err UnmatchedParenthesis
bad_item = refl

-- what a form asks for where every relation is in use
abbrev asked_in_use : Tree → Result Request Fault
asked_in_use t = request_of [] bindings (λ _. true) (Ok t)

-- (deftemplate and x), (deftemplate p x): of a relation in use the name comes first, and the slots come last
reserved_first : asked_in_use (form "deftemplate" (word "and" ∷ word "x" ∷ [])) ≡ Err MalformedForm
unfolding head_of is_reserved
reserved_first = refl

used_before_slots : asked_in_use (form "deftemplate" (word "p" ∷ word "x" ∷ [])) ≡ Err TemplateInUse
unfolding head_of is_reserved
used_before_slots = refl

-- (deftemplate p x), (deftemplate p "a comment" (slot a))
no_slot : asked (form "deftemplate" (word "p" ∷ word "x" ∷ [])) ≡ Err MalformedForm
unfolding head_of is_reserved
no_slot = refl

template_read : asked (form "deftemplate" (word "p" ∷ text "a comment" ∷ form "slot" (word "a" ∷ []) ∷ []))
    ≡ Ok (define_template (codes "p", record { name = codes "a"; is_multi = false; types = None; default = Some (value.Symbol (codes "nil")) } ∷ []))
unfolding head_of is_reserved
template_read = refl
