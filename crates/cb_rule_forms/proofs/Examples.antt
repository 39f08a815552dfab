-- Rules as they are written, and which rule each is or what is wrong with it.
use Prim.Native.String.{String}
use Rattle.std.proofs.Common.{◌≡◌, ◌++◌, ℕ, ℤ, pos, Bool, List, [], ◌∷◌, Option, Some, None, Result, Ok, map, codes, true, false, refl}
use Rattle.cb_constraints.specs.Constraints.{variable, each}
use Rattle.cb_constraints.specs.PatternValues.{PatternValue, fields}
use Rattle.cb_eval.specs.Internal.Operations.{operator_of}
use Rattle.cb_facts.specs.FaultLists.{first_of, unless_faulty}
use Rattle.cb_exprs.specs.Bindings.{Bindings}
use Rattle.cb_exprs.specs.Terms.{Term, terms}
use Rattle.cb_exprs.specs.declared.effect.Effect.TheVariants as kind
use Rattle.cb_exprs.specs.Terms as expr
use Rattle.cb_facts.specs.declared.value.Value.TheVariants as value
use Rattle.cb_forms.specs.Trees.{Tree, atom, branch, trees_of}
use Rattle.cb_forms.specs.declared.fault.Fault.{Fault}
use Rattle.cb_forms.specs.declared.fault.Fault.TheVariants.{WrongArguments, MalformedForm, UnknownFunction, FactDoesNotFit, UnboundVariable, UnknownGlobal, NotOnLeftSide, NotInProfile, TooManyBranches, BadSalience}
use Rattle.cb_forms.specs.declared.token.Token.TheVariants as token
use Rattle.cb_rule_forms.specs.Relations.{patterns_relations}
use Rattle.cb_rule_forms.specs.Rules.{rule_faults, rule_of}
use Rattle.cb_rules.specs.Elements.{pattern, test, group, Elements, elements, no_elements}
use Rattle.cb_rules.specs.RuleValues.{RuleValue}
use Rattle.cb_words.specs.Reserved.{is_reserved}
use Rattle.cb_words.specs.Words.{head_of}
use Rattle.cb_words.specs.declared.words.Function.TheVariants as function

-- at the top level the variable `?t` has a value, and the global `?*g*` is 2
abbrev env : Bindings
env = record { variables = (codes "t", value.Int (pos 1)) ∷ []; globals = (codes "g", value.Int (pos 2)) ∷ [] }

-- the rule that forms are, or their first fault
abbrev read : List Tree → Result RuleValue Fault
read ts = unless_faulty (rule_faults [] env (trees_of ts)) (rule_of [] env (trees_of ts))

abbrev fault : List Tree → Option Fault
fault ts = first_of (rule_faults [] env (trees_of ts))

-- atoms and lists, as they stand in a script
abbrev word : String → Tree
word s = atom (token.Symbol (codes s))

abbrev text : String → Tree
text s = atom (token.Str (codes s))

abbrev number : ℤ → Tree
number n = atom (token.Int n)

abbrev var : String → Tree
var name = atom (token.Var (codes name))

abbrev glob : String → Tree
glob name = atom (token.Global (codes name))

abbrev tilde : Tree
tilde = atom token.Not

abbrev and : Tree
and = atom token.And

abbrev or : Tree
or = atom token.Or

abbrev list : List Tree → Tree
list ts = branch (trees_of ts)

abbrev form : String → List Tree → Tree
form name ts = list (word name ∷ ts)

-- `(declare (salience expression))`
abbrev salience : Tree → Tree
salience t = form "declare" (form "salience" (t ∷ []) ∷ [])

-- the first fault of the rule `r` with this left side and these actions
abbrev fault_in : List Tree → List Tree → Option Fault
fault_in left actions = fault (word "r" ∷ (left ++ word "=>" ∷ actions))

-- the relations that it names, and the branches and the layouts of one with no actions
abbrev relations_in : List Tree → List Tree → Result (List (List ℕ)) Fault
relations_in left actions =
    let ts = trees_of (word "r" ∷ (left ++ word "=>" ∷ actions)) in unless_faulty (rule_faults [] env ts) ((rule_of [] env ts).relations)

abbrev branches_in : List Tree → Result (List Elements) Fault
branches_in left = let ts = trees_of (word "r" ∷ (left ++ word "=>" ∷ [])) in unless_faulty (rule_faults [] env ts) ((rule_of [] env ts).branches)

abbrev layouts_in : List Tree → Result (List (List Bool)) Fault
layouts_in left = let ts = trees_of (word "r" ∷ (left ++ word "=>" ∷ [])) in unless_faulty (rule_faults [] env ts) ((rule_of [] env ts).layouts)

-- the same with no actions, with this declaration alone, and with this salience alone
abbrev on_left : List Tree → Option Fault
on_left left = fault_in left []

abbrev declaring : List Tree → Option Fault
declaring ts = on_left (form "declare" ts ∷ [])

abbrev of_salience : Tree → Option Fault
of_salience t = on_left (salience t ∷ [])

-- the pattern of the relation with one field, the variable `?x`, which may come after `~`
abbrev of_one : String → Bool → PatternValue
of_one relation negated = record {
  relation = codes relation;
  parts = fields (record { segment = false; demand = each (record { negated = negated; test = variable (codes "x") } ∷ []) } ∷ []);
}

-- r "c" (declare (salience (* ?*g* 5))) ?f <- (a ?x) (b ~?x) => (retract ?f) (println ?x)
whole_rule : read (word "r" ∷ text "c" ∷ salience (form "*" (glob "g" ∷ number (pos 5) ∷ [])) ∷ var "f" ∷ word "<-" ∷ form "a" (var "x" ∷ []) ∷ form "b" (tilde ∷ var "x" ∷ []) ∷ word "=>" ∷ form "retract" (var "f" ∷ []) ∷ form "println" (var "x" ∷ []) ∷ [])
    ≡ Ok (record {
      name = codes "r";
      salience = pos 10;
      branches = elements (pattern (Some (codes "f")) (of_one "a" false) ∷ pattern None (of_one "b" true) ∷ []) ∷ [];
      layouts = (true ∷ true ∷ []) ∷ [];
      actions = expr.effect kind.Retract (terms (expr.variable (codes "f") ∷ [])) ∷ expr.effect kind.Println (terms (expr.variable (codes "x") ∷ [])) ∷ [];
      relations = codes "a" ∷ codes "b" ∷ [];
    })
unfolding head_of is_reserved operator_of
whole_rule = refl

-- r => a => b: the first `=>` divides, and the second is an action
divided_once : read (word "r" ∷ word "=>" ∷ word "a" ∷ word "=>" ∷ word "b" ∷ [])
    ≡ Ok (record {
      name = codes "r";
      salience = pos 0;
      branches = no_elements ∷ [];
      layouts = [] ∷ [];
      actions = map (λ bytes. expr.constant (value.Symbol bytes)) (codes "a" ∷ codes "=>" ∷ codes "b" ∷ []);
      relations = [];
    })
divided_once = refl

-- (a ?x) (a 1) => (assert (c)) (if TRUE then (assert (b))): each relation once, as it is first named
relations_once : relations_in (form "a" (var "x" ∷ []) ∷ form "a" (number (pos 1) ∷ []) ∷ []) (form "assert" (form "c" [] ∷ []) ∷ form "if" (word "TRUE" ∷ word "then" ∷ form "assert" (form "b" [] ∷ []) ∷ []) ∷ [])
    ≡ Ok (codes "a" ∷ codes "c" ∷ codes "b" ∷ [])
unfolding head_of is_reserved
relations_once = refl

-- => (println (assert (b 1))) (assert (b 2) (a)) (bind ?y (assert (c))) (while TRUE do (assert (a)) (assert (d))): at any depth
relations_deep : relations_in [] (form "println" (form "assert" (form "b" (number (pos 1) ∷ []) ∷ []) ∷ []) ∷ form "assert" (form "b" (number (pos 2) ∷ []) ∷ form "a" [] ∷ []) ∷ form "bind" (var "y" ∷ form "assert" (form "c" [] ∷ []) ∷ []) ∷ form "while" (word "TRUE" ∷ word "do" ∷ form "assert" (form "a" [] ∷ []) ∷ form "assert" (form "d" [] ∷ []) ∷ []) ∷ [])
    ≡ Ok (codes "b" ∷ codes "a" ∷ codes "c" ∷ codes "d" ∷ [])
unfolding head_of is_reserved
relations_deep = refl

-- (a ?x) ?f <- (a 1) (test TRUE) =>: two patterns
layout_of_patterns : layouts_in (form "a" (var "x" ∷ []) ∷ var "f" ∷ word "<-" ∷ form "a" (number (pos 1) ∷ []) ∷ form "test" (word "TRUE" ∷ []) ∷ []) ≡ Ok ((true ∷ true ∷ []) ∷ [])
unfolding is_reserved
layout_of_patterns = refl

-- (a ?x) (test (> ?x 1)) =>
branch_with_a_test : branches_in (form "a" (var "x" ∷ []) ∷ form "test" (form ">" (var "x" ∷ number (pos 1) ∷ []) ∷ []) ∷ [])
    ≡ Ok (elements (pattern None (of_one "a" false) ∷ test (expr.call function.Greater (terms (expr.variable (codes "x") ∷ expr.constant (value.Int (pos 1)) ∷ []))) ∷ []) ∷ [])
unfolding head_of is_reserved
branch_with_a_test = refl

-- (test), (test TRUE TRUE), (test (foo) 1), (test (foo)), (test (printout)), (test ?*g*), (test ?), (test ?x)
tests : map (λ ts. on_left (form "test" ts ∷ [])) ([] ∷ (word "TRUE" ∷ word "TRUE" ∷ []) ∷ (form "foo" [] ∷ number (pos 1) ∷ []) ∷ (form "foo" [] ∷ []) ∷ (form "printout" [] ∷ []) ∷ (glob "g" ∷ []) ∷ (atom token.Any ∷ []) ∷ (var "x" ∷ []) ∷ [])
    ≡ Some MalformedForm ∷ Some MalformedForm ∷ Some MalformedForm ∷ Some UnknownFunction ∷ Some NotOnLeftSide ∷ Some NotOnLeftSide ∷ Some MalformedForm ∷ Some UnboundVariable ∷ []
unfolding head_of is_reserved
tests = refl

-- => =>, 5 =>, r (a)
no_rules : map fault ((word "=>" ∷ word "=>" ∷ []) ∷ (number (pos 5) ∷ word "=>" ∷ []) ∷ (word "r" ∷ form "a" [] ∷ []) ∷ [])
    ≡ Some MalformedForm ∷ Some MalformedForm ∷ Some MalformedForm ∷ []
no_rules = refl

-- 10000, 10001, a, (div 1 0), ?t, ?*h*, (+ 1): a salience that can be read, but has no value in range, has a fault of its own
saliences : map of_salience (number (pos 10000) ∷ number (pos 10001) ∷ word "a" ∷ form "div" (number (pos 1) ∷ number (pos 0) ∷ []) ∷ var "t" ∷ glob "h" ∷ form "+" (number (pos 1) ∷ []) ∷ [])
    ≡ None ∷ Some BadSalience ∷ Some BadSalience ∷ Some BadSalience ∷ Some UnboundVariable ∷ Some UnknownGlobal ∷ Some WrongArguments ∷ []
unfolding head_of operator_of
saliences = refl

-- (declare (salience) (auto-focus TRUE)), (declare (salience 1) (salience 2)), (declare salience 1), (declare)
declarations : map declaring ((form "salience" [] ∷ form "auto-focus" (word "TRUE" ∷ []) ∷ []) ∷ (form "salience" (number (pos 1) ∷ []) ∷ form "salience" (number (pos 2) ∷ []) ∷ []) ∷ (word "salience" ∷ number (pos 1) ∷ []) ∷ [] ∷ [])
    ≡ Some NotInProfile ∷ Some MalformedForm ∷ Some MalformedForm ∷ Some MalformedForm ∷ []
declarations = refl

-- (a) (declare (salience 1)), (declare (salience 1)) (declare (salience 1)), (declare (salience 1)) "c", "c" "d"
misplaced : map on_left ((form "a" [] ∷ salience (number (pos 1)) ∷ []) ∷ (salience (number (pos 1)) ∷ salience (number (pos 1)) ∷ []) ∷ (salience (number (pos 1)) ∷ text "c" ∷ []) ∷ (text "c" ∷ text "d" ∷ []) ∷ [])
    ≡ Some MalformedForm ∷ Some MalformedForm ∷ Some MalformedForm ∷ Some MalformedForm ∷ []
unfolding is_reserved
misplaced = refl

-- ?f <-, ?f <- x, ?f <- (), ?f <- (5), ?f <- (test TRUE), ?f <- ?g <- (a)
addresses : map (λ ts. on_left (var "f" ∷ word "<-" ∷ ts)) ([] ∷ (word "x" ∷ []) ∷ (list [] ∷ []) ∷ (list (number (pos 5) ∷ []) ∷ []) ∷ (form "test" (word "TRUE" ∷ []) ∷ []) ∷ (var "g" ∷ word "<-" ∷ form "a" [] ∷ []) ∷ [])
    ≡ Some NotInProfile ∷ Some NotInProfile ∷ Some NotInProfile ∷ Some NotInProfile ∷ Some NotInProfile ∷ Some NotInProfile ∷ []
unfolding is_reserved
addresses = refl

-- $?f <- (a), ? <- (a), ?*f*, ?f (a), (a) x
not_elements : map on_left ((atom (token.MultiVar (codes "f")) ∷ word "<-" ∷ form "a" [] ∷ []) ∷ (atom token.Any ∷ word "<-" ∷ form "a" [] ∷ []) ∷ (glob "f" ∷ []) ∷ (var "f" ∷ form "a" [] ∷ []) ∷ (form "a" [] ∷ word "x" ∷ []) ∷ [])
    ≡ Some MalformedForm ∷ Some MalformedForm ∷ Some MalformedForm ∷ Some MalformedForm ∷ Some MalformedForm ∷ []
unfolding is_reserved
not_elements = refl

-- (declare (salience a)) (b (x)), (a ~?x) (b (x)), (a ~?x) (b ?*g*): the declaration first, then all elements, then variables
order : map on_left ((salience (word "a") ∷ form "b" (form "x" [] ∷ []) ∷ []) ∷ (form "a" (tilde ∷ var "x" ∷ []) ∷ form "b" (form "x" [] ∷ []) ∷ []) ∷ (form "a" (tilde ∷ var "x" ∷ []) ∷ form "b" (glob "g" ∷ []) ∷ []) ∷ [])
    ≡ Some BadSalience ∷ Some FactDoesNotFit ∷ Some NotOnLeftSide ∷ []
unfolding is_reserved
order = refl

-- ?x <- (a ?x) ?x <- (b), (a ?f) ?f <- (b ~?y), (a ~?y) ?f <- (a) ?f <- (b): the variables from left to right
variables : map on_left ((var "x" ∷ word "<-" ∷ form "a" (var "x" ∷ []) ∷ var "x" ∷ word "<-" ∷ form "b" [] ∷ []) ∷ (form "a" (var "f" ∷ []) ∷ var "f" ∷ word "<-" ∷ form "b" (tilde ∷ var "y" ∷ []) ∷ []) ∷ (form "a" (tilde ∷ var "y" ∷ []) ∷ var "f" ∷ word "<-" ∷ form "a" [] ∷ var "f" ∷ word "<-" ∷ form "b" [] ∷ []) ∷ [])
    ≡ Some MalformedForm ∷ Some MalformedForm ∷ Some UnboundVariable ∷ []
unfolding is_reserved
variables = refl

-- (a ?x&?y&p|q), (a p&?y|q), (a ?x&p|?x), (a p&?y): beside `|` a variable needs its value, unless it is set apart
alternatives : map (λ ts. on_left (form "a" ts ∷ [])) ((var "x" ∷ and ∷ var "y" ∷ and ∷ word "p" ∷ or ∷ word "q" ∷ []) ∷ (word "p" ∷ and ∷ var "y" ∷ or ∷ word "q" ∷ []) ∷ (var "x" ∷ and ∷ word "p" ∷ or ∷ var "x" ∷ []) ∷ (word "p" ∷ and ∷ var "y" ∷ []) ∷ [])
    ≡ Some UnboundVariable ∷ Some UnboundVariable ∷ None ∷ None ∷ []
unfolding is_reserved
alternatives = refl

-- (println ?x), (println ?y), (println ?t), (println ?y) (bind ?y 1), after (a ?x): no variable of the top level is known there
actions : map (fault_in (form "a" (var "x" ∷ []) ∷ [])) ((form "println" (var "x" ∷ []) ∷ []) ∷ (form "println" (var "y" ∷ []) ∷ []) ∷ (form "println" (var "t" ∷ []) ∷ []) ∷ (form "println" (var "y" ∷ []) ∷ form "bind" (var "y" ∷ number (pos 1) ∷ []) ∷ []) ∷ [])
    ≡ None ∷ Some UnboundVariable ∷ Some UnboundVariable ∷ None ∷ []
unfolding head_of is_reserved
actions = refl

-- (a ~?x) => (foo): the variables of the left side come before the actions
actions_last : fault_in (form "a" (tilde ∷ var "x" ∷ []) ∷ []) (form "foo" [] ∷ []) ≡ Some UnboundVariable
unfolding head_of is_reserved
actions_last = refl

-- two elements of no fields, by relation
abbrev bare : String → Tree
bare relation = form relation []

-- the relations of each branch's patterns, in order
abbrev ways_of : List Tree → Result (List (List (List ℕ))) Fault
ways_of left = let ts = trees_of (word "r" ∷ (left ++ word "=>" ∷ [])) in unless_faulty (rule_faults [] env ts) (map patterns_relations (rule_of [] env ts).branches)

-- (or (and (or (a) (b)) (or (c) (d))) (e)): the leftmost `or` changes slowest
nested_branches : ways_of (form "or" (form "and" (form "or" (bare "a" ∷ bare "b" ∷ []) ∷ form "or" (bare "c" ∷ bare "d" ∷ []) ∷ []) ∷ bare "e" ∷ []) ∷ [])
    ≡ Ok ((codes "a" ∷ codes "c" ∷ []) ∷ (codes "a" ∷ codes "d" ∷ []) ∷ (codes "b" ∷ codes "c" ∷ []) ∷ (codes "b" ∷ codes "d" ∷ []) ∷ (codes "e" ∷ []) ∷ [])
unfolding is_reserved
nested_branches = refl

-- (and (a) (and (b) (c))) (d), (or (or (a) (b)) (c)), and no element
spliced_branches : map ways_of ((form "and" (bare "a" ∷ form "and" (bare "b" ∷ bare "c" ∷ []) ∷ []) ∷ bare "d" ∷ []) ∷ (form "or" (form "or" (bare "a" ∷ bare "b" ∷ []) ∷ bare "c" ∷ []) ∷ []) ∷ [] ∷ [])
    ≡ Ok ((codes "a" ∷ codes "b" ∷ codes "c" ∷ codes "d" ∷ []) ∷ []) ∷ Ok ((codes "a" ∷ []) ∷ (codes "b" ∷ []) ∷ (codes "c" ∷ []) ∷ []) ∷ Ok ([] ∷ []) ∷ []
unfolding is_reserved
spliced_branches = refl

abbrev two_ways : Tree
two_ways = form "or" (bare "a" ∷ bare "b" ∷ [])

-- six times (or (a) (b)), and seven times, before (c ~?x): 64 branches may be, and too many come before the variables
many_branches : map (λ ts. on_left (ts ++ form "c" (tilde ∷ var "x" ∷ []) ∷ [])) ((two_ways ∷ two_ways ∷ two_ways ∷ two_ways ∷ two_ways ∷ two_ways ∷ []) ∷ (two_ways ∷ two_ways ∷ two_ways ∷ two_ways ∷ two_ways ∷ two_ways ∷ two_ways ∷ []) ∷ [])
    ≡ Some UnboundVariable ∷ Some TooManyBranches ∷ []
unfolding is_reserved
many_branches = refl

-- (and (logical (a)) 5), (or (p ~~x) 5), (and), (or), (and ?f <- x), (or (declare)): the list before its members, these from left to right
faults_of_members : map (λ t. on_left (t ∷ [])) (form "and" (form "logical" (bare "a" ∷ []) ∷ number (pos 5) ∷ []) ∷ form "or" (form "p" (tilde ∷ tilde ∷ word "x" ∷ []) ∷ number (pos 5) ∷ []) ∷ form "and" [] ∷ form "or" [] ∷ form "and" (var "f" ∷ word "<-" ∷ word "x" ∷ []) ∷ form "or" (bare "declare" ∷ []) ∷ [])
    ≡ Some NotInProfile ∷ Some MalformedForm ∷ Some MalformedForm ∷ Some MalformedForm ∷ Some NotInProfile ∷ Some MalformedForm ∷ []
unfolding is_reserved
faults_of_members = refl

-- (or (a ?x) (b)) (c ~?x), and (or (k ?x) (m)) and (or (k ?x) (m ?x)) with (println ?x): what each branch binds is known
by_each_branch : on_left (form "or" (form "a" (var "x" ∷ []) ∷ bare "b" ∷ []) ∷ form "c" (tilde ∷ var "x" ∷ []) ∷ [])
    ∷ map (λ t. fault_in (form "or" (form "k" (var "x" ∷ []) ∷ t ∷ []) ∷ []) (form "println" (var "x" ∷ []) ∷ [])) (bare "m" ∷ form "m" (var "x" ∷ []) ∷ [])
    ≡ Some UnboundVariable ∷ Some UnboundVariable ∷ None ∷ []
unfolding head_of is_reserved
by_each_branch = refl

-- (a ?x) (exists (b ?x) (test TRUE)) (not (and (c) (a)))
abbrev with_groups : List Tree
with_groups =
    form "a" (var "x" ∷ []) ∷ form "exists" (form "b" (var "x" ∷ []) ∷ form "test" (word "TRUE" ∷ []) ∷ []) ∷ form "not" (form "and" (bare "c" ∷ bare "a" ∷ []) ∷ []) ∷ []

-- the pattern of the relation without a field
abbrev of_none : String → PatternValue
of_none relation = record { relation = codes relation; parts = fields [] }

-- a group has the elements that stand in it, those of an `and` one by one
groups_in_a_branch : branches_in with_groups
    ≡ Ok (elements (pattern None (of_one "a" false) ∷ group true (elements (pattern None (of_one "b" false) ∷ test (expr.constant (value.Symbol (codes "TRUE"))) ∷ [])) ∷ group false (elements (pattern None (of_none "c") ∷ pattern None (of_none "a") ∷ [])) ∷ []) ∷ [])
unfolding is_reserved
groups_in_a_branch = refl

-- its layout tells the pattern from the groups, and the relations of the groups are named
layout_of_groups : layouts_in with_groups ≡ Ok ((true ∷ false ∷ false ∷ []) ∷ [])
unfolding is_reserved
layout_of_groups = refl

relations_of_groups : relations_in with_groups [] ≡ Ok (codes "a" ∷ codes "b" ∷ codes "c" ∷ [])
unfolding is_reserved
relations_of_groups = refl

-- (not), (not (a) (b)), (not ?f <- (a) (b)), (not (logical (a)) (b)), (not (and)), (exists), (exists 5), (exists (declare)): the number of members comes first
groups_wrong : map (λ t. on_left (t ∷ [])) (form "not" [] ∷ form "not" (bare "a" ∷ bare "b" ∷ []) ∷ form "not" (var "f" ∷ word "<-" ∷ bare "a" ∷ bare "b" ∷ []) ∷ form "not" (form "logical" (bare "a" ∷ []) ∷ bare "b" ∷ []) ∷ form "not" (form "and" [] ∷ []) ∷ form "exists" [] ∷ form "exists" (number (pos 5) ∷ []) ∷ form "exists" (bare "declare" ∷ []) ∷ [])
    ≡ Some MalformedForm ∷ Some MalformedForm ∷ Some MalformedForm ∷ Some MalformedForm ∷ Some MalformedForm ∷ Some MalformedForm ∷ Some MalformedForm ∷ Some MalformedForm ∷ []
unfolding is_reserved
groups_wrong = refl

-- (forall), (forall (a)), (forall ?f <- (a)), (forall (logical (a))), (exists (not)), (not (not (a) (b))), (not (forall (a))): the same
groups_in_groups_wrong : map (λ t. on_left (t ∷ [])) (form "forall" [] ∷ form "forall" (bare "a" ∷ []) ∷ form "forall" (var "f" ∷ word "<-" ∷ bare "a" ∷ []) ∷ form "forall" (form "logical" (bare "a" ∷ []) ∷ []) ∷ form "exists" (form "not" [] ∷ []) ∷ form "not" (form "not" (bare "a" ∷ bare "b" ∷ []) ∷ []) ∷ form "not" (form "forall" (bare "a" ∷ []) ∷ []) ∷ [])
    ≡ Some MalformedForm ∷ Some MalformedForm ∷ Some MalformedForm ∷ Some MalformedForm ∷ Some MalformedForm ∷ Some MalformedForm ∷ Some MalformedForm ∷ []
unfolding is_reserved
groups_in_groups_wrong = refl

-- (not ?f <- (a)), (not (or)), (not (and (or))), (not (not (or (a)))), (forall ?f <- (a) (b)), (forall (a) (or (b))), (exists (logical (a))), ?f <- (forall (a) (b))
groups_left_out : map on_left ((form "not" (var "f" ∷ word "<-" ∷ bare "a" ∷ []) ∷ []) ∷ (form "not" (form "or" [] ∷ []) ∷ []) ∷ (form "not" (form "and" (form "or" [] ∷ []) ∷ []) ∷ []) ∷ (form "not" (form "not" (form "or" (bare "a" ∷ []) ∷ []) ∷ []) ∷ []) ∷ (form "forall" (var "f" ∷ word "<-" ∷ bare "a" ∷ bare "b" ∷ []) ∷ []) ∷ (form "forall" (bare "a" ∷ form "or" (bare "b" ∷ []) ∷ []) ∷ []) ∷ (form "exists" (form "logical" (bare "a" ∷ []) ∷ []) ∷ []) ∷ (var "f" ∷ word "<-" ∷ form "forall" (bare "a" ∷ bare "b" ∷ []) ∷ []) ∷ [])
    ≡ Some NotInProfile ∷ Some NotInProfile ∷ Some NotInProfile ∷ Some NotInProfile ∷ Some NotInProfile ∷ Some NotInProfile ∷ Some NotInProfile ∷ Some NotInProfile ∷ []
unfolding is_reserved
groups_left_out = refl

-- (exists (c) (not (and (a) (exists (c))))): groups in a group, also within an `and`
groups_in_a_group : branches_in (form "exists" (bare "c" ∷ form "not" (form "and" (bare "a" ∷ form "exists" (bare "c" ∷ []) ∷ []) ∷ []) ∷ []) ∷ [])
    ≡ Ok (elements (group true (elements (pattern None (of_none "c") ∷ group false (elements (pattern None (of_none "a") ∷ group true (elements (pattern None (of_none "c") ∷ [])) ∷ [])) ∷ [])) ∷ []) ∷ [])
unfolding is_reserved
groups_in_a_group = refl

-- (forall (a ?x) (b ?x) (c)) is (not (and (a ?x) (not (and (b ?x) (c))))), which has one place in the layout
abbrev for_all : List Tree
for_all = form "forall" (form "a" (var "x" ∷ []) ∷ form "b" (var "x" ∷ []) ∷ bare "c" ∷ []) ∷ []

forall_is_two_groups : branches_in for_all
    ≡ Ok (elements (group false (elements (pattern None (of_one "a" false) ∷ group false (elements (pattern None (of_one "b" false) ∷ pattern None (of_none "c") ∷ [])) ∷ [])) ∷ []) ∷ [])
unfolding is_reserved
forall_is_two_groups = refl

forall_as_written_out : branches_in for_all
    ≡ branches_in (form "not" (form "and" (form "a" (var "x" ∷ []) ∷ form "not" (form "and" (form "b" (var "x" ∷ []) ∷ bare "c" ∷ []) ∷ []) ∷ []) ∷ []) ∷ [])
unfolding is_reserved
forall_as_written_out = refl

layout_of_forall : layouts_in (bare "d" ∷ for_all) ≡ Ok ((true ∷ false ∷ []) ∷ [])
unfolding is_reserved
layout_of_forall = refl

relations_of_forall : relations_in for_all [] ≡ Ok (codes "a" ∷ codes "b" ∷ codes "c" ∷ [])
unfolding is_reserved
relations_of_forall = refl

-- (forall (a ?x) (b ~?x)), (forall (a ?x) (b)) (c ~?x), (not (and (a) (not (b ?y)) (c ~?y))): each group knows what the groups around it have bound before
variables_of_groups_in_groups : map on_left ((form "forall" (form "a" (var "x" ∷ []) ∷ form "b" (tilde ∷ var "x" ∷ []) ∷ []) ∷ []) ∷ (form "forall" (form "a" (var "x" ∷ []) ∷ bare "b" ∷ []) ∷ form "c" (tilde ∷ var "x" ∷ []) ∷ []) ∷ (form "not" (form "and" (bare "a" ∷ form "not" (form "b" (var "y" ∷ []) ∷ []) ∷ form "c" (tilde ∷ var "y" ∷ []) ∷ []) ∷ []) ∷ []) ∷ [])
    ≡ None ∷ Some UnboundVariable ∷ Some UnboundVariable ∷ []
unfolding is_reserved
variables_of_groups_in_groups = refl

-- (exists (a ?x)) (b ~?x), (exists (a ?x) (b ~?x)), (a ?x) (not (b ~?x)), (not (a ?x)) ?x <- (b): what a group binds is known in it alone
variables_of_groups : map on_left ((form "exists" (form "a" (var "x" ∷ []) ∷ []) ∷ form "b" (tilde ∷ var "x" ∷ []) ∷ []) ∷ (form "exists" (form "a" (var "x" ∷ []) ∷ form "b" (tilde ∷ var "x" ∷ []) ∷ []) ∷ []) ∷ (form "a" (var "x" ∷ []) ∷ form "not" (form "b" (tilde ∷ var "x" ∷ []) ∷ []) ∷ []) ∷ (form "not" (form "a" (var "x" ∷ []) ∷ []) ∷ var "x" ∷ word "<-" ∷ bare "b" ∷ []) ∷ [])
    ≡ Some UnboundVariable ∷ None ∷ None ∷ None ∷ []
unfolding is_reserved
variables_of_groups = refl

-- (exists (k ?x)) => (println ?x)
group_and_actions : fault_in (form "exists" (form "k" (var "x" ∷ []) ∷ []) ∷ []) (form "println" (var "x" ∷ []) ∷ []) ≡ Some UnboundVariable
unfolding head_of is_reserved
group_and_actions = refl

-- (or (not (a)) (and (exists (b)) (c))): a group is one way
branches_with_groups : ways_of (form "or" (form "not" (bare "a" ∷ []) ∷ form "and" (form "exists" (bare "b" ∷ []) ∷ bare "c" ∷ []) ∷ []) ∷ []) ≡ Ok ((codes "a" ∷ []) ∷ (codes "b" ∷ codes "c" ∷ []) ∷ [])
unfolding is_reserved
branches_with_groups = refl
