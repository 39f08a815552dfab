-- Patterns, and the ways in which they fit facts.
use Rattle.std.proofs.Common.{◌≡◌, ℕ, pos, List, [], ◌∷◌, None, Some, codes, true, false, refl}
use Rattle.cb_constraints.specs.Constraints.{Check, Constraint, Test, constant, variable, predicate, nothing, each, either}
use Rattle.cb_constraints.specs.PatternValues.{PatternValue, fields, slots}
use Rattle.cb_exprs.specs.Bindings.{Bindings, no_bindings, with_variable}
use Rattle.cb_exprs.specs.Terms as expr
use Rattle.cb_facts.specs.Facts.{FactValue, ordered_fact, template_fact}
use Rattle.cb_facts.specs.declared.single.Single.{Single}
use Rattle.cb_facts.specs.declared.single.Single.TheVariants as single
use Rattle.cb_facts.specs.declared.value.Value.TheVariants as value
use Rattle.cb_fit.specs.Ways.{WayValue, ways}

abbrev x : List ℕ
x = codes "x"

abbrev y : List ℕ
y = codes "y"

abbrev is : Test → Check
is t = record { negated = false; test = t }

abbrev differs : Test → Check
differs t = record { negated = true; test = t }

abbrev word : List ℕ → Test
word bytes = constant (value.Symbol bytes)

abbrev red : Test
red = word (codes "red")

-- a constraint for one field, and one for a segment
abbrev one : List Check → Constraint
one cs = record { segment = false; demand = each cs }

abbrev some : List Check → Constraint
some cs = record { segment = true; demand = each cs }

abbrev any : Constraint
any = record { segment = true; demand = nothing }

abbrev of : List Constraint → PatternValue
of row = record { relation = codes "p"; parts = fields row }

abbrev symbol : List ℕ → Single
symbol bytes = single.Symbol bytes

abbrev fact : List Single → FactValue
fact fs = ordered_fact (codes "p") fs

abbrev all_ways : List Constraint → List Single → List WayValue
all_ways row fs = ways (of row) (fact fs) no_bindings

-- (p $?x x $?y) and (p x x): two ways, the shorter first segment first
two_ways : all_ways (some (is (variable x) ∷ []) ∷ one (is (word x) ∷ []) ∷ some (is (variable y) ∷ []) ∷ []) (symbol x ∷ symbol x ∷ [])
    ≡ record { cuts = 0 ∷ 1 ∷ 1 ∷ []; bound = (x, value.Multi []) ∷ (y, value.Multi (symbol x ∷ [])) ∷ [] }
    ∷ record { cuts = 1 ∷ 1 ∷ 0 ∷ []; bound = (x, value.Multi (symbol x ∷ [])) ∷ (y, value.Multi []) ∷ [] } ∷ []
two_ways = refl

-- (p $? ?x $?) and (p 1 2)
each_place : all_ways (any ∷ one (is (variable x) ∷ []) ∷ any ∷ []) (single.Int (pos 1) ∷ single.Int (pos 2) ∷ [])
    ≡ record { cuts = 0 ∷ 1 ∷ 1 ∷ []; bound = (x, value.Int (pos 1)) ∷ [] } ∷ record { cuts = 1 ∷ 1 ∷ 0 ∷ []; bound = (x, value.Int (pos 2)) ∷ [] } ∷ []
each_place = refl

-- (p ?x&~red ?x), (p blue blue), (p red red) and (p blue red)
abbrev twice : List Constraint
twice = one (is (variable x) ∷ differs red ∷ []) ∷ one (is (variable x) ∷ []) ∷ []

twice_the_same : all_ways twice (symbol (codes "blue") ∷ symbol (codes "blue") ∷ []) ≡ record { cuts = 1 ∷ 1 ∷ []; bound = (x, value.Symbol (codes "blue")) ∷ [] } ∷ []
twice_the_same = refl

not_red : all_ways twice (symbol (codes "red") ∷ symbol (codes "red") ∷ []) ≡ []
not_red = refl

not_the_same : all_ways twice (symbol (codes "blue") ∷ symbol (codes "red") ∷ []) ≡ []
not_the_same = refl

-- (p ?x&red|y) and (p y); (p ?x&red|y) and (p x)
abbrev apart : List Constraint
apart = record { segment = false; demand = either (Some x) ((is red ∷ []) ∷ (is (word y) ∷ []) ∷ []) } ∷ []

one_alternative : all_ways apart (symbol y ∷ []) ≡ record { cuts = 1 ∷ []; bound = (x, value.Symbol y) ∷ [] } ∷ []
one_alternative = refl

no_alternative : all_ways apart (symbol x ∷ []) ≡ []
no_alternative = refl

-- (p red|?y) and (p blue), (p ~?y) and (p blue), where ?y has no value: a test for it holds and gives none, and with `~` it doesn't
abbrev or_y : List Constraint
or_y = record { segment = false; demand = either None ((is red ∷ []) ∷ (is (variable y) ∷ []) ∷ []) } ∷ []

without_a_value : all_ways or_y (symbol (codes "blue") ∷ []) ≡ record { cuts = 1 ∷ []; bound = [] } ∷ []
without_a_value = refl

differs_without_a_value : all_ways (one (differs (variable y) ∷ []) ∷ []) (symbol (codes "blue") ∷ []) ≡ []
differs_without_a_value = refl

-- (p $?x ?x) and (p red red): a multifield is never its one field
not_its_field : all_ways (some (is (variable x) ∷ []) ∷ one (is (variable x) ∷ []) ∷ []) (symbol (codes "red") ∷ symbol (codes "red") ∷ []) ≡ []
not_its_field = refl

-- an expression that faults, here for a variable without a value, doesn't hold, and with `~` it does
abbrev faults : Test
faults = predicate (expr.variable y)

opposite_of_a_fault : all_ways (one (differs faults ∷ []) ∷ []) (single.Int (pos 5) ∷ []) ≡ record { cuts = 1 ∷ []; bound = [] } ∷ []
opposite_of_a_fault = refl

fault : all_ways (one (is faults ∷ []) ∷ []) (single.Int (pos 5) ∷ []) ≡ []
fault = refl

-- a pattern of two slots, the second slot first
of_slots :
    ways (record { relation = codes "t"; parts = slots (record { name = y; place = 1; row = any ∷ one (is (variable x) ∷ []) ∷ [] } ∷ record { name = x; place = 0; row = one (is (variable y) ∷ []) ∷ [] } ∷ []) })
    (template_fact (codes "t") ((x, value.Int (pos 7)) ∷ (y, value.Multi (symbol x ∷ symbol y ∷ [])) ∷ [])) no_bindings
    ≡ record { cuts = 1 ∷ 1 ∷ 1 ∷ []; bound = (x, value.Symbol y) ∷ (y, value.Int (pos 7)) ∷ [] } ∷ []
of_slots = refl

other_relation : ways (of []) (ordered_fact (codes "q") []) no_bindings ≡ []
other_relation = refl

-- (p ?x ?y), where ?x has the value red from an earlier pattern: it decides, and is no variable that takes a value now
abbrev red_before : Bindings
red_before = with_variable x (value.Symbol (codes "red")) no_bindings

abbrev after_another : List Single → List WayValue
after_another fs = ways (of (one (is (variable x) ∷ []) ∷ one (is (variable y) ∷ []) ∷ [])) (fact fs) red_before

as_before : after_another (symbol (codes "red") ∷ symbol (codes "blue") ∷ []) ≡ record { cuts = 1 ∷ 1 ∷ []; bound = (y, value.Symbol (codes "blue")) ∷ [] } ∷ []
as_before = refl

not_as_before : after_another (symbol (codes "blue") ∷ symbol (codes "blue") ∷ []) ≡ []
not_as_before = refl
