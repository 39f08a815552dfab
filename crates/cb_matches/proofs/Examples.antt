-- Matches of rules, and what changes do to them.
use Rattle.std.proofs.Common.{◌≡◌, ℕ, pos, List, [], ◌∷◌, None, Some, codes, true, false, refl}
use Rattle.cb_constraints.specs.Constraints.{Check, Constraint, Test, constant, variable, each, either}
use Rattle.cb_constraints.specs.PatternValues.{fields}
use Rattle.cb_rules.specs.Elements.{Element, elements, pattern, test, group}
use Rattle.cb_exprs.specs.Bindings.{no_bindings, with_variable}
use Rattle.cb_exprs.specs.Terms as expr
use Rattle.cb_facts.specs.FactLists.{IndexedFacts}
use Rattle.cb_facts.specs.Facts.{ordered_fact}
use Rattle.cb_facts.specs.declared.single.Single.{Single}
use Rattle.cb_facts.specs.declared.single.Single.TheVariants as single
use Rattle.cb_facts.specs.declared.value.Value.TheVariants as value
use Rattle.cb_matches.specs.Changes.{keys_come, keys_gone}
use Rattle.cb_matches.specs.Keys.{KeyValue, PartValue}
use Rattle.cb_matches.specs.Matches.{matches_of}
use Rattle.cb_matches.specs.Networks.{Network, all_keys, all_matches, with_one, without_one}
use Rattle.cb_words.specs.declared.words.Function.TheVariants as function

abbrev x : List ℕ
x = codes "x"

abbrev is : Test → Check
is t = record { negated = false; test = t }

abbrev word : List ℕ → Test
word bytes = constant (value.Symbol bytes)

abbrev one : List Check → Constraint
one cs = record { segment = false; demand = each cs }

abbrev some : List ℕ → Constraint
some name = record { segment = true; demand = each (is (variable name) ∷ []) }

-- a pattern of an ordered relation
abbrev of : List ℕ → List Constraint → Element
of relation row = pattern None (record { relation = relation; parts = fields row })

abbrev symbol : List ℕ → Single
symbol bytes = single.Symbol bytes

abbrev part : ℕ → List ℕ → PartValue
part ix cuts = record { index = ix; cuts = cuts }

abbrev key : List PartValue → KeyValue
key parts = record { rule = 1; branch = 0; parts = parts }

-- one rule of one branch
abbrev with_facts : List Element → IndexedFacts → Network
with_facts es facts = record { rules = (1, elements es ∷ []) ∷ []; facts = facts }

-- (d $?a x $?b) and (d x x): two matches, the one with the shorter first segment first
two : all_keys (with_facts (of (codes "d") (some (codes "a") ∷ one (is (word x) ∷ []) ∷ some (codes "b") ∷ []) ∷ []) ((1, ordered_fact (codes "d") (symbol x ∷ symbol x ∷ [])) ∷ []))
    ≡ key (part 1 (0 ∷ 1 ∷ 1 ∷ []) ∷ []) ∷ key (part 1 (1 ∷ 1 ∷ 0 ∷ []) ∷ []) ∷ []
two = unfold all_keys all_matches matches_of in refl

-- (not (stop)): its one match goes with the fact (stop), and comes again without it
abbrev stopped : List Element
stopped = group false (elements (of (codes "stop") [] ∷ [])) ∷ []

abbrev stop_there : IndexedFacts
stop_there = (1, ordered_fact (codes "stop") []) ∷ []

not_stopped : all_keys (with_facts stopped []) ≡ key [] ∷ []
not_stopped = unfold all_keys all_matches matches_of in refl

it_goes : keys_gone (with_facts stopped []) (with_one 1 (ordered_fact (codes "stop") []) (with_facts stopped [])) ≡ key [] ∷ []
it_goes = unfold keys_gone all_keys all_matches matches_of in refl

it_comes : keys_come (with_facts stopped stop_there) (without_one 1 (with_facts stopped stop_there)) ≡ key [] ∷ []
it_comes = unfold keys_come all_keys all_matches matches_of in refl

-- (p ?x&red|blue), (p blue) and (p green)
alternatives : all_keys (with_facts (of (codes "p") (record { segment = false; demand = either (Some x) ((is (word (codes "red")) ∷ []) ∷ (is (word (codes "blue")) ∷ []) ∷ []) } ∷ []) ∷ [])
    ((1, ordered_fact (codes "p") (symbol (codes "blue") ∷ [])) ∷ (2, ordered_fact (codes "p") (symbol (codes "green") ∷ [])) ∷ []))
    ≡ key (part 1 (1 ∷ []) ∷ []) ∷ []
alternatives = unfold all_keys all_matches matches_of in refl

-- (not (and (a ?x) (b ?x))): no match with (a 1) and (b 1), and one with (a 1) and (b 2)
abbrev apart : List Element
apart = group false (elements (of (codes "a") (one (is (variable x) ∷ []) ∷ []) ∷ of (codes "b") (one (is (variable x) ∷ []) ∷ []) ∷ [])) ∷ []

abbrev a_and_b : ℕ → IndexedFacts
a_and_b n = (1, ordered_fact (codes "a") (single.Int (pos 1) ∷ [])) ∷ (2, ordered_fact (codes "b") (single.Int (pos n) ∷ [])) ∷ []

together : all_keys (with_facts apart (a_and_b 1)) ≡ []
together = unfold all_keys all_matches matches_of in refl

not_together : all_keys (with_facts apart (a_and_b 2)) ≡ key [] ∷ []
not_together = unfold all_keys all_matches matches_of in refl

-- (not (not (a))): one match with (a), and none without it
abbrev doubly : List Element
doubly = group false (elements (group false (elements (of (codes "a") [] ∷ [])) ∷ [])) ∷ []

doubly_with : all_keys (with_facts doubly ((1, ordered_fact (codes "a") []) ∷ [])) ≡ key [] ∷ []
doubly_with = unfold all_keys all_matches matches_of in refl

doubly_without : all_keys (with_facts doubly []) ≡ []
doubly_without = unfold all_keys all_matches matches_of in refl

-- (forall (a ?x) (b ?x)), which is (not (and (a ?x) (not (b ?x)))): a match without facts and with (a 1) and (b 1), and none with (a 1) and (b 2)
abbrev for_all : List Element
for_all = group false (elements (of (codes "a") (one (is (variable x) ∷ []) ∷ []) ∷ group false (elements (of (codes "b") (one (is (variable x) ∷ []) ∷ []) ∷ [])) ∷ [])) ∷ []

for_all_of_none : all_keys (with_facts for_all []) ≡ key [] ∷ []
for_all_of_none = unfold all_keys all_matches matches_of in refl

for_all_of_one : all_keys (with_facts for_all (a_and_b 1)) ≡ key [] ∷ []
for_all_of_one = unfold all_keys all_matches matches_of in refl

not_for_all : all_keys (with_facts for_all (a_and_b 2)) ≡ []
not_for_all = unfold all_keys all_matches matches_of in refl

-- (n ?x) (test (> ?x 0)), (n a) and (n 4): the test faults for the one, and holds for the other
tested : all_matches (with_facts (of (codes "n") (one (is (variable x) ∷ []) ∷ []) ∷ test (expr.call function.Greater (expr.terms (expr.variable x ∷ expr.constant (value.Int (pos 0)) ∷ []))) ∷ [])
    ((1, ordered_fact (codes "n") (symbol (codes "a") ∷ [])) ∷ (2, ordered_fact (codes "n") (single.Int (pos 4) ∷ [])) ∷ []))
    ≡ (key (part 2 (1 ∷ []) ∷ []), with_variable x (value.Int (pos 4)) no_bindings) ∷ []
tested = unfold all_matches matches_of in refl
