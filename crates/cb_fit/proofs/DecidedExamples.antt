-- Patterns that are decided by values, and patterns that aren't.
use Rattle.std.proofs.Common.{◌≡◌, ℕ, pos, List, [], ◌∷◌, None, codes, true, false, refl}
use Rattle.cb_constraints.specs.Constraints.{Check, Constraint, Test, constant, variable, predicate, each, either}
use Rattle.cb_constraints.specs.PatternValues.{PatternValue, fields}
use Rattle.cb_fit.specs.Comparisons.{all_own_hold, choice_fields, compared_fields, compares, conditions, is_decided, own_fields}
use Rattle.cb_fit.specs.Decided.{is_met}
use Rattle.cb_fit.specs.declared.comparison.Comparison.TheVariants.{Differs, GreaterOrEqual, Less, LessOrEqual, Same}
use Rattle.cb_fit.specs.declared.own_field.Operand.TheVariants as operand
use Rattle.cb_exprs.specs.Bindings.{Bindings, no_bindings, with_variable}
use Rattle.cb_exprs.specs.Terms.{Term, no_terms, term}
use Rattle.cb_exprs.specs.Terms as expression
use Rattle.cb_facts.specs.Facts as fact
use Rattle.cb_facts.specs.declared.single.Single.TheVariants as single
use Rattle.cb_facts.specs.declared.value.Value.TheVariants as value
use Rattle.cb_fit.specs.JoinFields.{giving_fields}
use Rattle.cb_words.specs.declared.words.Function.{Function}
use Rattle.cb_words.specs.declared.words.Function.TheVariants as function

abbrev v : List ℕ
v = codes "v"

abbrev w : List ℕ
w = codes "w"

abbrev u : List ℕ
u = codes "u"

abbrev is : Test → Check
is t = record { negated = false; test = t }

abbrev differs : Test → Check
differs t = record { negated = true; test = t }

abbrev red : Test
red = constant (value.Symbol (codes "red"))

abbrev one : List Check → Constraint
one cs = record { segment = false; demand = each cs }

abbrev of : List Constraint → PatternValue
of row = record { relation = codes "x"; parts = fields row }

-- `(f a b)`
abbrev calls : Function → Term → Term → Term
calls f a b = expression.call f (term a (term b no_terms))

-- `:(f a b)`
abbrev asks : Function → Term → Term → Check
asks f a b = is (predicate (calls f a b))

-- `(not a)`
abbrev not_of : Term → Term
not_of a = expression.call function.Not (term a no_terms)

-- `(+ ?x 1)`
abbrev one_more : List ℕ → Term
one_more x = calls function.Add (expression.variable x) (expression.constant (value.Int (pos 1)))

-- `(= 1 (abs (- ?w ?v)))`
abbrev next_to : Term
next_to =
    calls function.Equal (expression.constant (value.Int (pos 1)))
    (expression.call function.Abs (term (calls function.Subtract (expression.variable w) (expression.variable v)) no_terms))

-- (x ?w&~red red|~red)
abbrev without_comparison : PatternValue
without_comparison = of (one (is (variable w) ∷ differs red ∷ []) ∷ record { segment = false; demand = either None ((is red ∷ []) ∷ (differs red ∷ []) ∷ []) } ∷ [])

decided_plain : is_decided without_comparison ≡ true
decided_plain = refl

compares_no_other : compared_fields without_comparison.parts ≡ []
compares_no_other = refl

compares_no_own : own_fields without_comparison.parts ≡ []
compares_no_own = refl

-- (x ?w ?w): the second field is equal to the first
abbrev twice : PatternValue
twice = of (one (is (variable w) ∷ []) ∷ one (is (variable w) ∷ []) ∷ [])

decided_twice : is_decided twice ≡ true
decided_twice = refl

own_twice : own_fields twice.parts ≡ record { place = record { slot = None; field = 1 }; comparison = Same; other = operand.Field (record { slot = None; field = 0 }) } ∷ []
own_twice = refl

-- so ?w has the value of the first
gives_twice : giving_fields twice.parts ≡ record { variable = w; slot = None; field = 0 } ∷ []
gives_twice = refl

two_equal : all_own_hold (own_fields twice.parts) (fact.fields (single.Int (pos 1) ∷ single.Int (pos 1) ∷ [])) ≡ true
two_equal = refl

two_different : all_own_hold (own_fields twice.parts) (fact.fields (single.Int (pos 1) ∷ single.Int (pos 2) ∷ [])) ≡ false
two_different = refl

-- (x ?v ?w&:(<= ?w ?v)): the second field is not greater than the first
abbrev not_greater : PatternValue
not_greater = of (one (is (variable v) ∷ []) ∷ one (is (variable w) ∷ asks function.LessOrEqual (expression.variable w) (expression.variable v) ∷ []) ∷ [])

decided_not_greater : is_decided not_greater ≡ true
decided_not_greater = refl

own_not_greater : own_fields not_greater.parts ≡ record { place = record { slot = None; field = 1 }; comparison = LessOrEqual; other = operand.Field (record { slot = None; field = 0 }) } ∷ []
own_not_greater = refl

no_other_not_greater : compared_fields not_greater.parts ≡ []
no_other_not_greater = refl

-- (x ~?w ?w): ?w doesn't stand before `~?w`, so the first field differs from what ?w has before the pattern
abbrev behind : PatternValue
behind = of (one (differs (variable w) ∷ []) ∷ one (is (variable w) ∷ []) ∷ [])

decided_behind : is_decided behind ≡ true
decided_behind = refl

compares_behind : compared_fields behind.parts ≡ record { place = record { slot = None; field = 0 }; comparison = Differs; variable = w } ∷ []
compares_behind = refl

no_own_behind : own_fields behind.parts ≡ []
no_own_behind = refl

-- (x ?v ~?v): the second field differs from the first
abbrev unlike : PatternValue
unlike = of (one (is (variable v) ∷ []) ∷ one (differs (variable v) ∷ []) ∷ [])

decided_unlike : is_decided unlike ≡ true
decided_unlike = refl

own_unlike : own_fields unlike.parts ≡ record { place = record { slot = None; field = 1 }; comparison = Differs; other = operand.Field (record { slot = None; field = 0 }) } ∷ []
own_unlike = refl

-- (x $?w)
not_decided_segment : is_decided (of (record { segment = true; demand = each (is (variable w) ∷ []) } ∷ [])) ≡ false
not_decided_segment = refl

-- (x ?w&:(< ?w ?v)): the field is less than ?v
abbrev least : PatternValue
least = of (one (is (variable w) ∷ asks function.Less (expression.variable w) (expression.variable v) ∷ []) ∷ [])

decided_least : is_decided least ≡ true
decided_least = refl

compares_least : compared_fields least.parts ≡ record { place = record { slot = None; field = 0 }; comparison = Less; variable = v } ∷ []
compares_least = refl

-- (x red ?w&:(<= ?v ?w)): the second field is greater than ?v or equal
abbrev turned_round : PatternValue
turned_round = of (one (is red ∷ []) ∷ one (is (variable w) ∷ asks function.LessOrEqual (expression.variable v) (expression.variable w) ∷ []) ∷ [])

decided_turned : is_decided turned_round ≡ true
decided_turned = refl

compares_turned : compared_fields turned_round.parts ≡ record { place = record { slot = None; field = 1 }; comparison = GreaterOrEqual; variable = v } ∷ []
compares_turned = refl

-- (x ~?v&~?w)
abbrev others : PatternValue
others = of (one (differs (variable v) ∷ differs (variable w) ∷ []) ∷ [])

decided_others : is_decided others ≡ true
decided_others = refl

compares_others : compared_fields others.parts
    ≡ record { place = record { slot = None; field = 0 }; comparison = Differs; variable = v }
    ∷ record { place = record { slot = None; field = 0 }; comparison = Differs; variable = w } ∷ []
compares_others = refl

-- (x ?v|?w)
abbrev one_of_two : PatternValue
one_of_two = of (record { segment = false; demand = either None ((is (variable v) ∷ []) ∷ (is (variable w) ∷ []) ∷ []) } ∷ [])

decided_one_of_two : is_decided one_of_two ≡ true
decided_one_of_two = refl

chooses_one_of_two : choice_fields one_of_two.parts ≡ record { place = record { slot = None; field = 0 }; variables = v ∷ w ∷ [] } ∷ []
chooses_one_of_two = refl

-- (x ?v|?w ?v): an alternative stands in the pattern elsewhere
not_decided_alternative : is_decided (of (record { segment = false; demand = either None ((is (variable v) ∷ []) ∷ (is (variable w) ∷ []) ∷ []) } ∷ one (is (variable v) ∷ []) ∷ [])) ≡ false
not_decided_alternative = refl

-- (x ?v&~?v): the field is compared with its own variable
not_decided_own : is_decided (of (one (is (variable v) ∷ differs (variable v) ∷ []) ∷ [])) ≡ false
not_decided_own = refl

-- (x ?v&?v): the field is equal to itself
within_one : is_decided (of (one (is (variable v) ∷ is (variable v) ∷ []) ∷ [])) ≡ true
within_one = refl

no_own_within_one : own_fields (of (one (is (variable v) ∷ is (variable v) ∷ []) ∷ [])).parts ≡ []
no_own_within_one = refl

-- (x ?v ?w&?v): two variables of one field, of which one stands before
abbrev both_names : PatternValue
both_names = of (one (is (variable v) ∷ []) ∷ one (is (variable w) ∷ is (variable v) ∷ []) ∷ [])

own_both_names : own_fields both_names.parts ≡ record { place = record { slot = None; field = 1 }; comparison = Same; other = operand.Field (record { slot = None; field = 0 }) } ∷ []
own_both_names = refl

-- (x ?w&:(< ?w 3)): the field is less than a constant
abbrev less_than_three : PatternValue
less_than_three = of (one (is (variable w) ∷ asks function.Less (expression.variable w) (expression.constant (value.Int (pos 3))) ∷ []) ∷ [])

decided_constant : is_decided less_than_three ≡ true
decided_constant = refl

own_constant : own_fields less_than_three.parts ≡ record { place = record { slot = None; field = 0 }; comparison = Less; other = operand.Constant (value.Int (pos 3)) } ∷ []
own_constant = refl

no_other_constant : compared_fields less_than_three.parts ≡ []
no_other_constant = refl

two_is_less : all_own_hold (own_fields less_than_three.parts) (fact.fields (single.Int (pos 2) ∷ [])) ≡ true
two_is_less = refl

three_is_not : all_own_hold (own_fields less_than_three.parts) (fact.fields (single.Int (pos 3) ∷ [])) ≡ false
three_is_not = refl

-- (x ?w&:(<= 3 ?w)): the constant stands first
own_turned : own_fields (of (one (is (variable w) ∷ asks function.LessOrEqual (expression.constant (value.Int (pos 3))) (expression.variable w) ∷ []) ∷ [])).parts
    ≡ record { place = record { slot = None; field = 0 }; comparison = GreaterOrEqual; other = operand.Constant (value.Int (pos 3)) } ∷ []
own_turned = refl

-- (x ?w&:(< ?v 3)) and (x ?w&:(< ?v ?v)): no comparison of the field, and so conditions
abbrev of_another : PatternValue
of_another = of (one (is (variable w) ∷ asks function.Less (expression.variable v) (expression.constant (value.Int (pos 3))) ∷ []) ∷ [])

decided_of_another : is_decided of_another ≡ true
decided_of_another = refl

conditions_of_another : conditions of_another.parts ≡ calls function.Less (expression.variable v) (expression.constant (value.Int (pos 3))) ∷ []
conditions_of_another = refl

decided_elsewhere : is_decided (of (one (is (variable w) ∷ asks function.Less (expression.variable v) (expression.variable v) ∷ []) ∷ [])) ≡ true
decided_elsewhere = refl

-- (x ?w&:(< ?w ?v)) and (x ?w&:(< ?w 3)): comparisons, and so no conditions
no_conditions_least : conditions least.parts ≡ []
no_conditions_least = refl

no_conditions_constant : conditions less_than_three.parts ≡ []
no_conditions_constant = refl

-- (x ?w&~:(< ?w ?v)) holds where the comparison faults, and is left general
not_decided_opposite : is_decided (of (one (is (variable w) ∷ differs (predicate (calls function.Less (expression.variable w) (expression.variable v))) ∷ []) ∷ [])) ≡ false
not_decided_opposite = refl

-- what is no integer is in no order
two_integers : compares Less (value.Int (pos 1)) (value.Int (pos 2)) ≡ true
two_integers = refl

no_integer : compares Less (value.Int (pos 1)) (value.Symbol (codes "a")) ≡ false
no_integer = refl

-- but differs from all that it isn't equal to
they_differ : compares Differs (value.Int (pos 1)) (value.Symbol (codes "a")) ≡ true
they_differ = refl

-- (x ?w&:(not (member$ ?w ?v)))
abbrev no_member : PatternValue
no_member = of (one (is (variable w) ∷ is (predicate (not_of (calls function.Member (expression.variable w) (expression.variable v)))) ∷ []) ∷ [])

decided_no_member : is_decided no_member ≡ true
decided_no_member = refl

conditions_no_member : conditions no_member.parts ≡ not_of (calls function.Member (expression.variable w) (expression.variable v)) ∷ []
conditions_no_member = refl

-- and nothing else is asked
compares_no_member : compared_fields no_member.parts ≡ []
compares_no_member = refl

-- (x ?v red ?w&~?u&:(= 1 (abs (- ?w ?v)))): the first field has ?v
abbrev beside : PatternValue
beside = of (one (is (variable v) ∷ []) ∷ one (is red ∷ []) ∷ one (is (variable w) ∷ differs (variable u) ∷ is (predicate next_to) ∷ []) ∷ [])

decided_beside : is_decided beside ≡ true
decided_beside = refl

conditions_beside : conditions beside.parts ≡ next_to ∷ []
conditions_beside = refl

compares_beside : compared_fields beside.parts ≡ record { place = record { slot = None; field = 2 }; comparison = Differs; variable = u } ∷ []
compares_beside = refl

-- (x ?w&:(= ?v (+ ?w 1)))
abbrev one_less : PatternValue
one_less = of (one (is (variable w) ∷ asks function.Equal (expression.variable v) (one_more w) ∷ []) ∷ [])

decided_one_less : is_decided one_less ≡ true
decided_one_less = refl

conditions_one_less : conditions one_less.parts ≡ calls function.Equal (expression.variable v) (one_more w) ∷ []
conditions_one_less = refl

-- the condition holds where ?w has 2 and ?v 3, and not where ?v has no value: then it faults
abbrev with_two : Bindings
with_two = with_variable w (value.Int (pos 2)) no_bindings

three_is_met : is_met (with_variable v (value.Int (pos 3)) with_two) (calls function.Equal (expression.variable v) (one_more w)) ≡ true
three_is_met = refl

four_is_not_met : is_met (with_variable v (value.Int (pos 4)) with_two) (calls function.Equal (expression.variable v) (one_more w)) ≡ false
four_is_not_met = refl

none_is_not_met : is_met with_two (calls function.Equal (expression.variable v) (one_more w)) ≡ false
none_is_not_met = refl

-- (x ?w&:(= ?v (+ ?w 1)) ?v): ?v may get its value behind the condition, which has to fault where it has none before
not_decided_later : is_decided (of (one (is (variable w) ∷ asks function.Equal (expression.variable v) (one_more w) ∷ []) ∷ one (is (variable v) ∷ []) ∷ [])) ≡ false
not_decided_later = refl

-- (x ?w&:(= ?v (+ ?w 1))&?v): so it is in one field
not_decided_later_there : is_decided (of (one (is (variable w) ∷ asks function.Equal (expression.variable v) (one_more w) ∷ is (variable v) ∷ []) ∷ [])) ≡ false
not_decided_later_there = refl

-- (x ?v ?w&:(= ?v (+ ?w 1)) ?v): but not where ?v stands before as well
decided_before : is_decided (of (one (is (variable v) ∷ []) ∷ one (is (variable w) ∷ asks function.Equal (expression.variable v) (one_more w) ∷ []) ∷ one (is (variable v) ∷ []) ∷ [])) ≡ true
decided_before = refl
