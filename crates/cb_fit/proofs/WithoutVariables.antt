-- A pattern without its variables and expressions fits where the pattern does, and gives no variable a value.
use Rattle.std.proofs.Common.{◌≡◌, ◌∙◌, ◌&&◌, ◌||◌, Bool, true, false, ℕ, List, [], ◌∷◌, None, Some, ap, map, refl}
use Rattle.std.specs.List.{list_all}
use Rattle.std.specs.Option.{option_and_then}
use Rattle.cb_constraints.specs.Constraints.{Test, constant, variable, predicate, return_value, Check, Demand, nothing, each, either, Constraint}
use Rattle.cb_constraints.specs.Holding.{after_check, after_checks, after_demand, after_test, check_holds, one_holds, opposite_if, provided, after_variable, test_holds}
use Rattle.cb_constraints.specs.PatternValues.{PatternParts, PatternValue, SlotValue}
use Rattle.cb_constraints.specs.PatternValues as pattern
use Rattle.cb_exprs.specs.Bindings.{Bindings, no_bindings}
use Rattle.cb_facts.specs.Facts.{FactContent, FactValue}
use Rattle.cb_facts.specs.Facts as fact
use Rattle.cb_facts.specs.Values.{fields_in}
use Rattle.cb_facts.specs.declared.single.Single.{Single}
use Rattle.cb_facts.specs.declared.value.Value.{Value}
use Rattle.cb_fit.proofs.Segments.{then-some}
use Rattle.cb_fit.specs.Related.{Fits, HoldInTurn, PartsFit, RowFits, SlotsFit}
use Rattle.cb_fit.specs.Shapes.{HasShape, constants_in, loose, loose_constraint, loose_demand, loose_parts, loose_row, loose_slot}
use Rattle.cb_fit.specs.Ways.{after_segment, segment_value}

pub provided-if : (t : Bool) (env grown : Bindings) → provided t env ≡ Some grown → (t ≡ true) × (env ≡ grown)
provided-if true env grown e = (refl, cc)
provided-if false env grown e = absurd (apart e)
  where
    apart : None ≡ Some grown → ⊥
    apart d = cc

-- a constant is what it is, whatever variables have
kept-constant : (negated : Bool) (w v : Value) (env mid any : Bindings) → after_test negated (constant w) v env ≡ Some mid → after_test negated (constant w) v any ≡ Some any
kept-constant true w v env mid any e = ap (λ t. provided t any) (provided-if (opposite_if true (test_holds (constant w) v env)) env mid e).0
kept-constant false w v env mid any e = ap (λ t. provided t any) (provided-if (opposite_if false (test_holds (constant w) v env)) env mid e).0

one-kept : (negated : Bool) (t : Test) (cs : List Check) (v : Value) (env mid any : Bindings) → after_test negated t v env ≡ Some mid → after_checks (constants_in cs) v any ≡ Some any
    → after_checks (constants_in (record { negated = negated; test = t } ∷ cs)) v any ≡ Some any
one-kept negated (constant w) cs v env mid any first more = ap (option_and_then (after_checks (constants_in cs) v)) (kept-constant negated w v env mid any first) ∙ more
one-kept negated (variable x) cs v env mid any first more = more
one-kept negated (predicate e) cs v env mid any first more = more
one-kept negated (return_value e) cs v env mid any first more = more

checks-kept : (cs : List Check) (v : Value) (env grown any : Bindings) → after_checks cs v env ≡ Some grown → after_checks (constants_in cs) v any ≡ Some any
checks-kept [] v env grown any e = refl
checks-kept (c ∷ cs) v env grown any e =
    let w = then-some (after_checks cs v) (after_check c v env) grown e in
    one-kept c.negated c.test cs v env w.0 any w.1 (checks-kept cs v w.0 grown any w.2)

pub both-true : (a b : Bool) → a && b ≡ true → (a ≡ true) × (b ≡ true)
both-true true b e = (refl, e)
both-true false b e = let never : false ≡ true = e in cc

first-holds : (negated : Bool) (t : Test) (cs : List Check) (v : Value) (env any : Bindings) → check_holds v env (record { negated = negated; test = t }) ≡ true
    → list_all (check_holds v any) (constants_in cs) ≡ true → list_all (check_holds v any) (constants_in (record { negated = negated; test = t } ∷ cs)) ≡ true
first-holds negated (constant w) cs v env any first more = ap (λ b. b && list_all (check_holds v any) (constants_in cs)) first ∙ more
first-holds negated (variable x) cs v env any first more = more
first-holds negated (predicate e) cs v env any first more = more
first-holds negated (return_value e) cs v env any first more = more

all-kept : (cs : List Check) (v : Value) (env any : Bindings) → list_all (check_holds v env) cs ≡ true → list_all (check_holds v any) (constants_in cs) ≡ true
all-kept [] v env any e = refl
all-kept (c ∷ cs) v env any e =
    let w = both-true (check_holds v env c) (list_all (check_holds v env) cs) e in
    first-holds c.negated c.test cs v env any w.0 (all-kept cs v env any w.1)

or-kept : (a b c d : Bool) → (a ≡ true → c ≡ true) → (b ≡ true → d ≡ true) → a || b ≡ true → c || d ≡ true
or-kept true b c d f g e = ap (λ x. x || d) (f refl)
or-kept false b true d f g e = refl
or-kept false b false d f g e = g e

one-still-holds : (alternatives : List (List Check)) (v : Value) (env any : Bindings) → one_holds alternatives v env ≡ true → one_holds (map constants_in alternatives) v any ≡ true
one-still-holds [] v env any e = e
one-still-holds (cs ∷ more) v env any e =
    or-kept (list_all (check_holds v env) cs) (one_holds more v env) (list_all (check_holds v any) (constants_in cs)) (one_holds (map constants_in more) v any)
    (all-kept cs v env any) (one-still-holds more v env any) e

demand-kept : (d : Demand) (v : Value) (env grown any : Bindings) → after_demand d v env ≡ Some grown → after_demand (loose_demand d) v any ≡ Some any
demand-kept nothing v env grown any e = refl
demand-kept (each cs) v env grown any e = checks-kept cs v env grown any e
demand-kept (either None alternatives) v env grown any e = ap (λ t. provided t any) (one-still-holds alternatives v env any (provided-if (one_holds alternatives v env) env grown e).0)
demand-kept (either (Some x) alternatives) v env grown any e =
    let w = then-some (λ mid. provided (one_holds alternatives v mid) mid) (after_variable x v env) grown e in
    ap (λ t. provided t any) (one-still-holds alternatives v w.0 any (provided-if (one_holds alternatives v w.0) w.0 grown w.2).0)

segment-kept : (c : Constraint) (s : List Single) (env grown any : Bindings) → after_segment c s env ≡ Some grown → after_segment (loose_constraint c) s any ≡ Some any
segment-kept c s env grown any e =
    let w = then-some (λ v. after_demand c.demand v env) (segment_value c.segment s) grown e in
    ap (option_and_then (λ v. after_demand (loose_demand c.demand) v any)) w.1 ∙ demand-kept c.demand w.0 env grown any w.2

turn-kept : (cs : List Constraint) (ss : List (List Single)) (before after any : Bindings) → HoldInTurn cs ss before after → HoldInTurn (loose_row cs) ss any any
turn-kept [] [] before after any h = refl
turn-kept [] (s ∷ ss) before after any h = absurd h
turn-kept (c ∷ cs) [] before after any h = absurd h
turn-kept (c ∷ cs) (s ∷ ss) before after any h = (any, segment-kept c s before h.0 any h.1, turn-kept cs ss h.0 after any h.2)

row-kept : (cs : List Constraint) (fields : List Single) (cuts : List ℕ) (before after any : Bindings) → RowFits cs fields cuts before after → RowFits (loose_row cs) fields cuts any any
row-kept cs fields cuts before after any h = (h.0, h.1, h.2, turn-kept cs h.0 before after any h.3)

slots-kept : (ss : List SlotValue) (slots : List (List ℕ × Value)) (cuts : List ℕ) (before after any : Bindings) → SlotsFit ss slots cuts before after → SlotsFit (map loose_slot ss) slots cuts any any
slots-kept [] slots cuts before after any h = (h.0, refl)
slots-kept (s ∷ ss) slots cuts before after any (v, own, others, grown, is, joined, first, more) =
    (v, own, others, any, is, joined, row-kept s.row (fields_in v) own before grown any first, slots-kept ss slots others grown after any more)

parts-kept : (p : PatternParts) (f : FactContent) (cuts : List ℕ) (before after any : Bindings) → PartsFit p f cuts before after → PartsFit (loose_parts p) f cuts any any
parts-kept (pattern.fields row) (fact.fields fs) cuts before after any h = row-kept row fs cuts before after any h
parts-kept (pattern.fields row) (fact.slots ss) cuts before after any h = absurd h
parts-kept (pattern.slots rows) (fact.fields fs) cuts before after any h = absurd h
parts-kept (pattern.slots rows) (fact.slots ss) cuts before after any h = slots-kept rows ss cuts before after any h

pub shape-kept : (p : PatternValue) (f : FactValue) (cuts : List ℕ) (before after any : Bindings) → Fits p f cuts before after → Fits (loose p) f cuts any any
shape-kept p f cuts before after any h = (h.0, parts-kept p.parts f.content cuts before after any h.1)

pub has-shape : (p : PatternValue) (f : FactValue) (cuts : List ℕ) (before after : Bindings) → Fits p f cuts before after → HasShape p f
has-shape p f cuts before after h = (cuts, shape-kept p f cuts before after no_bindings h)

-- no variable takes a value
constant-gives : (negated : Bool) (w v : Value) (env mid : Bindings) → after_test negated (constant w) v env ≡ Some mid → env ≡ mid
constant-gives true w v env mid e = (provided-if (opposite_if true (test_holds (constant w) v env)) env mid e).1
constant-gives false w v env mid e = (provided-if (opposite_if false (test_holds (constant w) v env)) env mid e).1

one-gives : (negated : Bool) (t : Test) (cs : List Check) (v : Value) (env grown : Bindings)
    → ((e : Bindings) → after_checks (constants_in cs) v e ≡ Some grown → e ≡ grown)
    → after_checks (constants_in (record { negated = negated; test = t } ∷ cs)) v env ≡ Some grown → env ≡ grown
one-gives negated (constant w) cs v env grown more e =
    let h = then-some (after_checks (constants_in cs) v) (after_test negated (constant w) v env) grown e in
    constant-gives negated w v env h.0 h.1 ∙ more h.0 h.2
one-gives negated (variable x) cs v env grown more e = more env e
one-gives negated (predicate t) cs v env grown more e = more env e
one-gives negated (return_value t) cs v env grown more e = more env e

checks-give : (cs : List Check) (v : Value) (env grown : Bindings) → after_checks (constants_in cs) v env ≡ Some grown → env ≡ grown
checks-give [] v env grown e = cc
checks-give (c ∷ cs) v env grown e = one-gives c.negated c.test cs v env grown (λ mid. checks-give cs v mid grown) e

demand-gives : (d : Demand) (v : Value) (env grown : Bindings) → after_demand (loose_demand d) v env ≡ Some grown → env ≡ grown
demand-gives nothing v env grown e = cc
demand-gives (each cs) v env grown e = checks-give cs v env grown e
demand-gives (either first alternatives) v env grown e = (provided-if (one_holds (map constants_in alternatives) v env) env grown e).1

turn-gives : (cs : List Constraint) (ss : List (List Single)) (before after : Bindings) → HoldInTurn (loose_row cs) ss before after → before ≡ after
turn-gives [] [] before after h = h
turn-gives [] (s ∷ ss) before after h = absurd h
turn-gives (c ∷ cs) [] before after h = absurd h
turn-gives (c ∷ cs) (s ∷ ss) before after h =
    let w = then-some (λ v. after_demand (loose_demand c.demand) v before) (segment_value c.segment s) h.0 h.1 in
    demand-gives c.demand w.0 before h.0 w.2 ∙ turn-gives cs ss h.0 after h.2

slots-give : (ss : List SlotValue) (slots : List (List ℕ × Value)) (cuts : List ℕ) (before after : Bindings) → SlotsFit (map loose_slot ss) slots cuts before after → before ≡ after
slots-give [] slots cuts before after h = h.1
slots-give (s ∷ ss) slots cuts before after (v, own, others, grown, is, joined, first, more) = turn-gives s.row first.0 before grown first.3 ∙ slots-give ss slots others grown after more

parts-give : (p : PatternParts) (f : FactContent) (cuts : List ℕ) (before after : Bindings) → PartsFit (loose_parts p) f cuts before after → before ≡ after
parts-give (pattern.fields row) (fact.fields fs) cuts before after h = turn-gives row h.0 before after h.3
parts-give (pattern.fields row) (fact.slots ss) cuts before after h = absurd h
parts-give (pattern.slots rows) (fact.fields fs) cuts before after h = absurd h
parts-give (pattern.slots rows) (fact.slots ss) cuts before after h = slots-give rows ss cuts before after h

pub shape-gives : (p : PatternValue) (f : FactValue) (cuts : List ℕ) (before after : Bindings) → Fits (loose p) f cuts before after → before ≡ after
shape-gives p f cuts before after h = parts-give p.parts f.content cuts before after h.1
