-- What is asked of one field, and decided by values.
use Rattle.std.proofs.Common.{◌≡◌, ◌∙◌, ◌&&◌, ◌||◌, ℕ, Bool, true, false, is_some, not, List, [], ◌∷◌, ◌++◌, Option, Some, None, ap, ap₂, refl, sym, if◌then◌else◌}
use Rattle.std.proofs.lemmas.Bool.{and_parts}
use Rattle.std.proofs.lemmas.Grind.{flat_map-append}
use Rattle.std.proofs.lemmas.List.{append-nil}
use Rattle.std.proofs.lemmas.List.Folds.{list_all-append}
use Rattle.std.specs.Cmp.Lexicographic.{bytes_decides}
use Rattle.std.specs.List.{list_all}
use Rattle.std.specs.Option.{option_and_then, option_map_or, option_or}
use Rattle.std.specs.Prelude.{option_to_list}
use Rattle.std.specs.Str.{bytes_eq}
use Rattle.cb_constraints.specs.Binders.{binder, binders_of}
use Rattle.cb_constraints.specs.Constraints.{Test, constant, variable, predicate, return_value, Check}
use Rattle.cb_constraints.specs.Holding.{after_checks, after_test, after_variable, constants_hold, opposite_if, provided, test_holds}
use Rattle.cb_constraints.specs.Internal.Known.{given_to, given_to_all}
use Rattle.cb_eval.specs.Comparison.{same}
use Rattle.cb_fit.proofs.Compared.{AreOwn, compares_known, limit_one, test_compares, test_limited}
use Rattle.cb_fit.proofs.Given.{if_so, after_one, other_keeps}
use Rattle.cb_fit.proofs.Leading.{AreWithin, HaveValues, Leads, given_leads, leads_on, settled_met, still_have}
use Rattle.cb_fit.proofs.Members.{behind, in_front, named_append}
use Rattle.cb_fit.specs.Comparisons.{WithConstant, WithVariable, are_decided_checks, are_settled_checks, compared_checks, compared_term, compared_test, condition_checks, is_decided_test, limited_checks, limited_term, limited_test}
use Rattle.cb_fit.specs.Decided.{is_met}
use Rattle.cb_fit.specs.Plain.{is_named}
use Rattle.cb_fit.specs.Settled.{is_settled}
use Rattle.cb_exprs.proofs.ValueLaws.{value_at_set}
use Rattle.cb_exprs.specs.Bindings.{Bindings, value_at, with_variable}
use Rattle.cb_exprs.specs.Terms.{Term}
use Rattle.cb_facts.proofs.Equality.{value-Decides}
use Rattle.cb_facts.specs.declared.value.Value.{Value}

-- a variable has no value, or this one
abbrev pub agree_one : Value → Bindings → List ℕ → Bool
agree_one v env x = option_map_or (same v) (value_at x env.variables) true

-- a comparison holds
abbrev pub compare_one : Value → Bindings → WithVariable → Bool
compare_one v env c = compares_known c.0 v (value_at c.1 env.variables)

-- comparisons with constants hold
abbrev pub limits_hold : Value → List WithConstant → Bool
limits_hold v ls = list_all (limit_one v) ls

-- constants, variables and comparisons hold
abbrev pub values_hold : Bool → List (List ℕ) → List WithVariable → Value → Bindings → Bool
values_hold constants names cs v env = constants && (list_all (agree_one v env) names && list_all (compare_one v env) cs)

-- the variables that are compared are not among these
abbrev pub are_others : List (List ℕ) → List WithVariable → Bool
are_others names cs = list_all (λ (c : WithVariable). not (is_named c.1 names)) cs

-- two tests say the same of all for which a third holds
pub alike_where : {X : Type 0} (s t u : X → Bool) (xs : List X) → ((x : X) → s x ≡ true → t x ≡ u x) → list_all s xs ≡ true → list_all t xs ≡ list_all u xs
alike_where s t u [] h e = refl
alike_where s t u (x ∷ xs) h e = let both = and_parts (s x) (list_all s xs) e in ap₂ (λ a b. a && b) (h x both.0) (alike_where s t u xs h both.1)

pub alike : {X : Type 0} (t u : X → Bool) (xs : List X) → ((x : X) → t x ≡ u x) → list_all t xs ≡ list_all u xs
alike t u [] h = refl
alike t u (x ∷ xs) h = ap₂ (λ a b. a && b) (h x) (alike t u xs h)

pub weaker : {X : Type 0} (s t : X → Bool) (xs : List X) → ((x : X) → s x ≡ true → t x ≡ true) → list_all s xs ≡ true → list_all t xs ≡ true
weaker s t [] h e = refl
weaker s t (x ∷ xs) h e = let both = and_parts (s x) (list_all s xs) e in ap₂ (λ a b. a && b) (h x both.0) (weaker s t xs h both.1)

-- of several names
front_differs : (y x : List ℕ) (names : List (List ℕ)) → not (is_named y (x ∷ names)) ≡ true → bytes_eq y x ≡ false
front_differs y x names e = by (bytes_eq y x) (is_named y names) e
  where
    by : (a b : Bool) → not (a || b) ≡ true → a ≡ false
    by true b d = sym d
    by false b d = refl

others_differ : (y x : List ℕ) (names : List (List ℕ)) → not (is_named y (x ∷ names)) ≡ true → not (is_named y names) ≡ true
others_differ y x names e = by (bytes_eq y x) (is_named y names) e
  where
    by : (a b : Bool) → not (a || b) ≡ true → not b ≡ true
    by true b d = absurd (cc)
    by false b d = d

-- what one check leaves, and then the others
pub in_turn : (g rest : Bool) (next : Bindings → Option Bindings) (env out : Bindings) → (g ≡ true → next env ≡ provided rest out) → option_and_then next (provided g env) ≡ provided (g && rest) out
in_turn true rest next env out h = h refl
in_turn false rest next env out h = refl

pub variable_step : (x : List ℕ) (v : Value) (env : Bindings) → after_variable x v env ≡ provided (agree_one v env x) (given_to x v env)
variable_step x v env = by (value_at x env.variables)
  where
    by : (o : Option Value) → option_map_or (λ w. provided (same v w) env) o (Some (with_variable x v env)) ≡ provided (option_map_or (same v) o true) (option_map_or (λ w. env) o (with_variable x v env))
    by None = refl
    by (Some w) = refl

-- a variable that was given the value agrees as before
pub agrees_still : (x : List ℕ) (v : Value) (env : Bindings) (y : List ℕ) → agree_one v (given_to x v env) y ≡ agree_one v env y
agrees_still x v env y = ap (λ o. option_map_or (same v) o true) (after_one y x v env) ∙ by (value_at y env.variables) (bytes_eq y x)
  where
    by : (o : Option Value) (t : Bool) → option_map_or (same v) (option_or o (if_so t v)) true ≡ option_map_or (same v) o true
    by (Some w) t = refl
    by None true = (value-Decides v v).1 refl
    by None false = refl

compare_still : (x : List ℕ) (names : List (List ℕ)) (v : Value) (env : Bindings) (c : WithVariable) → not (is_named c.1 (x ∷ names)) ≡ true → compare_one v (given_to x v env) c ≡ compare_one v env c
compare_still x names v env c e = ap (compares_known c.0 v) (other_keeps c.1 x v env (front_differs c.1 x names e))

hold_still : (x : List ℕ) (constants : Bool) (names : List (List ℕ)) (cs : List WithVariable) (v : Value) (env : Bindings) → are_others (x ∷ names) cs ≡ true
    → values_hold constants names cs v (given_to x v env) ≡ values_hold constants names cs v env
hold_still x constants names cs v env e =
    ap₂ (λ a b. constants && (a && b)) (alike (agree_one v (given_to x v env)) (agree_one v env) names (agrees_still x v env))
    (alike_where (λ (c : WithVariable). not (is_named c.1 (x ∷ names))) (compare_one v (given_to x v env)) (compare_one v env) cs (compare_still x names v env) e)

-- the field's own variables have its value
own_after : (own : List (List ℕ)) (x : List ℕ) (v : Value) (env : Bindings) → AreOwn own v env → agree_one v env x ≡ true → AreOwn (x ∷ own) v (given_to x v env)
own_after own x v env has e y i = by (bytes_eq y x) refl i
  where
    set : (o : Option Value) → value_at x env.variables ≡ o → option_map_or (same v) o true ≡ true → value_at x (option_map_or (λ w. env) o (with_variable x v env)).variables ≡ Some v
    set None is d = value_at_set env.variables x v
    set (Some w) is d = is ∙ ap Some (sym ((value-Decides v w).0 d))

    own_one : value_at x (given_to x v env).variables ≡ Some v
    own_one = set (value_at x env.variables) refl e

    by : (t : Bool) → bytes_eq y x ≡ t → t || is_named y own ≡ true → value_at y (given_to x v env).variables ≡ Some v
    by true is d = ap (λ z. value_at z (given_to x v env).variables) ((bytes_decides y x).0 is) ∙ own_one
    by false is d = other_keeps y x v env is ∙ has y d

-- orders in which tests are joined
pub at_left : (a b c : Bool) → a && (b && c) ≡ (a && b) && c
at_left true b c = refl
at_left false b c = refl

in_between : (a b c : Bool) → a && (b && c) ≡ b && (a && c)
in_between true true c = refl
in_between true false c = refl
in_between false true c = refl
in_between false false c = refl

of_variable : (g k a c : Bool) → g && (k && (a && c)) ≡ k && ((g && a) && c)
of_variable true k a c = refl
of_variable false true a c = refl
of_variable false false a c = refl

of_constant : (g k l a c : Bool) → g && ((k && l) && (a && c)) ≡ ((g && k) && l) && (a && c)
of_constant true k l a c = refl
of_constant false k l a c = refl

of_comparison : (g m k l a c : Bool) → (g && m) && ((k && l) && (a && c)) ≡ (k && (m && l)) && (a && (g && c))
of_comparison true true k l a c = refl
of_comparison true false true l a c = refl
of_comparison true false false l a c = refl
of_comparison false m false l a c = refl
of_comparison false false true l a c = refl
of_comparison false true true false a c = refl
of_comparison false true true true true c = refl
of_comparison false true true true false c = refl

-- after one check more
last_named : (y : List ℕ) (before : List Check) (c : Check) → is_named y (binders_of (before ++ c ∷ [])) ≡ is_named y (binders_of before) || is_named y (binder c.negated c.test)
last_named y before c =
    ap (is_named y) (flat_map-append (λ (d : Check). binder d.negated d.test) before (c ∷ []) ∙ ap (λ xs. binders_of before ++ xs) (append-nil (binder c.negated c.test)))
    ∙ named_append y (binders_of before) (binder c.negated c.test)

or_false : (a : Bool) → a || false ≡ a
or_false true = refl
or_false false = refl

or_turned : (a b : Bool) → a || (b || false) ≡ b || a
or_turned true true = refl
or_turned true false = refl
or_turned false true = refl
or_turned false false = refl

own_still : (before : List Check) (c : Check) (v : Value) (env : Bindings) → binder c.negated c.test ≡ [] → AreOwn (binders_of before) v env → AreOwn (binders_of (before ++ c ∷ [])) v env
own_still before c v env none has y i =
    has y (sym (last_named y before c ∙ (ap (λ xs. is_named y (binders_of before) || is_named y xs) none ∙ or_false (is_named y (binders_of before)))) ∙ i)

own_with : (before : List Check) (x : List ℕ) (v : Value) (env : Bindings) → AreOwn (x ∷ binders_of before) v env → AreOwn (binders_of (before ++ record { negated = false; test = variable x } ∷ [])) v env
own_with before x v env has y i = has y (sym (last_named y before (record { negated = false; test = variable x }) ∙ or_turned (is_named y (binders_of before)) (bytes_eq y x)) ∙ i)

-- checks joined by `&` hold where their constants, their variables, these comparisons and these conditions do
abbrev Claim : Bool → List WithVariable → List WithConstant → List Check → Value → Bindings → Type 0
Claim met ks ls cs v env = after_checks cs v env ≡ provided (values_hold (constants_hold v cs && limits_hold v ls) (binders_of cs) ks v env && met) (given_to_all (binders_of cs) v env)

constant_first : (met negated : Bool) (w : Value) (cs : List Check) (ks : List WithVariable) (ls : List WithConstant) (v : Value) (env : Bindings)
    → after_test negated (constant w) v env ≡ provided (opposite_if negated (same v w)) env → Claim met ks ls cs v env
    → option_and_then (after_checks cs v) (after_test negated (constant w) v env)
    ≡ provided (values_hold ((opposite_if negated (same v w) && constants_hold v cs) && limits_hold v ls) (binders_of cs) ks v env && met) (given_to_all (binders_of cs) v env)
constant_first met negated w cs ks ls v env is more =
    let end = given_to_all (binders_of cs) v env in
    let hold = values_hold (constants_hold v cs && limits_hold v ls) (binders_of cs) ks v env in
    ap (option_and_then (after_checks cs v)) is
    ∙ (in_turn (opposite_if negated (same v w)) (hold && met) (after_checks cs v) env end (λ g. more)
    ∙ ap (λ t. provided t end)
    (at_left (opposite_if negated (same v w)) hold met
    ∙ ap (λ t. t && met)
    (of_constant (opposite_if negated (same v w)) (constants_hold v cs) (limits_hold v ls) (list_all (agree_one v env) (binders_of cs)) (list_all (compare_one v env) ks))))

variable_first : (met : Bool) (own : List (List ℕ)) (x : List ℕ) (cs : List Check) (ks : List WithVariable) (ls : List WithConstant) (v : Value) (env : Bindings) → AreOwn own v env
    → are_others (x ∷ binders_of cs) ks ≡ true → (AreOwn (x ∷ own) v (given_to x v env) → Claim met ks ls cs v (given_to x v env))
    → option_and_then (after_checks cs v) (after_variable x v env)
    ≡ provided (values_hold (constants_hold v cs && limits_hold v ls) (x ∷ binders_of cs) ks v env && met) (given_to_all (x ∷ binders_of cs) v env)
variable_first met own x cs ks ls v env has others more =
    let end = given_to_all (binders_of cs) v (given_to x v env) in
    let constants = constants_hold v cs && limits_hold v ls in
    let hold = values_hold constants (binders_of cs) ks v env in
    ap (option_and_then (after_checks cs v)) (variable_step x v env)
    ∙ (in_turn (agree_one v env x) (hold && met) (after_checks cs v) (given_to x v env) end
    (λ g. more (own_after own x v env has g) ∙ ap (λ t. provided (t && met) end) (hold_still x constants (binders_of cs) ks v env others))
    ∙ ap (λ t. provided t end)
    (at_left (agree_one v env x) hold met
    ∙ ap (λ t. t && met) (of_variable (agree_one v env x) constants (list_all (agree_one v env) (binders_of cs)) (list_all (compare_one v env) ks))))

once : (a : Bool) → a ≡ (a && true) && true
once true = refl
once false = refl

once_limited : (a : Bool) → a ≡ a && true
once_limited true = refl
once_limited false = refl

twice : (g a b : Bool) → g ≡ a → g ≡ b → g ≡ (a && true) && (b && true)
twice true a b i j = ap₂ (λ s t. (s && true) && (t && true)) i j
twice false a b i j = ap₂ (λ s t. (s && true) && (t && true)) i j

test_asks : (own : List (List ℕ)) (negated : Bool) (t : Test) (v : Value) (env : Bindings) → is_some (compared_test own negated t) || is_some (limited_test own negated t) ≡ true → AreOwn own v env
    → opposite_if negated (test_holds t v env)
    ≡ list_all (compare_one v env) (option_to_list (compared_test own negated t)) && limits_hold v (option_to_list (limited_test own negated t))
test_asks own negated t v env e has = by (compared_test own negated t) (limited_test own negated t) refl refl e
  where
    by : (o : Option WithVariable) (p : Option WithConstant) → compared_test own negated t ≡ o → limited_test own negated t ≡ p → is_some o || is_some p ≡ true
        → opposite_if negated (test_holds t v env) ≡ list_all (compare_one v env) (option_to_list o) && limits_hold v (option_to_list p)
    by (Some c) (Some l) i j d =
        twice (opposite_if negated (test_holds t v env)) (compare_one v env c) (limit_one v l) (test_compares own negated t c v env i has) (test_limited own negated t l v env j has)
    by (Some c) None i j d = test_compares own negated t c v env i has ∙ once (compare_one v env c)
    by None (Some l) i j d = test_limited own negated t l v env j has ∙ once_limited (limit_one v l)
    by None None i j d = absurd (cc)

comparison_first : (met : Bool) (own : List (List ℕ)) (negated : Bool) (t : Test) (cs : List Check) (ks : List WithVariable) (ls : List WithConstant) (v : Value) (env : Bindings)
    → is_some (compared_test own negated t) || is_some (limited_test own negated t) ≡ true → AreOwn own v env
    → after_test negated t v env ≡ provided (opposite_if negated (test_holds t v env)) env → Claim met ks ls cs v env
    → option_and_then (after_checks cs v) (after_test negated t v env)
    ≡ provided
    (values_hold (constants_hold v cs && limits_hold v (option_to_list (limited_test own negated t) ++ ls)) (binders_of cs) (option_to_list (compared_test own negated t) ++ ks) v env && met)
    (given_to_all (binders_of cs) v env)
comparison_first met own negated t cs ks ls v env e has is more =
    let end = given_to_all (binders_of cs) v env in
    let with_it = option_to_list (compared_test own negated t) in
    let limit = option_to_list (limited_test own negated t) in
    let agree = list_all (agree_one v env) (binders_of cs) in
    let here = list_all (compare_one v env) with_it && limits_hold v limit in
    let hold = values_hold (constants_hold v cs && limits_hold v ls) (binders_of cs) ks v env in
    ap (option_and_then (after_checks cs v)) (is ∙ ap (λ g. provided g env) (test_asks own negated t v env e has))
    ∙ (in_turn here (hold && met) (after_checks cs v) env end (λ g. more)
    ∙ (ap (λ g. provided g end) (at_left here hold met)
    ∙ (ap (λ g. provided (g && met) end) (of_comparison (list_all (compare_one v env) with_it) (limits_hold v limit) (constants_hold v cs) (limits_hold v ls) agree (list_all (compare_one v env) ks))
    ∙ ap₂ (λ s c. provided (((constants_hold v cs && s) && (agree && c)) && met) end) (sym (list_all-append (limit_one v) limit ls)) (sym (list_all-append (compare_one v env) with_it ks)))))

none_of : {X Y : Type 0} (o : Option X) (p : Option Y) → is_some o || is_some p ≡ false → (o ≡ None) × (p ≡ None)
none_of None None e = (refl, refl)
none_of None (Some y) e = absurd (cc)
none_of (Some x) p e = absurd (cc)

-- a condition that is met at its place where it is behind the pattern
condition_first : (here met : Bool) (own : List (List ℕ)) (t : Term) (cs : List Check) (ks : List WithVariable) (ls : List WithConstant) (v : Value) (env : Bindings)
    → is_some (compared_term own t) || is_some (limited_term own t) ≡ false → is_met env t ≡ here → Claim met ks ls cs v env
    → option_and_then (after_checks cs v) (after_test false (predicate t) v env)
    ≡ provided
    (values_hold (constants_hold v cs && limits_hold v (option_to_list (limited_term own t) ++ ls)) (binders_of cs) (option_to_list (compared_term own t) ++ ks) v env && (here && met))
    (given_to_all (binders_of cs) v env)
condition_first here met own t cs ks ls v env none is more =
    let end = given_to_all (binders_of cs) v env in
    let hold = values_hold (constants_hold v cs && limits_hold v ls) (binders_of cs) ks v env in
    let nones = none_of (compared_term own t) (limited_term own t) none in
    ap (λ g. option_and_then (after_checks cs v) (provided g env)) is
    ∙ (in_turn here (hold && met) (after_checks cs v) env end (λ g. more)
    ∙ (ap (λ g. provided g end) (in_between here hold met)
    ∙ ap₂ (λ o p. provided (values_hold (constants_hold v cs && limits_hold v (option_to_list p ++ ls)) (binders_of cs) (option_to_list o ++ ks) v env && (here && met)) end) (sym nones.0) (sym nones.1)))

-- those of a list that has one in front
rest_are_others : (names : List (List ℕ)) (o : Option WithVariable) (cs : List WithVariable) → are_others names (option_to_list o ++ cs) ≡ true → are_others names cs ≡ true
rest_are_others names None cs e = e
rest_are_others names (Some c) cs e = (and_parts (not (is_named c.1 names)) (are_others names cs) e).1

-- in a pattern that may give values to these names, behind fields with these variables, where variables have `out` behind it
module _ (names stand : List (List ℕ)) (out : Bindings) where
  abbrev met_of : List Check → List Check → Bool
  met_of before cs = list_all (is_met out) (condition_checks before cs)

  abbrev Checked : List Check → List Check → Value → Bindings → Type 0
  Checked before cs v env =
      are_decided_checks before cs ≡ true → AreOwn (binders_of before) v env → are_others (binders_of cs) (compared_checks before cs) ≡ true
      → are_settled_checks names stand before cs ≡ true → AreWithin (binders_of cs) names → HaveValues stand env → Leads names (given_to_all (binders_of cs) v env) out
      → Claim (met_of before cs) (compared_checks before cs) (limited_checks before cs) cs v env

  -- a predicate in front of checks, which compares or makes a condition
  module _ (before : List Check) (t : Term) (cs : List Check) (v : Value) (env : Bindings) where
    abbrev own : List (List ℕ)
    own = binders_of before

    abbrev passed : List Check
    passed = before ++ record { negated = false; test = predicate t } ∷ []

    abbrev condition_if : Bool → List Term
    condition_if compares = option_to_list (if compares then None else Some t)

    predicate_first : AreOwn own v env → AreWithin (binders_of cs) names → HaveValues stand env → Leads names (given_to_all (binders_of cs) v env) out
        → (b : Bool) → is_some (compared_term own t) || is_some (limited_term own t) ≡ b → list_all (is_settled names stand own) (condition_if b) && are_settled_checks names stand passed cs ≡ true
        → (are_settled_checks names stand passed cs ≡ true → Claim (met_of passed cs) (compared_checks passed cs) (limited_checks passed cs) cs v env)
        → option_and_then (after_checks cs v) (after_test false (predicate t) v env)
        ≡ provided
        (values_hold (constants_hold v cs && limits_hold v (option_to_list (limited_term own t) ++ limited_checks passed cs)) (binders_of cs) (option_to_list (compared_term own t) ++ compared_checks passed cs) v env
        && list_all (is_met out) (condition_if b ++ condition_checks passed cs))
        (given_to_all (binders_of cs) v env)
    predicate_first has within known leads true is settled more =
        comparison_first (met_of passed cs) own false (predicate t) cs (compared_checks passed cs) (limited_checks passed cs) v env is has refl (more settled)
    predicate_first has within known leads false is settled more =
        let both = and_parts (is_settled names stand own t && true) (are_settled_checks names stand passed cs) settled in
        let mid = given_to_all (binders_of cs) v env in
        condition_first (is_met out t) (met_of passed cs) own t cs (compared_checks passed cs) (limited_checks passed cs) v env is
        (settled_met names stand own t v env out (and_parts (is_settled names stand own t) true both.0).0 has known
        (leads_on names env mid out (given_leads names (binders_of cs) v env within) leads)) (more both.1)

  one_check : (before : List Check) (negated : Bool) (t : Test) (cs : List Check) (v : Value) (env : Bindings) → ((before' : List Check) (env' : Bindings) → Checked before' cs v env')
      → Checked before (record { negated = negated; test = t } ∷ cs) v env
  one_check before true (constant w) cs v env more e has others settled within known leads =
      let c : Check = record { negated = true; test = constant w } in
      constant_first (met_of (before ++ c ∷ []) cs) true w cs (compared_checks (before ++ c ∷ []) cs) (limited_checks (before ++ c ∷ []) cs) v env refl
      (more (before ++ c ∷ []) env e (own_still before c v env refl has) others settled within known leads)
  one_check before false (constant w) cs v env more e has others settled within known leads =
      let c : Check = record { negated = false; test = constant w } in
      constant_first (met_of (before ++ c ∷ []) cs) false w cs (compared_checks (before ++ c ∷ []) cs) (limited_checks (before ++ c ∷ []) cs) v env refl
      (more (before ++ c ∷ []) env e (own_still before c v env refl has) others settled within known leads)
  one_check before false (variable x) cs v env more e has others settled within known leads =
      let c : Check = record { negated = false; test = variable x } in
      let ks = compared_checks (before ++ c ∷ []) cs in
      variable_first (met_of (before ++ c ∷ []) cs) (binders_of before) x cs ks (limited_checks (before ++ c ∷ []) cs) v env has others
      (λ own_has. more (before ++ c ∷ []) (given_to x v env) e (own_with before x v (given_to x v env) own_has)
      (weaker (λ (k : WithVariable). not (is_named k.1 (x ∷ binders_of cs))) (λ (k : WithVariable). not (is_named k.1 (binders_of cs))) ks (λ k. others_differ k.1 x (binders_of cs)) others)
      settled (λ y i. within y (behind y (x ∷ []) (binders_of cs) i))
      (still_have names stand env (given_to x v env) (given_leads names (x ∷ []) v env (λ y i. within y (in_front y (x ∷ []) (binders_of cs) i))) known) leads)
  one_check before true (variable x) cs v env more e has others settled within known leads =
      let c : Check = record { negated = true; test = variable x } in
      let own = binders_of before in
      let ks = compared_checks (before ++ c ∷ []) cs in
      comparison_first (met_of (before ++ c ∷ []) cs) own true (variable x) cs ks (limited_checks (before ++ c ∷ []) cs) v env refl has refl
      (more (before ++ c ∷ []) env e (own_still before c v env refl has) (rest_are_others (binders_of cs) (compared_test own true (variable x)) ks others) settled within known leads)
  one_check before false (predicate t) cs v env more e has others settled within known leads =
      let c : Check = record { negated = false; test = predicate t } in
      let both = and_parts (is_decided_test (binders_of before) false (predicate t)) (are_decided_checks (before ++ c ∷ []) cs) e in
      predicate_first before t cs v env has within known leads (is_some (compared_term (binders_of before) t) || is_some (limited_term (binders_of before) t)) refl settled
      (λ s. more (before ++ c ∷ []) env both.1 (own_still before c v env refl has)
      (rest_are_others (binders_of cs) (compared_term (binders_of before) t) (compared_checks (before ++ c ∷ []) cs) others) s within known leads)
  one_check before true (predicate t) cs v env more e has others settled within known leads = absurd (cc)
  one_check before true (return_value t) cs v env more e has others settled within known leads = absurd (cc)
  one_check before false (return_value t) cs v env more e has others settled within known leads = absurd (cc)

  pub checks_claim : (cs before : List Check) (v : Value) (env : Bindings) → Checked before cs v env
  checks_claim [] before v env e has others settled within known leads = refl
  checks_claim (c ∷ cs) before v env e has others settled within known leads =
      one_check before c.negated c.test cs v env (λ before' env'. checks_claim cs before' v env') e has others settled within known leads
