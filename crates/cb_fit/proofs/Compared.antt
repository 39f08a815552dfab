-- What a comparison of a field with a variable asks.
use Rattle.std.proofs.Common.{◌≡◌, ◌∙◌, ◌&&◌, ◌⊎◌, inl, inr, ℕ, Bool, true, false, not, List, [], ◌∷◌, Option, Some, None, Result, Ok, Err, ap, ap₂, refl, sym, if◌then◌else◌}
use Rattle.std.specs.Option.{ok_or, option_and_then, option_map_or, option_or}
use Rattle.cb_constraints.specs.Constraints.{Test, constant, variable, predicate, return_value}
use Rattle.cb_constraints.specs.Holding.{opposite_if, test_holds, value_if_any}
use Rattle.cb_eval.specs.Applied.{applied}
use Rattle.cb_eval.specs.Comparison.{Comparator, all_same, compared, first_differs, greater, greater_or_equal, less, less_or_equal, of_integers, same}
use Rattle.cb_eval.specs.Constants.{truth}
use Rattle.cb_eval.specs.Logic.{decides, is_true}
use Rattle.cb_fit.specs.Comparisons.{WithConstant, WithVariable, both_integers, compared_call, compared_term, compared_test, compares, comparison_of, constant_of, integer_so, limited_arguments, limited_call, limited_term, limited_test, turned, variable_of, with_arguments, with_constant, with_other}
use Rattle.cb_fit.specs.Plain.{is_named}
use Rattle.cb_fit.specs.declared.comparison.Comparison.{Comparison}
use Rattle.cb_fit.specs.declared.comparison.Comparison.TheVariants as k
use Rattle.cb_eval.specs.Evaluation.{value_of}
use Rattle.cb_exprs.specs.Bindings.{Bindings, value_at}
use Rattle.cb_exprs.specs.Terms.{Term, Terms, no_terms, term}
use Rattle.cb_exprs.specs.Terms as expression
use Rattle.cb_facts.proofs.Equality.{value-Decides}
use Rattle.cb_facts.specs.Results.{and_then}
use Rattle.cb_facts.specs.declared.value.Value.{Value}
use Rattle.cb_facts.specs.declared.value.Value.TheVariants as v
use Rattle.cb_forms.specs.declared.fault.Fault.{Fault}
use Rattle.cb_forms.specs.declared.fault.Fault.TheVariants.{UnboundVariable}
use Rattle.cb_words.specs.declared.words.Function.{Function}
use Rattle.cb_words.specs.declared.words.Function.TheVariants as function

-- the field is compared with the value of a variable, if that has one
abbrev pub compares_known : Comparison → Value → Option Value → Bool
compares_known c v o = option_map_or (compares c v) o false

-- a call holds
abbrev held : Result Value Fault → Bool
held r = option_map_or is_true (value_if_any r) false

truth_is : (t : Bool) → is_true (truth t) ≡ t
truth_is true = refl
truth_is false = refl

and_true : (t : Bool) → t && true ≡ t
and_true true = refl
and_true false = refl

pub same_turned : (a b : Value) → same a b ≡ same b a
same_turned a b = by (same a b) (same b a) (λ e. (value-Decides b a).1 (sym ((value-Decides a b).0 e))) (λ e. (value-Decides a b).1 (sym ((value-Decides b a).0 e)))
  where
    by : (s t : Bool) → (s ≡ true → t ≡ true) → (t ≡ true → s ≡ true) → s ≡ t
    by true t f g = sym (f refl)
    by false true f g = g refl
    by false false f g = refl

-- two integers in an order
in_order_held : (order : Comparator) (a b : Value) → held (compared order (a ∷ b ∷ [])) ≡ both_integers order a b
in_order_held order (v.Symbol s) b = refl
in_order_held order (v.Str s) b = refl
in_order_held order (v.Fact s) b = refl
in_order_held order (v.Multi s) b = refl
in_order_held order (v.Int n) (v.Symbol s) = refl
in_order_held order (v.Int n) (v.Str s) = refl
in_order_held order (v.Int n) (v.Fact s) = refl
in_order_held order (v.Int n) (v.Multi s) = refl
in_order_held order (v.Int n) (v.Int m) = truth_is (order n m && true) ∙ and_true (order n m)

-- two integers that pass a test of values
tested_held : (test : List Value → Bool) (a b : Value) → held (of_integers test (a ∷ b ∷ [])) ≡ both_integers (λ n m. true) a b && test (a ∷ b ∷ [])
tested_held test (v.Symbol s) b = refl
tested_held test (v.Str s) b = refl
tested_held test (v.Fact s) b = refl
tested_held test (v.Multi s) b = refl
tested_held test (v.Int n) (v.Symbol s) = refl
tested_held test (v.Int n) (v.Str s) = refl
tested_held test (v.Int n) (v.Fact s) = refl
tested_held test (v.Int n) (v.Multi s) = refl
tested_held test (v.Int n) (v.Int m) = truth_is (test (v.Int n ∷ v.Int m ∷ []))

both_same : (a b : Value) → all_same (a ∷ b ∷ []) ≡ same a b
both_same a b = and_true (same b a) ∙ same_turned b a

both_differ : (a b : Value) → first_differs (a ∷ b ∷ []) ≡ not (same a b)
both_differ a b = and_true (not (same b a)) ∙ ap not (same_turned b a)

-- a call of two values, of which neither decides it
abbrev of_two : Function → Result Value Fault → Result Value Fault → Result Value Fault
of_two f r s = and_then (and_then r (λ a. if decides f a then Ok (a ∷ []) else and_then s (λ b. if decides f b then Ok (a ∷ b ∷ []) else Ok (a ∷ b ∷ [])))) (applied f)

-- both have values, and these are compared
abbrev compare_both : Comparison → Option Value → Option Value → Bool
compare_both c o p = option_map_or (λ a. option_map_or (compares c a) p false) o false

two_values : (f : Function) (c : Comparison) → ((a : Value) → decides f a ≡ false) → ((a b : Value) → held (applied f (a ∷ b ∷ [])) ≡ compares c a b) → (o p : Option Value)
    → held (of_two f (ok_or o UnboundVariable) (ok_or p UnboundVariable)) ≡ compare_both c o p
two_values f c never is None p = refl
two_values f c never is (Some a) None =
    ap (λ t. held (and_then (if t then Ok (a ∷ []) else Err UnboundVariable) (applied f))) (never a)
two_values f c never is (Some a) (Some b) =
    ap (λ t. held (and_then (if t then Ok (a ∷ []) else (if decides f b then Ok (a ∷ b ∷ []) else Ok (a ∷ b ∷ []))) (applied f))) (never a)
    ∙ (ap (λ t. held (and_then (if t then Ok (a ∷ b ∷ []) else Ok (a ∷ b ∷ [])) (applied f))) (never b) ∙ is a b)

inside : (c d : Comparison) → Some c ≡ Some d → c ≡ d
inside c d e = cc

call_held : (f : Function) (c : Comparison) → comparison_of f ≡ Some c → (o p : Option Value) → held (of_two f (ok_or o UnboundVariable) (ok_or p UnboundVariable)) ≡ compare_both c o p
call_held function.Less c e o p = two_values function.Less k.Less (λ a. refl) (in_order_held less) o p ∙ ap (λ d. compare_both d o p) (inside k.Less c e)
call_held function.LessOrEqual c e o p = two_values function.LessOrEqual k.LessOrEqual (λ a. refl) (in_order_held less_or_equal) o p ∙ ap (λ d. compare_both d o p) (inside k.LessOrEqual c e)
call_held function.Greater c e o p = two_values function.Greater k.Greater (λ a. refl) (in_order_held greater) o p ∙ ap (λ d. compare_both d o p) (inside k.Greater c e)
call_held function.GreaterOrEqual c e o p =
    two_values function.GreaterOrEqual k.GreaterOrEqual (λ a. refl) (in_order_held greater_or_equal) o p ∙ ap (λ d. compare_both d o p) (inside k.GreaterOrEqual c e)
call_held function.Equal c e o p =
    two_values function.Equal k.Equal (λ a. refl) (λ a b. tested_held all_same a b ∙ ap (λ t. both_integers (λ n m. true) a b && t) (both_same a b)) o p
    ∙ ap (λ d. compare_both d o p) (inside k.Equal c e)
call_held function.NotEqual c e o p =
    two_values function.NotEqual k.NotEqual (λ a. refl) (λ a b. tested_held first_differs a b ∙ ap (λ t. both_integers (λ n m. true) a b && t) (both_differ a b)) o p
    ∙ ap (λ d. compare_both d o p) (inside k.NotEqual c e)
call_held function.Eq c e o p = two_values function.Eq k.Same (λ a. refl) (λ a b. truth_is (all_same (a ∷ b ∷ [])) ∙ both_same a b) o p ∙ ap (λ d. compare_both d o p) (inside k.Same c e)
call_held function.Neq c e o p = two_values function.Neq k.Differs (λ a. refl) (λ a b. truth_is (first_differs (a ∷ b ∷ [])) ∙ both_differ a b) o p ∙ ap (λ d. compare_both d o p) (inside k.Differs c e)
call_held f c e o p = absurd (cc)

-- the second value first
never_so : (w : Value) → integer_so (λ m. false) w ≡ false
never_so (v.Symbol s) = refl
never_so (v.Str s) = refl
never_so (v.Int m) = refl
never_so (v.Fact s) = refl
never_so (v.Multi s) = refl

pub swapped : (order : Comparator) (a b : Value) → both_integers order a b ≡ both_integers (λ n m. order m n) b a
swapped order (v.Symbol s) b = sym (never_so b)
swapped order (v.Str s) b = sym (never_so b)
swapped order (v.Fact s) b = sym (never_so b)
swapped order (v.Multi s) b = sym (never_so b)
swapped order (v.Int n) b = refl

pub turned_compares : (c : Comparison) (a b : Value) → compares c a b ≡ compares (turned c) b a
turned_compares k.Less a b = swapped less a b
turned_compares k.LessOrEqual a b = swapped less_or_equal a b
turned_compares k.Greater a b = swapped greater a b
turned_compares k.GreaterOrEqual a b = swapped greater_or_equal a b
turned_compares k.Equal a b = ap₂ (λ s t. s && t) (swapped (λ n m. true) a b) (same_turned a b)
turned_compares k.NotEqual a b = ap₂ (λ s t. s && t) (swapped (λ n m. true) a b) (ap not (same_turned a b))
turned_compares k.Same a b = same_turned a b
turned_compares k.Differs a b = ap not (same_turned a b)

-- which variable a call compares the field with
abbrev IsPair : List (List ℕ) → Comparison → List ℕ → List ℕ → WithVariable → Type 0
IsPair own c x y r = ((is_named x own ≡ true) × ((c, y) ≡ r)) ⊎ ((is_named y own ≡ true) × ((turned c, x) ≡ r))

pair_of : (own : List (List ℕ)) (c : Comparison) (x y : List ℕ) (r : WithVariable) → with_other own c x y ≡ Some r → IsPair own c x y r
pair_of own c x y r e = by (is_named x own) (is_named y own) refl refl e
  where
    got : (a b : WithVariable) → Some a ≡ Some b → a ≡ b
    got a b d = cc

    by : (s t : Bool) → is_named x own ≡ s → is_named y own ≡ t → (if s then (if t then None else Some (c, y)) else (if t then Some (turned c, x) else None)) ≡ Some r → IsPair own c x y r
    by true true i j d = absurd (cc)
    by true false i j d = inl (i, got (c, y) r d)
    by false true i j d = inr (j, got (turned c, x) r d)
    by false false i j d = absurd (cc)

abbrev Arguments : List (List ℕ) → Option Comparison → Option (List ℕ) → Option (List ℕ) → WithVariable → Type 0
Arguments own o p q r = (c : Comparison) × (x y : List ℕ) × (o ≡ Some c) × (p ≡ Some x) × (q ≡ Some y) × (with_other own c x y ≡ Some r)

arguments_of : (own : List (List ℕ)) (o : Option Comparison) (p q : Option (List ℕ)) (r : WithVariable) → with_arguments own o p q ≡ Some r → Arguments own o p q r
arguments_of own (Some c) (Some x) (Some y) r e = (c, x, y, refl, refl, refl, e)
arguments_of own (Some c) (Some x) None r e = absurd (cc)
arguments_of own (Some c) None q r e = absurd (cc)
arguments_of own None p q r e = absurd (cc)

is_variable : (t : Term) (x : List ℕ) → variable_of t ≡ Some x → (env : Bindings) → value_of t env ≡ ok_or (value_at x env.variables) UnboundVariable
is_variable (expression.variable y) x e env = ap (λ z. ok_or (value_at z env.variables) UnboundVariable) (got y x e)
  where
    got : (a b : List ℕ) → Some a ≡ Some b → a ≡ b
    got a b d = cc
is_variable t x e env = absurd (cc)

-- the names are the field's own: each has its value
abbrev pub AreOwn : List (List ℕ) → Value → Bindings → Type 0
AreOwn own u env = (y : List ℕ) → is_named y own ≡ true → value_at y env.variables ≡ Some u

abbrev known_as : WithVariable → Value → Bindings → Bool
known_as r u env = compares_known r.0 u (value_at r.1 env.variables)

by_pair : (own : List (List ℕ)) (c : Comparison) (x y : List ℕ) (r : WithVariable) (u : Value) (env : Bindings) → AreOwn own u env → IsPair own c x y r
    → compare_both c (value_at x env.variables) (value_at y env.variables) ≡ known_as r u env
by_pair own c x y r u env has (inl i) =
    ap (λ o. compare_both c o (value_at y env.variables)) (has x i.0) ∙ ap (λ (s : WithVariable). known_as s u env) i.1
by_pair own c x y r u env has (inr i) =
    ap (compare_both c (value_at x env.variables)) (has y i.0) ∙ (by (value_at x env.variables) ∙ ap (λ (s : WithVariable). known_as s u env) i.1)
  where
    by : (o : Option Value) → compare_both c o (Some u) ≡ compares_known (turned c) u o
    by None = refl
    by (Some w) = turned_compares c w u

call_compares : (own : List (List ℕ)) (f : Function) (ts : Terms) (r : WithVariable) (u : Value) (env : Bindings) → compared_call own f ts ≡ Some r → AreOwn own u env
    → held (value_of (expression.call f ts) env) ≡ known_as r u env
call_compares own f no_terms r u env e has = absurd (cc)
call_compares own f (term t no_terms) r u env e has = absurd (cc)
call_compares own f (term t (term s no_terms)) r u env e has =
    let it = arguments_of own (comparison_of f) (variable_of t) (variable_of s) r e in
    ap₂ (λ (q z : Result Value Fault). held (of_two f q z)) (is_variable t it.1 it.4 env) (is_variable s it.2 it.5 env)
    ∙ (call_held f it.0 it.3 (value_at it.1 env.variables) (value_at it.2 env.variables) ∙ by_pair own it.0 it.1 it.2 r u env has (pair_of own it.0 it.1 it.2 r it.6))
call_compares own f (term t (term s (term w ws))) r u env e has = absurd (cc)

term_compares : (own : List (List ℕ)) (t : Term) (r : WithVariable) (u : Value) (env : Bindings) → compared_term own t ≡ Some r → AreOwn own u env → held (value_of t env) ≡ known_as r u env
term_compares own (expression.call f ts) r u env e has = call_compares own f ts r u env e has
term_compares own t r u env e has = absurd (cc)

-- a test that compares holds where the comparison does
pub test_compares : (own : List (List ℕ)) (negated : Bool) (t : Test) (r : WithVariable) (u : Value) (env : Bindings) → compared_test own negated t ≡ Some r → AreOwn own u env
    → opposite_if negated (test_holds t u env) ≡ compares_known r.0 u (value_at r.1 env.variables)
test_compares own true (variable x) r u env e has = by (value_at x env.variables) ∙ ap (λ (s : WithVariable). known_as s u env) (got e)
  where
    got : Some (k.Differs, x) ≡ Some r → (k.Differs, x) ≡ r
    got d = cc

    by : (o : Option Value) → not (option_map_or (same u) o true) ≡ compares_known k.Differs u o
    by None = refl
    by (Some w) = refl
test_compares own false (predicate t) r u env e has = term_compares own t r u env e has
test_compares own true (constant w) r u env e has = absurd (cc)
test_compares own false (constant w) r u env e has = absurd (cc)
test_compares own false (variable x) r u env e has = absurd (cc)
test_compares own true (predicate t) r u env e has = absurd (cc)
test_compares own true (return_value t) r u env e has = absurd (cc)
test_compares own false (return_value t) r u env e has = absurd (cc)

-- the field's value is compared with a constant
abbrev pub limit_one : Value → WithConstant → Bool
limit_one u r = compares r.0 u r.1

is_constant : (t : Term) (w : Value) → constant_of t ≡ Some w → (env : Bindings) → value_of t env ≡ ok_or (Some w) UnboundVariable
is_constant (expression.constant v) w e env = ap (λ o. ok_or o UnboundVariable) e
is_constant t w e env = absurd (cc)

-- which constant a call compares the field with
abbrev Limited : List (List ℕ) → Comparison → Option (List ℕ) → Option Value → WithConstant → Type 0
Limited own c p q r = (x : List ℕ) × (w : Value) × (p ≡ Some x) × (q ≡ Some w) × (is_named x own ≡ true) × ((c, w) ≡ r)

limited_by : (own : List (List ℕ)) (c : Comparison) (p : Option (List ℕ)) (q : Option Value) (r : WithConstant) → with_constant own c p q ≡ Some r → Limited own c p q r
limited_by own c (Some x) (Some w) r e = by (is_named x own) refl e
  where
    got : (a b : WithConstant) → Some a ≡ Some b → a ≡ b
    got a b d = cc

    by : (s : Bool) → is_named x own ≡ s → (if s then Some (c, w) else None) ≡ Some r → Limited own c (Some x) (Some w) r
    by true i d = (x, w, refl, refl, i, got (c, w) r d)
    by false i d = absurd (cc)
limited_by own c (Some x) None r e = absurd (cc)
limited_by own c None q r e = absurd (cc)

field_first : (own : List (List ℕ)) (f : Function) (c : Comparison) (t s : Term) (r : WithConstant) (u : Value) (env : Bindings) → comparison_of f ≡ Some c → AreOwn own u env
    → Limited own c (variable_of t) (constant_of s) r → held (value_of (expression.call f (term t (term s no_terms))) env) ≡ limit_one u r
field_first own f c t s r u env is has (x, w, var, con, named, so) =
    ap₂ (λ (q z : Result Value Fault). held (of_two f q z)) (is_variable t x var env) (is_constant s w con env)
    ∙ (call_held f c is (value_at x env.variables) (Some w) ∙ (ap (λ o. compare_both c o (Some w)) (has x named) ∙ ap (limit_one u) so))

field_second : (own : List (List ℕ)) (f : Function) (c : Comparison) (t s : Term) (r : WithConstant) (u : Value) (env : Bindings) → comparison_of f ≡ Some c → AreOwn own u env
    → Limited own (turned c) (variable_of s) (constant_of t) r → held (value_of (expression.call f (term t (term s no_terms))) env) ≡ limit_one u r
field_second own f c t s r u env is has (x, w, var, con, named, so) =
    ap₂ (λ (q z : Result Value Fault). held (of_two f q z)) (is_constant t w con env) (is_variable s x var env)
    ∙ (call_held f c is (Some w) (value_at x env.variables) ∙ (ap (compare_both c (Some w)) (has x named) ∙ (turned_compares c w u ∙ ap (limit_one u) so)))

arguments_limited : (own : List (List ℕ)) (f : Function) (c : Comparison) (t s : Term) (r : WithConstant) (u : Value) (env : Bindings) → comparison_of f ≡ Some c → AreOwn own u env
    → limited_arguments own c t s ≡ Some r → held (value_of (expression.call f (term t (term s no_terms))) env) ≡ limit_one u r
arguments_limited own f c t s r u env is has e = by (with_constant own c (variable_of t) (constant_of s)) refl e
  where
    by : (o : Option WithConstant) → with_constant own c (variable_of t) (constant_of s) ≡ o → option_or o (with_constant own (turned c) (variable_of s) (constant_of t)) ≡ Some r
        → held (value_of (expression.call f (term t (term s no_terms))) env) ≡ limit_one u r
    by (Some l) i d = field_first own f c t s r u env is has (limited_by own c (variable_of t) (constant_of s) r (i ∙ d))
    by None i d = field_second own f c t s r u env is has (limited_by own (turned c) (variable_of s) (constant_of t) r d)

call_limited : (own : List (List ℕ)) (f : Function) (ts : Terms) (r : WithConstant) (u : Value) (env : Bindings) → limited_call own f ts ≡ Some r → AreOwn own u env
    → held (value_of (expression.call f ts) env) ≡ limit_one u r
call_limited own f no_terms r u env e has = absurd (cc)
call_limited own f (term t no_terms) r u env e has = absurd (cc)
call_limited own f (term t (term s no_terms)) r u env e has = by (comparison_of f) refl e
  where
    by : (o : Option Comparison) → comparison_of f ≡ o → option_and_then (λ c. limited_arguments own c t s) o ≡ Some r → held (value_of (expression.call f (term t (term s no_terms))) env) ≡ limit_one u r
    by None is d = absurd (cc)
    by (Some c) is d = arguments_limited own f c t s r u env is has d
call_limited own f (term t (term s (term w ws))) r u env e has = absurd (cc)

term_limited : (own : List (List ℕ)) (t : Term) (r : WithConstant) (u : Value) (env : Bindings) → limited_term own t ≡ Some r → AreOwn own u env → held (value_of t env) ≡ limit_one u r
term_limited own (expression.call f ts) r u env e has = call_limited own f ts r u env e has
term_limited own t r u env e has = absurd (cc)

-- a test that compares the field with a constant holds where the comparison does
pub test_limited : (own : List (List ℕ)) (negated : Bool) (t : Test) (r : WithConstant) (u : Value) (env : Bindings) → limited_test own negated t ≡ Some r → AreOwn own u env
    → opposite_if negated (test_holds t u env) ≡ limit_one u r
test_limited own false (predicate t) r u env e has = term_limited own t r u env e has
test_limited own true (predicate t) r u env e has = absurd (cc)
test_limited own negated (constant w) r u env e has = absurd (cc)
test_limited own negated (variable x) r u env e has = absurd (cc)
test_limited own negated (return_value t) r u env e has = absurd (cc)
