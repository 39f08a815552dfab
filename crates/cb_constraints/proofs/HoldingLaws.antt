-- A constraint that holds may hold.
use Rattle.std.proofs.Common.{◌≡◌, ◌∙◌, ◌&&◌, ◌||◌, ℕ, IfSome, is_some, Bool, true, false, List, [], ◌∷◌, Option, None, Some, ap, not, refl, subst, sym}
use Rattle.std.specs.List.{list_all, list_any}
use Rattle.std.specs.Option.{option_and_then, option_map_or}
use Rattle.cb_constraints.specs.Constraints.{Test, constant, variable, predicate, return_value, Check, Demand, nothing, each, either}
use Rattle.cb_constraints.specs.Holding.{Meets, after_check, after_checks, after_demand, after_test, check_holds, constant_holds, constants_hold, is_constant, may_hold, one_holds, opposite_if, provided, after_variable, test_holds}
use Rattle.cb_constraints.specs.Internal.{are_of_constants, is_of_constants}
use Rattle.cb_eval.specs.Comparison.{same}
use Rattle.cb_exprs.specs.Bindings.{Bindings, value_at, with_variable}
use Rattle.cb_facts.specs.declared.value.Value.{Value}

provided-if : (t : Bool) (env grown : Bindings) → provided t env ≡ Some grown → t ≡ true
provided-if true env grown e = refl
provided-if false env grown e = absurd (apart e)
  where
    apart : None ≡ Some grown → ⊥
    apart d = cc

then-some : (next : Bindings → Option Bindings) (o : Option Bindings) (y : Bindings) → option_and_then next o ≡ Some y → (x : Bindings) × (o ≡ Some x) × (next x ≡ Some y)
then-some next None y e = absurd (apart e)
  where
    apart : None ≡ Some y → ⊥
    apart d = cc
then-some next (Some x) y e = (x, refl, e)

test-may : (negated : Bool) (t : Test) (v : Value) (env grown : Bindings) → after_test negated t v env ≡ Some grown → constant_holds v negated t ≡ true
test-may true (constant w) v env grown e = provided-if (opposite_if true (test_holds (constant w) v env)) env grown e
test-may false (constant w) v env grown e = provided-if (opposite_if false (test_holds (constant w) v env)) env grown e
test-may negated (variable x) v env grown e = refl
test-may negated (predicate t) v env grown e = refl
test-may negated (return_value t) v env grown e = refl

both : (a b : Bool) → a ≡ true → b ≡ true → a && b ≡ true
both a b e d = ap (λ x. x && b) e ∙ d

checks-may : (cs : List Check) (v : Value) (env grown : Bindings) → after_checks cs v env ≡ Some grown → constants_hold v cs ≡ true
checks-may [] v env grown e = refl
checks-may (c ∷ cs) v env grown e =
    let w = then-some (after_checks cs v) (after_check c v env) grown e in
    both (constant_holds v c.negated c.test) (constants_hold v cs) (test-may c.negated c.test v env w.0 w.1) (checks-may cs v w.0 grown w.2)

one-may : (negated : Bool) (t : Test) (v : Value) (env : Bindings) → opposite_if negated (test_holds t v env) ≡ true → constant_holds v negated t ≡ true
one-may negated (constant w) v env e = e
one-may negated (variable x) v env e = refl
one-may negated (predicate t) v env e = refl
one-may negated (return_value t) v env e = refl

both-true : (a b : Bool) → a && b ≡ true → (a ≡ true) × (b ≡ true)
both-true true b e = (refl, e)
both-true false b e = let never : false ≡ true = e in cc

all-may : (cs : List Check) (v : Value) (env : Bindings) → list_all (check_holds v env) cs ≡ true → constants_hold v cs ≡ true
all-may [] v env e = refl
all-may (c ∷ cs) v env e =
    let w = both-true (check_holds v env c) (list_all (check_holds v env) cs) e in
    both (constant_holds v c.negated c.test) (constants_hold v cs) (one-may c.negated c.test v env w.0) (all-may cs v env w.1)

or-kept : (a b c d : Bool) → (a ≡ true → c ≡ true) → (b ≡ true → d ≡ true) → a || b ≡ true → c || d ≡ true
or-kept true b c d f g e = ap (λ x. x || d) (f refl)
or-kept false b true d f g e = refl
or-kept false b false d f g e = g e

any-may : (alternatives : List (List Check)) (v : Value) (env : Bindings) → one_holds alternatives v env ≡ true → list_any (constants_hold v) alternatives ≡ true
any-may [] v env e = e
any-may (cs ∷ more) v env e =
    or-kept (list_all (check_holds v env) cs) (one_holds more v env) (constants_hold v cs) (list_any (constants_hold v) more) (all-may cs v env) (any-may more v env) e

pub holds-may : (d : Demand) (v : Value) (env grown : Bindings) → after_demand d v env ≡ Some grown → may_hold d v ≡ true
holds-may nothing v env grown e = refl
holds-may (each cs) v env grown e = checks-may cs v env grown e
holds-may (either None alternatives) v env grown e = any-may alternatives v env (provided-if (one_holds alternatives v env) env grown e)
holds-may (either (Some x) alternatives) v env grown e =
    let w = then-some (λ mid. provided (one_holds alternatives v mid) mid) (after_variable x v env) grown e in
    any-may alternatives v w.0 (provided-if (one_holds alternatives v w.0) w.0 grown w.2)

pub never_holds : (d : Demand) (v : Value) (env : Bindings) → may_hold d v ≡ false → after_demand d v env ≡ None
never_holds d v env e = by (after_demand d v env) (λ g. holds-may d v env g)
  where
    by : (o : Option Bindings) → ((g : Bindings) → o ≡ Some g → may_hold d v ≡ true) → o ≡ None
    by None may = refl
    by (Some g) may = let never : false ≡ true = sym e ∙ may g refl in cc

-- a check for a constant that holds changes nothing
pub constant_is_met : (negated : Bool) (w v : Value) (env : Bindings) → opposite_if negated (same v w) ≡ true → after_test negated (constant w) v env ≡ Some env
constant_is_met true w v env e = ap (λ t. provided t env) e
constant_is_met false w v env e = ap (λ t. provided t env) e

pub first_holds : (c : Check) (cs : List Check) (v : Value) → constants_hold v (c ∷ cs) ≡ true → constant_holds v c.negated c.test ≡ true
first_holds c cs v e = (both-true (constant_holds v c.negated c.test) (constants_hold v cs) e).0

pub others_hold : (c : Check) (cs : List Check) (v : Value) → constants_hold v (c ∷ cs) ≡ true → constants_hold v cs ≡ true
others_hold c cs v e = (both-true (constant_holds v c.negated c.test) (constants_hold v cs) e).1

-- where all are constants, they decide
test-decides : (negated : Bool) (t : Test) (v : Value) (env : Bindings) → is_constant t ≡ true → opposite_if negated (test_holds t v env) ≡ constant_holds v negated t
test-decides negated (constant w) v env e = refl
test-decides negated (variable x) v env e = let never : false ≡ true = e in cc
test-decides negated (predicate t) v env e = let never : false ≡ true = e in cc
test-decides negated (return_value t) v env e = let never : false ≡ true = e in cc

checks-decide : (cs : List Check) (v : Value) (env : Bindings) → is_of_constants cs ≡ true → list_all (check_holds v env) cs ≡ constants_hold v cs
checks-decide [] v env e = refl
checks-decide (c ∷ cs) v env e =
    let w = both-true (is_constant c.test) (is_of_constants cs) e in
    ap (λ t. t && list_all (check_holds v env) cs) (test-decides c.negated c.test v env w.0) ∙ ap (λ t. constant_holds v c.negated c.test && t) (checks-decide cs v env w.1)

pub constants_decide : (alternatives : List (List Check)) (v : Value) (env : Bindings) → are_of_constants alternatives ≡ true → one_holds alternatives v env ≡ list_any (constants_hold v) alternatives
constants_decide [] v env e = refl
constants_decide (cs ∷ more) v env e =
    let w = both-true (is_of_constants cs) (are_of_constants more) e in
    ap (λ t. t || one_holds more v env) (checks-decide cs v env w.0) ∙ ap (λ t. constants_hold v cs || t) (constants_decide more v env w.1)

-- a check holds just where the others joined to it by `&` are looked at
some-provided : (b : Bool) (env : Bindings) → is_some (provided b env) ≡ b
some-provided true env = refl
some-provided false env = refl

pub held_if_some : (c : Check) (v : Value) (env : Bindings) → is_some (after_check c v env) ≡ check_holds v env c
held_if_some c v env = of c.negated c.test
  where
    agreed : (x : List ℕ) (o : Option Value) → is_some (option_map_or (λ w. provided (same v w) env) o (Some (with_variable x v env))) ≡ option_map_or (same v) o true
    agreed x None = refl
    agreed x (Some w) = some-provided (same v w) env

    of : (negated : Bool) (t : Test) → is_some (after_test negated t v env) ≡ opposite_if negated (test_holds t v env)
    of true (constant w) = some-provided (not (same v w)) env
    of true (variable x) = some-provided (not (option_map_or (same v) (value_at x env.variables) true)) env
    of true (predicate e) = some-provided (opposite_if true (test_holds (predicate e) v env)) env
    of true (return_value e) = some-provided (opposite_if true (test_holds (return_value e) v env)) env
    of false (constant w) = some-provided (same v w) env
    of false (variable x) = agreed x (value_at x env.variables)
    of false (predicate e) = some-provided (test_holds (predicate e) v env) env
    of false (return_value e) = some-provided (test_holds (return_value e) v env) env

-- a variable set apart agrees, and then an alternative has to hold
pub set_apart_meets : (x : List ℕ) (alternatives : List (List Check)) (v : Value) (before : ℕ → Bindings) (holds : Bool)
    → is_some (after_variable x v (before 0)) ≡ true → IfSome (after_variable x v (before 0)) (λ grown. before 1 ≡ grown) → holds ≡ one_holds alternatives v (before 1)
    → Meets holds (before 1) (after_demand (either (Some x) alternatives) v (before 0))
set_apart_meets x alternatives v before holds some follows is = by (after_variable x v (before 0)) some follows
  where
    given : (b : Bool) → Meets b (before 1) (provided b (before 1))
    given true = refl
    given false = refl

    by : (o : Option Bindings) → is_some o ≡ true → IfSome o (λ grown. before 1 ≡ grown)
        → Meets holds (before 1) (option_and_then (λ grown. provided (one_holds alternatives v grown) grown) o)
    by None e f = let never : false ≡ true = e in cc
    by (Some grown) e f =
        subst (λ g. Meets holds (before 1) (provided (one_holds alternatives v g) g)) f
        (subst (λ b. Meets holds (before 1) (provided b (before 1))) is (given holds))
