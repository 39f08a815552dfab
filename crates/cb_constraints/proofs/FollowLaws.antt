-- What variables have before each check is what the checks before it leave.
use Rattle.std.proofs.Common.{arith, ◌≡◌, ◌∙◌, ◌++◌, ◌+◌, ℕ, zero, suc, Bool, true, false, IfSome, List, [], ◌∷◌, Option, None, Some, ap, drop, length, refl, sym, take}
use Rattle.std.proofs.lemmas.List.{append-nil}
use Rattle.std.specs.Option.{option_map_or}
use Rattle.cb_constraints.specs.Binders.{binder, binders, binders_of}
use Rattle.cb_constraints.specs.Internal.Places.{binders_before}
use Rattle.cb_constraints.specs.Constraints.{Test, constant, variable, predicate, return_value, Check, Demand, nothing, each, either, Constraint}
use Rattle.cb_constraints.specs.Holding.{FollowFrom, Follows, after_check, after_test, after_variable, checks_in, opposite_if, provided, test_holds}
use Rattle.cb_constraints.specs.Internal.Known.{given_to, given_to_all, bindings_after, bindings_before}
use Rattle.cb_eval.specs.Comparison.{same}
use Rattle.cb_exprs.specs.Bindings.{Bindings, value_at, with_variable}
use Rattle.cb_facts.specs.declared.value.Value.{Value}

if-some : (o : Option Bindings) (P : Bindings → Type 0) → ((g : Bindings) → o ≡ Some g → P g) → IfSome o P
if-some None P f = tt
if-some (Some g) P f = f g refl

same-one : (a b : Bindings) → Some a ≡ Some b → a ≡ b
same-one a b d = cc

as-it-was : (t : Bool) (env grown : Bindings) → provided t env ≡ Some grown → env ≡ grown
as-it-was true env grown e = same-one env grown e
as-it-was false env grown e = absurd (apart e)
  where
    apart : None ≡ Some grown → ⊥
    apart d = cc

variable-given : (x : List ℕ) (v : Value) (env grown : Bindings) → after_variable x v env ≡ Some grown → given_to x v env ≡ grown
variable-given x v env grown e = by (value_at x env.variables) e
  where
    by : (o : Option Value) → option_map_or (λ w. provided (same v w) env) o (Some (with_variable x v env)) ≡ Some grown → option_map_or (λ w. env) o (with_variable x v env) ≡ grown
    by None d = same-one (with_variable x v env) grown d
    by (Some w) d = as-it-was (same v w) env grown d

test-given : (negated : Bool) (t : Test) (v : Value) (env grown : Bindings) → after_test negated t v env ≡ Some grown → given_to_all (binder negated t) v env ≡ grown
test-given false (variable x) v env grown e = variable-given x v env grown e
test-given false (constant w) v env grown e = as-it-was (opposite_if false (test_holds (constant w) v env)) env grown e
test-given false (predicate t) v env grown e = as-it-was (opposite_if false (test_holds (predicate t) v env)) env grown e
test-given false (return_value t) v env grown e = as-it-was (opposite_if false (test_holds (return_value t) v env)) env grown e
test-given true (variable x) v env grown e = as-it-was (opposite_if true (test_holds (variable x) v env)) env grown e
test-given true (constant w) v env grown e = as-it-was (opposite_if true (test_holds (constant w) v env)) env grown e
test-given true (predicate t) v env grown e = as-it-was (opposite_if true (test_holds (predicate t) v env)) env grown e
test-given true (return_value t) v env grown e = as-it-was (opposite_if true (test_holds (return_value t) v env)) env grown e

given-both : (xs ys : List (List ℕ)) (v : Value) (env : Bindings) → given_to_all (xs ++ ys) v env ≡ given_to_all ys v (given_to_all xs v env)
given-both [] ys v env = refl
given-both (x ∷ xs) ys v env = given-both xs ys v (given_to x v env)

follow-checks : (cs : List Check) (n : ℕ) (before : ℕ → Bindings) (v : Value) (env : Bindings) → ((i : ℕ) → before (n + i) ≡ given_to_all (binders_of (take i cs)) v env) → FollowFrom before n cs v
follow-checks [] n before v env h = tt
follow-checks (c ∷ cs) n before v env h = (
  if-some (after_check c v (before n)) (λ grown. before (n + 1) ≡ grown)
      (λ grown e. next ∙ test-given c.negated c.test v env grown (ap (after_check c v) (sym first) ∙ e)),
  follow-checks cs (n + 1) before v (given_to_all (binder c.negated c.test) v env)
      (λ i. ap before (moved i) ∙ (h (suc i) ∙ given-both (binder c.negated c.test) (binders_of (take i cs)) v env)),
)
  where
    first : before n ≡ env
    first = ap before (omega arith) ∙ h zero

    next : before (n + 1) ≡ given_to_all (binder c.negated c.test) v env
    next = h 1 ∙ ap (λ xs. given_to_all xs v env) (append-nil (binder c.negated c.test))

    moved : (i : ℕ) → n + 1 + i ≡ n + suc i
    moved i = omega arith

no-binders : (d : Demand) → binders_before 0 d ≡ []
no-binders nothing = refl
no-binders (each cs) = refl
no-binders (either None alternatives) = refl
no-binders (either (Some x) alternatives) = refl

take-all : (cs : List Check) → take (length cs) cs ≡ cs
take-all [] = refl
take-all (c ∷ cs) = ap (λ ds. c ∷ ds) (take-all cs)

all-binders : (d : Demand) → binders_before (checks_in d) d ≡ binders d
all-binders nothing = refl
all-binders (each cs) = ap binders_of (take-all cs)
all-binders (either None alternatives) = refl
all-binders (either (Some x) alternatives) = refl

follow-demand : (d : Demand) (before : ℕ → Bindings) (v : Value) (env : Bindings) → ((i : ℕ) → before i ≡ given_to_all (binders_before i d) v env) → Follows before d v
follow-demand nothing before v env h = tt
follow-demand (each cs) before v env h = follow-checks cs 0 before v env (λ i. ap before (zero-and i) ∙ h i)
  where
    zero-and : (i : ℕ) → 0 + i ≡ i
    zero-and i = omega arith
follow-demand (either None alternatives) before v env h = tt
follow-demand (either (Some x) alternatives) before v env h =
    if-some (after_variable x v (before 0)) (λ grown. before 1 ≡ grown)
    (λ grown e. h 1 ∙ variable-given x v env grown (ap (after_variable x v) (sym (h 0)) ∙ e))

head-is : (c d : Constraint) (cs ds : List Constraint) → c ∷ cs ≡ d ∷ ds → c ≡ d
head-is c d cs ds e = cc

before-is : (cs : List Constraint) (vs : List Value) (v : Value) (env : Bindings) (i : ℕ) (c : Constraint) (rest : List Constraint)
    → drop (length vs) cs ≡ c ∷ rest → bindings_before cs vs v env i ≡ given_to_all (binders_before i c.demand) v (bindings_after cs vs env)
before-is [] [] v env i c rest e = absurd (apart e)
  where
    apart : [] ≡ c ∷ rest → ⊥
    apart d = cc
before-is [] (w ∷ ws) v env i c rest e = absurd (apart e)
  where
    apart : [] ≡ c ∷ rest → ⊥
    apart d = cc
before-is (b ∷ bs) [] v env i c rest e = ap (λ d. given_to_all (binders_before i d.demand) v env) (head-is b c bs rest e)
before-is (b ∷ bs) (w ∷ ws) v env i c rest e = before-is bs ws v (given_to_all (binders b.demand) w env) i c rest e

after-is : (cs : List Constraint) (vs : List Value) (v : Value) (env : Bindings) (c : Constraint) (rest : List Constraint)
    → drop (length vs) cs ≡ c ∷ rest → bindings_after cs (vs ++ v ∷ []) env ≡ given_to_all (binders c.demand) v (bindings_after cs vs env)
after-is [] [] v env c rest e = absurd (apart e)
  where
    apart : [] ≡ c ∷ rest → ⊥
    apart d = cc
after-is [] (w ∷ ws) v env c rest e = absurd (apart e)
  where
    apart : [] ≡ c ∷ rest → ⊥
    apart d = cc
after-is (b ∷ bs) [] v env c rest e = ended bs ∙ ap (λ d. given_to_all (binders d.demand) v env) (head-is b c bs rest e)
  where
    ended : (ds : List Constraint) → bindings_after ds [] (given_to_all (binders b.demand) v env) ≡ given_to_all (binders b.demand) v env
    ended [] = refl
    ended (d ∷ ds) = refl
after-is (b ∷ bs) (w ∷ ws) v env c rest e = after-is bs ws v (given_to_all (binders b.demand) w env) c rest e

-- where a constraint comes next, what variables have before its checks follows from them
pub known_follows : (cs : List Constraint) (vs : List Value) (v : Value) (env : Bindings) (c : Constraint) (rest : List Constraint)
    → drop (length vs) cs ≡ c ∷ rest → Follows (bindings_before cs vs v env) c.demand v
known_follows cs vs v env c rest e = follow-demand c.demand (bindings_before cs vs v env) v (bindings_after cs vs env) (λ i. before-is cs vs v env i c rest e)

-- and what they have before the first and after the last
pub known_first : (cs : List Constraint) (vs : List Value) (v : Value) (env : Bindings) (c : Constraint) (rest : List Constraint)
    → drop (length vs) cs ≡ c ∷ rest → bindings_before cs vs v env 0 ≡ bindings_after cs vs env
known_first cs vs v env c rest e = before-is cs vs v env 0 c rest e ∙ ap (λ xs. given_to_all xs v (bindings_after cs vs env)) (no-binders c.demand)

pub known_last : (cs : List Constraint) (vs : List Value) (v : Value) (env : Bindings) (c : Constraint) (rest : List Constraint)
    → drop (length vs) cs ≡ c ∷ rest → bindings_before cs vs v env (checks_in c.demand) ≡ bindings_after cs (vs ++ v ∷ []) env
known_last cs vs v env c rest e =
    before-is cs vs v env (checks_in c.demand) c rest e
    ∙ (ap (λ xs. given_to_all xs v (bindings_after cs vs env)) (all-binders c.demand)
    ∙ sym (after-is cs vs v env c rest e))
