-- Alternatives hold where there is one of which each check holds.
use Rattle.std.proofs.Common.{arith, ◌≡◌, ◌∙◌, ◌&&◌, ◌||◌, Bool, true, false, zero, suc, List, [], ◌∷◌, None, Some, ap, refl, subst, sym}
use Rattle.std.proofs.lemmas.List.Elements.{All-cons, All-head, All-nil, All-tail}
use Rattle.std.specs.List.{All, list_all}
use Rattle.cb_constraints.specs.Constraints.{Check}
use Rattle.cb_constraints.specs.Holding.{after_demand, check_holds, one_holds, provided}
use Rattle.cb_constraints.specs.Laws.{OneHolds, any_of_these}
use Rattle.cb_exprs.specs.Bindings.{Bindings}
use Rattle.cb_facts.specs.declared.value.Value.{Value}

abbrev Each : Value → Bindings → List Check → Type 0
Each v env cs = All (λ c. check_holds v env c ≡ true) cs

both-true : (a b : Bool) → a && b ≡ true → (a ≡ true) × (b ≡ true)
both-true true b e = (refl, e)
both-true false b e = let never : false ≡ true = e in cc

both : (a b : Bool) → a ≡ true → b ≡ true → a && b ≡ true
both a b e d = ap (λ x. x && b) e ∙ d

-- each check holds, said by one truth and of each
each-of : (v : Value) (env : Bindings) (cs : List Check) → list_all (check_holds v env) cs ≡ true → Each v env cs
each-of v env [] e = All-nil (λ c. check_holds v env c ≡ true)
each-of v env (c ∷ cs) e =
    let w = both-true (check_holds v env c) (list_all (check_holds v env) cs) e in
    All-cons (λ d. check_holds v env d ≡ true) c cs w.0 (each-of v env cs w.1)

all-of : (v : Value) (env : Bindings) (cs : List Check) → Each v env cs → list_all (check_holds v env) cs ≡ true
all-of v env [] h = refl
all-of v env (c ∷ cs) h = both (check_holds v env c) (list_all (check_holds v env) cs) (All-head (λ d. check_holds v env d ≡ true) c cs h) (all-of v env cs (All-tail (λ d. check_holds v env d ≡ true) c cs h))

-- one of the alternatives holds
either-true : (a b : Bool) → b ≡ true → a || b ≡ true
either-true true b e = refl
either-true false b e = e

one-of : (alternatives : List (List Check)) (v : Value) (env : Bindings) → OneHolds alternatives v env → one_holds alternatives v env ≡ true
one-of [] v env (cs, (k, lt, e), all) = absurd (omega arith)
one-of (d ∷ ds) v env (cs, (zero, lt, e), all) = ap (λ b. b || one_holds ds v env) (all-of v env d (subst (Each v env) (sym e) all))
one-of (d ∷ ds) v env (cs, (suc k, lt, e), all) = either-true (list_all (check_holds v env) d) (one_holds ds v env) (one-of ds v env (cs, (k, omega arith, e), all))

there-is : (alternatives : List (List Check)) (v : Value) (env : Bindings) → one_holds alternatives v env ≡ true → OneHolds alternatives v env
there-is [] v env e = let never : false ≡ true = e in cc
there-is (d ∷ ds) v env e = by (list_all (check_holds v env) d) refl e (λ i. there-is ds v env i)
  where
    by : (b : Bool) → list_all (check_holds v env) d ≡ b → b || one_holds ds v env ≡ true → (one_holds ds v env ≡ true → OneHolds ds v env) → OneHolds (d ∷ ds) v env
    by true h i later = (d, (zero, omega arith, refl), each-of v env d h)
    by false h i later = let w = later i in let at = w.1 in let lt = at.1 in (w.0, (suc at.0, omega arith, at.2), w.2)

pub one-enough : (alternatives : List (List Check)) (v : Value) (env : Bindings) → OneHolds alternatives v env → after_demand (any_of_these alternatives) v env ≡ Some env
one-enough alternatives v env h = ap (λ b. provided b env) (one-of alternatives v env h)

pub none-fails : (alternatives : List (List Check)) (v : Value) (env : Bindings) → (OneHolds alternatives v env → ⊥) → after_demand (any_of_these alternatives) v env ≡ None
none-fails alternatives v env h = by (one_holds alternatives v env) (λ e. there-is alternatives v env e)
  where
    by : (b : Bool) → (b ≡ true → OneHolds alternatives v env) → provided b env ≡ None
    by true f = absurd (h (f refl))
    by false f = refl

pub only-by-one : (alternatives : List (List Check)) (v : Value) (env grown : Bindings) → after_demand (any_of_these alternatives) v env ≡ Some grown → OneHolds alternatives v env
only-by-one alternatives v env grown e = by (one_holds alternatives v env) (λ h. there-is alternatives v env h) e
  where
    by : (b : Bool) → (b ≡ true → OneHolds alternatives v env) → provided b env ≡ Some grown → OneHolds alternatives v env
    by true f h = f refl
    by false f h = absurd (apart h)
      where
        apart : None ≡ Some grown → ⊥
        apart d = cc
