-- What a constraint asks, found out without a value.
use Rattle.std.proofs.Common.{◌≡◌, ◌∙◌, ◌&&◌, ◌||◌, ℕ, Bool, true, false, IfOk, IfSome, List, [], ◌∷◌, Option, None, Some, Result, Ok, Err, ap, refl, sym}
use Rattle.std.specs.List.{list_any}
use Rattle.std.specs.Option.{option_and_then, option_map_or}
use Rattle.cb_constraints.specs.Binders.{constraints_in}
use Rattle.cb_constraints.specs.Constraints.{Test, constant, variable, predicate, return_value, Check}
use Rattle.cb_constraints.specs.Holding.{Follows, MeetsIn, constant_holds, constants_hold, is_constant, provided}
use Rattle.cb_constraints.specs.Internal.Asking.{HoldsOfAll, lone}
use Rattle.cb_constraints.specs.Internal.Known.{bindings_before}
use Rattle.cb_constraints.specs.Internal.Places.{first_place}
use Rattle.cb_constraints.specs.PatternValues.{PatternParts}
use Rattle.cb_constraints.proofs.KnownLaws.{first_at_place}
use Rattle.cb_eval.specs.Comparison.{same}
use Rattle.cb_exprs.specs.Bindings.{Bindings, value_at, with_variable}
use Rattle.cb_facts.specs.declared.value.Value.{Value}

neither : (a b : Bool) → a || b ≡ false → (a ≡ false) × (b ≡ false)
neither true b e = let never : true ≡ false = e in cc
neither false b e = (refl, e)

test-aside : (negated : Bool) (t : Test) (v : Value) → is_constant t ≡ false → constant_holds v negated t ≡ true
test-aside negated (constant w) v e = let never : true ≡ false = e in cc
test-aside negated (variable x) v e = refl
test-aside negated (predicate t) v e = refl
test-aside negated (return_value t) v e = refl

-- checks of which none is for a constant hold as far as constants go
pub without_constants : (cs : List Check) (v : Value) → list_any (λ c. is_constant c.test) cs ≡ false → constants_hold v cs ≡ true
without_constants [] v e = refl
without_constants (c ∷ cs) v e =
    let w = neither (is_constant c.test) (list_any (λ d. is_constant d.test) cs) e in
    ap (λ b. b && constants_hold v cs) (test-aside c.negated c.test v w.0) ∙ without_constants cs v w.1

-- a variable that has no value before its first place takes any
takes : (x : List ℕ) (v : Value) (before : ℕ → Bindings) → value_at x (before 0).variables ≡ None → Follows before (lone x) v → MeetsIn true before (lone x) v
takes x v before none follows = by (value_at x (before 0).variables) none follows.0
  where
    after : Option Value → Option Bindings
    after o = option_map_or (λ w. provided (same v w) (before 0)) o (Some (with_variable x v (before 0)))

    by : (o : Option Value) → o ≡ None → IfSome (after o) (λ grown. before 1 ≡ grown) → option_and_then (λ env. Some env) (after o) ≡ Some (before 1)
    by None e f = ap (λ env. Some env) (sym f)
    by (Some w) e f = let never : None ≡ Some w = sym e in cc

pub lone_holds : (x : List ℕ) (parts : PatternParts) (n : ℕ) (before : Bindings) → first_place x (constraints_in parts) ≡ Some (record { constraint = n; check = 0 }) → value_at x before.variables ≡ None
    → HoldsOfAll parts n before (lone x)
lone_holds x parts n before first none vs v is follows =
    takes x v (bindings_before (constraints_in parts) vs v before)
    (first_at_place x (constraints_in parts) vs v before 0 (first ∙ ap (λ k. Some (record { constraint = k; check = 0 })) (sym is)) ∙ none) follows

pub ok-then : {X E : Type 0} {P Q : X → Type 0} (r : Result X E) → ((x : X) → P x → Q x) → IfOk r P → IfOk r Q
ok-then (Ok x) f p = f x p
ok-then (Err e) f p = tt
