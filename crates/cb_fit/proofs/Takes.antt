-- What a returned place and a returned answer say.
use Rattle.std.proofs.Common.{◌≡◌, ◌∙◌, ◌&&◌, Bool, true, false, List, [], ◌∷◌, Option, None, Some, Result, Ok, Err, IfOk, OnOk, ap, refl, rules, sym}
use Rattle.std.specs.Option.{option_and_then}
use Rattle.cb_constraints.specs.Constraints.{Constraint}
use Rattle.cb_constraints.specs.Holding.{Meets, after_demand, may_hold}
use Rattle.cb_constraints.proofs.HoldingLaws.{holds-may}
use Rattle.cb_exprs.specs.Bindings.{Bindings}
use Rattle.cb_facts.specs.Values.{value_of_field}
use Rattle.cb_facts.specs.declared.single.Single.{Single}
use Rattle.cb_facts.specs.declared.value.Value.{Value}
use Rattle.cb_constraints.specs.Internal.RowFields.{IsFirst}
use Rattle.cb_fit.specs.Internal.{after_ones, may_take}

pub is-met : (b : Bool) (env : Bindings) (after : Option Bindings) → b ≡ true → Meets b env after → after ≡ Some env
is-met true env after e h = h
is-met false env after e h = search rules

pub not-met : (b : Bool) (env : Bindings) (after : Option Bindings) → b ≡ false → Meets b env after → after ≡ None
not-met false env after e h = h
not-met true env after e h = let never : true ≡ false = e in cc

pub on-ok : {A E P Q : Type 0} (r : Result A E) → (P → Q) → OnOk r P → OnOk r Q
on-ok (Ok x) f h = f h
on-ok (Err e) f h = h

pub ok-then : {A E : Type 0} (r : Result A E) {P Q : A → Type 0} → ((a : A) → P a → Q a) → IfOk r P → IfOk r Q
ok-then (Ok a) f h = f a h
ok-then (Err e) f h = h

pub ok-with : {A E : Type 0} (r : Result A E) {P Q R : A → Type 0} → ((a : A) → P a → Q a → R a) → IfOk r P → IfOk r Q → IfOk r R
ok-with (Ok a) f h i = f a h i
ok-with (Err e) f h i = h

pub ok-same : {A E X : Type 0} (r : Result A E) (f : A → X) {x y : X} → x ≡ y → IfOk r (λ a. f a ≡ x) → IfOk r (λ a. f a ≡ y)
ok-same (Ok a) f e h = h ∙ e
ok-same (Err b) f e h = h

-- what constants rule out takes nothing
pub nothing-taken : (cs : List Constraint) (fs : List Single) (env : Bindings) → may_take cs fs ≡ false → after_ones cs fs env ≡ None
nothing-taken [] fs env e = let never : true ≡ false = e in cc
nothing-taken (c ∷ cs) [] env e = refl
nothing-taken (c ∷ cs) (f ∷ fs) env e = by (after_demand c.demand (value_of_field f) env) (λ g. holds-may c.demand (value_of_field f) env g) (λ g. nothing-taken cs fs g)
  where
    others : (a b : Bool) → a ≡ true → a && b ≡ false → b ≡ false
    others true b d h = h
    others false b d h = let never : false ≡ true = d in cc

    by : (o : Option Bindings) → ((g : Bindings) → o ≡ Some g → may_hold c.demand (value_of_field f) ≡ true) → ((g : Bindings) → may_take cs fs ≡ false → after_ones cs fs g ≡ None)
        → option_and_then (after_ones cs fs) o ≡ None
    by None holds more = refl
    by (Some g) holds more = more g (others (may_hold c.demand (value_of_field f)) (may_take cs fs) (holds g refl) e)

both-true : (a b : Bool) → a && b ≡ true → (a ≡ true) × (b ≡ true)
both-true true b e = (refl, e)
both-true false b e = let never : false ≡ true = e in cc

-- what may take fields does so one by one
may-both : (c : Constraint) (cs : List Constraint) (v : Value) (others fields : List Single) → IsFirst v others fields → may_take (c ∷ cs) fields ≡ true → (may_hold c.demand v ≡ true) × (may_take cs others ≡ true)
may-both c cs v others fields first e =
    let both = both-true (may_hold c.demand (value_of_field first.0)) (may_take cs others) (sym (ap (may_take (c ∷ cs)) first.1) ∙ e) in
    (ap (may_hold c.demand) first.2 ∙ both.0, both.1)

pub may_others : (c : Constraint) (cs : List Constraint) (v : Value) (others fields : List Single) → IsFirst v others fields → may_take (c ∷ cs) fields ≡ true → may_take cs others ≡ true
may_others c cs v others fields first e = (may-both c cs v others fields first e).1
