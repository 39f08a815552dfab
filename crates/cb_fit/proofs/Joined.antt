-- Where a pattern fits a fact, the fields that have to be equal to variables are.
use Rattle.std.proofs.Common.{◌≡◌, ◌∙◌, inl, inr, Bool, true, false, ℕ, List, [], ◌∷◌, None, Some, ap, subst, sym}
use Rattle.std.specs.List.{Contains}
use Rattle.std.specs.Option.{option_map_or}
use Rattle.cb_constraints.specs.Binders.{binder, binders, binders_of}
use Rattle.cb_constraints.specs.Constraints.{Test, constant, variable, predicate, return_value, Check, Demand, nothing, each, either}
use Rattle.cb_constraints.specs.Holding.{after_check, after_checks, after_demand, after_test, one_holds, provided, after_variable}
use Rattle.cb_constraints.specs.PatternValues.{PatternValue}
use Rattle.cb_eval.specs.Comparison.{same}
use Rattle.cb_exprs.specs.Bindings.{Bindings, value_at, with_variable}
use Rattle.cb_facts.specs.Facts.{FactValue}
use Rattle.cb_facts.proofs.Equality.{value-Decides}
use Rattle.cb_facts.specs.declared.value.Value.{Value}
use Rattle.cb_fit.proofs.AllGiven.{test-gives}
use Rattle.cb_fit.proofs.Listed.{Among, among-cases, among-contained, among-flat-back, among-map-back}
use Rattle.cb_fit.proofs.Alone.{parts_hold}
use Rattle.cb_fit.proofs.Related.{fitting}
use Rattle.cb_fit.proofs.Segments.{then-some}
use Rattle.cb_fit.proofs.WithoutVariables.{provided-if}
use Rattle.cb_fit.specs.FieldPlaces.{placed_demands}
use Rattle.cb_fit.specs.JoinFields.{demand_join_fields, join_fields, value_in}
use Rattle.cb_fit.specs.Ways.{WayValue, ways}
use Rattle.cb_fit.specs.declared.join_fields.JoinField.{JoinField}

-- a variable that has a value has this one
has_it : (x : List ℕ) (v w : Value) (env grown : Bindings) → after_variable x v env ≡ Some grown → value_at x env.variables ≡ Some w → v ≡ w
has_it x v w env grown e is =
    (value-Decides v w).0
    (provided-if (same v w) env grown (sym (ap (λ o. option_map_or (λ u. provided (same v u) env) o (Some (with_variable x v env))) is) ∙ e)).0

test_has : (negated : Bool) (t : Test) (x : List ℕ) (v w : Value) (env grown : Bindings) → after_test negated t v env ≡ Some grown → Among x (binder negated t) → value_at x env.variables ≡ Some w → v ≡ w
test_has false (variable y) x v w env grown e (inl i) is = has_it x v w env grown (subst (λ z. after_variable z v env ≡ Some grown) i e) is
test_has false (variable y) x v w env grown e (inr i) is = absurd i
test_has false (constant u) x v w env grown e i is = absurd i
test_has false (predicate u) x v w env grown e i is = absurd i
test_has false (return_value u) x v w env grown e i is = absurd i
test_has true (variable y) x v w env grown e i is = absurd i
test_has true (constant u) x v w env grown e i is = absurd i
test_has true (predicate u) x v w env grown e i is = absurd i
test_has true (return_value u) x v w env grown e i is = absurd i

checks_have : (cs : List Check) (x : List ℕ) (v w : Value) (env grown : Bindings) → after_checks cs v env ≡ Some grown → Among x (binders_of cs) → value_at x env.variables ≡ Some w → v ≡ w
checks_have [] x v w env grown e i is = absurd i
checks_have (c ∷ cs) x v w env grown e i is =
    let m = then-some (after_checks cs v) (after_check c v env) grown e in
    elim (among-cases x (binder c.negated c.test) (binders_of cs) i) as (λ _. v ≡ w) [
      | inl j ↦ test_has c.negated c.test x v w env m.0 m.1 j is
      | inr j ↦ checks_have cs x v w m.0 grown m.2 j ((test-gives c.negated c.test v env m.0 m.1).0 x w is)
    ]

demand_has : (d : Demand) (x : List ℕ) (v w : Value) (env grown : Bindings) → after_demand d v env ≡ Some grown → Among x (binders d) → value_at x env.variables ≡ Some w → v ≡ w
demand_has nothing x v w env grown e i is = absurd i
demand_has (each cs) x v w env grown e i is = checks_have cs x v w env grown e i is
demand_has (either None alternatives) x v w env grown e i is = absurd i
demand_has (either (Some y) alternatives) x v w env grown e (inr i) is = absurd i
demand_has (either (Some y) alternatives) x v w env grown e (inl i) is =
    let m = then-some (λ mid. provided (one_holds alternatives v mid) mid) (after_variable y v env) grown e in
    has_it x v w env m.0 (subst (λ z. after_variable z v env ≡ Some m.0) i m.1) is

pub fits_have : (p : PatternValue) (f : FactValue) (before : Bindings) (w : WayValue) → Contains (ways p f before) w
    → (j : JoinField) → Contains (join_fields p.parts) j → (v : Value) → value_at j.variable before.variables ≡ Some v → value_in j f.content ≡ Some v
fits_have p f before w h j i v is =
    let fits = fitting p f before w h in
    let from = among-flat-back demand_join_fields j (placed_demands p.parts) (among-contained j (join_fields p.parts) i) in
    let x = among-map-back (λ y. record { variable = y; slot = from.0.place.slot; field = from.0.place.field }) j (binders from.0.demand) from.2 in
    let (u, there, held) = parts_hold p.parts f.content w.cuts before fits.0 fits.1.1 from.0 from.1 in
    let (mid, grown, keeps, holds) = held in
    let has : value_at x.0 before.variables ≡ Some v = ap (λ (z : JoinField). value_at z.variable before.variables) x.1 ∙ is in
    let equal : u ≡ v = demand_has from.0.demand x.0 u v mid grown holds x.2 (keeps x.0 v has) in
    ap (λ z. value_in z f.content) (sym x.1) ∙ (there ∙ ap Some equal)
