-- Where a fact has the shape of a pattern, the fields that have to be equal to constants are.
use Rattle.std.proofs.Common.{◌≡◌, ◌∙◌, inl, inr, Bool, true, false, List, [], ◌∷◌, Some, ap, sym}
use Rattle.std.specs.List.{Contains}
use Rattle.cb_constraints.specs.Constraints.{Test, constant, variable, predicate, return_value, Check, Demand, nothing, each, either}
use Rattle.cb_constraints.specs.Holding.{constant_holds, constants_hold, may_hold}
use Rattle.cb_constraints.specs.PatternValues.{PatternValue}
use Rattle.cb_exprs.specs.Bindings.{no_bindings}
use Rattle.cb_facts.specs.Facts.{FactValue}
use Rattle.cb_facts.proofs.Equality.{value-Decides}
use Rattle.cb_facts.specs.declared.value.Value.{Value}
use Rattle.cb_fit.proofs.Listed.{Among, among-cases, among-contained, among-flat-back, among-map-back}
use Rattle.cb_fit.proofs.LooseDemands.{holds-loosely}
use Rattle.cb_fit.proofs.Alone.{loose_placed, parts_hold, parts_loose}
use Rattle.cb_fit.proofs.ShapeTested.{shape-tested}
use Rattle.cb_fit.proofs.WithoutVariables.{both-true, provided-if}
use Rattle.cb_fit.specs.ConstantFields.{constant_fields, constants, demand_constant_fields, plain_constant, plain_constants}
use Rattle.cb_fit.specs.FieldPlaces.{field_value, placed_demands}
use Rattle.cb_fit.specs.Shapes.{HasShape, has_shape, loose_parts}
use Rattle.cb_fit.specs.declared.constant_fields.ConstantField.{ConstantField}

test_is : (negated : Bool) (t : Test) (v w : Value) → constant_holds v negated t ≡ true → Among w (plain_constant negated t) → v ≡ w
test_is false (constant u) v w e (inl i) = (value-Decides v u).0 e ∙ i
test_is false (constant u) v w e (inr i) = absurd i
test_is false (variable x) v w e i = absurd i
test_is false (predicate u) v w e i = absurd i
test_is false (return_value u) v w e i = absurd i
test_is true (constant u) v w e i = absurd i
test_is true (variable x) v w e i = absurd i
test_is true (predicate u) v w e i = absurd i
test_is true (return_value u) v w e i = absurd i

checks_are : (cs : List Check) (v w : Value) → constants_hold v cs ≡ true → Among w (plain_constants cs) → v ≡ w
checks_are [] v w e i = absurd i
checks_are (c ∷ cs) v w e i =
    let both = both-true (constant_holds v c.negated c.test) (constants_hold v cs) e in
    elim (among-cases w (plain_constant c.negated c.test) (plain_constants cs) i) as (λ _. v ≡ w) [
      | inl k ↦ test_is c.negated c.test v w both.0 k
      | inr k ↦ checks_are cs v w both.1 k
    ]

demand_is : (d : Demand) (v w : Value) → may_hold d v ≡ true → Among w (constants d) → v ≡ w
demand_is nothing v w e i = absurd i
demand_is (each cs) v w e i = checks_are cs v w e i
demand_is (either first alternatives) v w e i = absurd i

pub shape_has : (p : PatternValue) (f : FactValue) → has_shape p f ≡ true → (c : ConstantField) → Contains (constant_fields p.parts) c
    → field_value c.place.slot c.place.field f.content ≡ Some c.value
shape_has p f h c i =
    let shape : HasShape p f = (shape-tested p f).0 h in
    let from = among-flat-back demand_constant_fields c (placed_demands p.parts) (among-contained c (constant_fields p.parts) i) in
    let w = among-map-back (λ u. record { place = from.0.place; value = u }) c (constants from.0.demand) from.2 in
    let there = parts_loose p.parts from.0 from.1 in
    let (v, is, held) = parts_hold (loose_parts p.parts) f.content shape.0 no_bindings no_bindings shape.1.1 (loose_placed from.0) there in
    let (mid, grown, keeps, holds) = held in
    let may : may_hold from.0.demand v ≡ true = (provided-if (may_hold from.0.demand v) mid grown (sym (holds-loosely from.0.demand v mid) ∙ holds)).0 in
    let equal : v ≡ w.0 = demand_is from.0.demand v w.0 may w.2 in
    ap (λ (z : ConstantField). field_value z.place.slot z.place.field f.content) (sym w.1) ∙ (is ∙ (ap Some equal ∙ ap (λ (z : ConstantField). Some z.value) w.1))
