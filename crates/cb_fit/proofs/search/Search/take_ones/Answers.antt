use Rattle.std.proofs.Common.{arith, ◌≡◌, ◌∙◌, ◌++◌, ◌+◌, ◌<◌, ◌∷◌, [], ap, drop, length, map, rules, subst, sym}
use Rattle.cb_constraints.specs.Constraints.{constraint_of}
use Rattle.cb_constraints.specs.Holding.{tested_value}
use Rattle.cb_constraints.specs.Rows.{segments_wanted}
use Rattle.cb_constraints.specs.Internal.RowFields.{IsFirst, row_fields}
use Rattle.cb_fit.proofs.Rows.{others-are-ones}
use Rattle.cb_fit.proofs.Standing.{more-ones, next-at, one-fails, one-holds, split-next}
use Rattle.cb_fit.proofs.Takes.{may_others}
use Rattle.cb_fit.specs.Internal.{after_ones, env_after, may_take}
use Rattle.cb_fit.specs.Internal.Standing.{IsAt}
use Rattle.cb_fit.specs.Internal.Searches.{search_of}
use Rattle.cb_fit.proofs.search.Search.take_ones.Goals as goal

pub returns-then-not-branch-clause-holds : goal.returns-then-not-branch-clause-holds
returns-then-not-branch-clause-holds g c =
    let left = drop (c.loop-constraint.constraint-index + 1) c.args.constraints.now in
    let split = split-next c.args.constraints.now c.loop-constraint.constraint-index c.constraint-item.result c.constraint-item.is c.loop-constraint-test.true in
    let place = subst (IsAt (search_of g.L.Lookup.bindings c.args.self) (row_fields c.args.fields) c.loop-constraint.cuts c.loop-constraint.at) split c.loop-constraint.invariant.4 in
    let ones = ap segments_wanted (sym split) ∙ c.loop-constraint.invariant.3 in
    let first : IsFirst (tested_value c.in-Some.tested) (drop (c.loop-constraint.at + 1) (row_fields c.args.fields)) (drop c.loop-constraint.at (row_fields c.args.fields)) = search rules in
    sym c.loop-constraint.invariant.6
    ∙ (ap (λ cs. after_ones cs (drop c.loop-constraint.at (row_fields c.args.fields)) (env_after (search_of g.L.Lookup.bindings c.args.self) c.loop-constraint.cuts)) split
    ∙ one-fails (search_of g.L.Lookup.bindings c.args.self) (row_fields c.args.fields) c.loop-constraint.cuts c.loop-constraint.at (constraint_of c.constraint-item.result) (map constraint_of left) (tested_value c.in-Some.tested)
    (drop (c.loop-constraint.at + 1) (row_fields c.args.fields)) c.in_ok-field_holds.field-0 place ones first c.in_ok-field_holds.ensures c.if-not-branch.true)

pub loop-constraint-preserved : goal.loop-constraint-preserved
loop-constraint-preserved g c =
    let left = drop (c.loop-constraint.constraint-index + 1) c.args.constraints.now in
    let split = split-next c.args.constraints.now c.loop-constraint.constraint-index c.constraint-item.result c.constraint-item.is c.loop-constraint-test.true in
    let place = subst (IsAt (search_of g.L.Lookup.bindings c.args.self) (row_fields c.args.fields) c.loop-constraint.cuts c.loop-constraint.at) split c.loop-constraint.invariant.4 in
    let ones = ap segments_wanted (sym split) ∙ c.loop-constraint.invariant.3 in
    let may = ap (λ cs. may_take cs (drop c.loop-constraint.at (row_fields c.args.fields))) (sym split) ∙ c.loop-constraint.invariant.2 in
    let first : IsFirst (tested_value c.in-Some.tested) (drop (c.loop-constraint.at + 1) (row_fields c.args.fields)) (drop c.loop-constraint.at (row_fields c.args.fields)) = search rules in
    let longer : c.add_ones.new.self ≡ c.loop-constraint.cuts ++ 1 ∷ [] = c.in_ok-add_ones.ensures in
    let within : c.loop-constraint.at < length (row_fields c.args.fields) = search rules in (
      omega arith,
      omega (arith, within),
      may_others (constraint_of c.constraint-item.result) (map constraint_of left) (tested_value c.in-Some.tested) (drop (c.loop-constraint.at + 1) (row_fields c.args.fields)) (drop c.loop-constraint.at (row_fields c.args.fields)) first may,
      others-are-ones c.constraint-item.result.takes_segment (segments_wanted (map constraint_of left)) ones,
      subst (λ xs. IsAt (search_of g.L.Lookup.bindings c.args.self) (row_fields c.args.fields) xs (c.loop-constraint.at + 1) (map constraint_of left)) (sym longer)
          (next-at (search_of g.L.Lookup.bindings c.args.self) (row_fields c.args.fields) c.loop-constraint.cuts c.loop-constraint.at 1 (constraint_of c.constraint-item.result) (map constraint_of left) place),
      more-ones c.add_ones.new.self c.loop-constraint.cuts c.args.cuts.now c.loop-constraint.constraint-index longer c.loop-constraint.invariant.5,
      ap (λ xs. after_ones (map constraint_of left) (drop (c.loop-constraint.at + 1) (row_fields c.args.fields)) (env_after (search_of g.L.Lookup.bindings c.args.self) xs)) longer
          ∙ (sym (one-holds (search_of g.L.Lookup.bindings c.args.self) (row_fields c.args.fields) c.loop-constraint.cuts c.loop-constraint.at (constraint_of c.constraint-item.result) (map constraint_of left) (tested_value c.in-Some.tested)
          (drop (c.loop-constraint.at + 1) (row_fields c.args.fields)) c.in_ok-field_holds.field-0 place ones first c.in_ok-field_holds.ensures c.if-not-branch.false)
          ∙ (ap (λ cs. after_ones cs (drop c.loop-constraint.at (row_fields c.args.fields)) (env_after (search_of g.L.Lookup.bindings c.args.self) c.loop-constraint.cuts)) (sym split)
          ∙ c.loop-constraint.invariant.6)),
    )
