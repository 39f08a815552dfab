use Rattle.std.proofs.Common.{arith, ◌≡◌, ◌∙◌, ◌++◌, ◌+◌, ◌-◌, ◌∷◌, [], ap, drop, length, map, Some, replicate, slice_range, subst, sym}
use Rattle.std.proofs.lemmas.List.{length-map}
use Rattle.cb_constraints.specs.Constraints.{constraint_of}
use Rattle.cb_constraints.specs.Internal.RowFields.{row_fields}
use Rattle.cb_fit.proofs.Groups.{group-taken, none-made}
use Rattle.cb_fit.proofs.Standing.{keeps-after, next-at}
use Rattle.cb_fit.proofs.Takes.{is-met, nothing-taken, ok-with, on-ok}
use Rattle.cb_fit.specs.Internal.{env_after}
use Rattle.cb_fit.specs.Internal.Standing.{IsAt}
use Rattle.cb_fit.specs.Ways.{after_segment}
use Rattle.cb_fit.specs.Internal.Searches.{search_of}
use Rattle.cb_fit.proofs.search.Search.take_group.Goals as goal

pub returns-then-not-may_take-clause-taken : goal.returns-then-not-may_take-clause-taken
returns-then-not-may_take-clause-taken g c =
    none-made (constraint_of c.args.constraint.now) (map constraint_of c.args.ones.now) (row_fields c.args.fields) c.args.cuts.now c.args.from c.args.to (env_after (search_of g.L.Lookup.bindings c.args.self) c.args.cuts.now) c.requires.order
    (λ g. nothing-taken (map constraint_of c.args.ones.now) (drop c.args.to (row_fields c.args.fields)) g (sym c.may_take.ensures ∙ c.if-not-may_take.true))

pub take_ones-requires-clause-place : goal.take_ones-requires-clause-place
take_ones-requires-clause-place g c =
    let longer : c.take_segment.new.cuts ≡ c.args.cuts.now ++ (c.args.to - c.args.from) ∷ [] = c.in_ok-take_segment.ensures.cuts c.if-not-branch.false in
    let there : c.args.from + (c.args.to - c.args.from) ≡ c.args.to = omega arith in
    subst (λ xs. IsAt (search_of g.L.Lookup.bindings c.args.self) (row_fields c.args.fields) xs c.args.to (map constraint_of c.args.ones.now)) (sym longer)
    (subst (λ at. IsAt (search_of g.L.Lookup.bindings c.args.self) (row_fields c.args.fields) (c.args.cuts.now ++ (c.args.to - c.args.from) ∷ []) at (map constraint_of c.args.ones.now)) there
    (next-at (search_of g.L.Lookup.bindings c.args.self) (row_fields c.args.fields) c.args.cuts.now c.args.from (c.args.to - c.args.from) (constraint_of c.args.constraint.now) (map constraint_of c.args.ones.now) c.requires.place))

pub returns-clause-keeps : goal.returns-clause-keeps
returns-clause-keeps g c =
    let longer : c.take_segment.new.cuts ≡ c.args.cuts.now ++ (c.args.to - c.args.from) ∷ [] = c.in_ok-take_segment.ensures.cuts c.if-not-branch.false in
    on-ok c.take_ones.result (λ k. keeps-after c.args.cuts.now c.take_segment.new.cuts c.take_ones.new.cuts ((c.args.to - c.args.from) ∷ []) longer k) c.take_ones.ensures.keeps

pub returns-clause-taken : goal.returns-clause-taken
returns-clause-taken g c =
    let longer : c.take_segment.new.cuts ≡ c.args.cuts.now ++ (c.args.to - c.args.from) ∷ [] = c.in_ok-take_segment.ensures.cuts c.if-not-branch.false in
    let segment = subst (λ xs. after_segment (constraint_of c.args.constraint.now) (slice_range (row_fields c.args.fields) c.args.from c.args.to) (env_after (search_of g.L.Lookup.bindings c.args.self) c.args.cuts.now) ≡ Some (env_after (search_of g.L.Lookup.bindings c.args.self) xs)) (sym longer)
    (is-met c.in_ok-take_segment.field-0 (env_after (search_of g.L.Lookup.bindings c.args.self) (c.args.cuts.now ++ (c.args.to - c.args.from) ∷ [])) (after_segment (constraint_of c.args.constraint.now) (slice_range (row_fields c.args.fields) c.args.from c.args.to) (env_after (search_of g.L.Lookup.bindings c.args.self) c.args.cuts.now)) c.if-not-branch.false c.in_ok-take_segment.ensures.holds) in
    ok-with c.take_ones.result
    (λ holds cuts met.
    group-taken (search_of g.L.Lookup.bindings c.args.self) (constraint_of c.args.constraint.now) (map constraint_of c.args.ones.now) (row_fields c.args.fields) c.args.cuts.now c.take_segment.new.cuts c.take_ones.new.cuts c.args.from c.args.to (c.args.to + length c.args.ones.now) holds
    c.requires.order (ap (λ n. c.args.to + n) (sym (length-map c.args.ones.now constraint_of))) longer
    (λ h. cuts h ∙ ap (λ n. c.take_segment.new.cuts ++ replicate n 1) (sym (length-map c.args.ones.now constraint_of))) segment met)
    c.take_ones.ensures.cuts c.take_ones.ensures.holds
