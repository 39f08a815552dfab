use Rattle.std.proofs.Common.{arith, ◌≡◌, ◌∙◌, ◌++◌, ◌+◌, ap, drop, length, map, replicate, subst, sym, take}
use Rattle.std.proofs.lemmas.List.{length-map, map-append}
use Rattle.cb_constraints.specs.Constraints.{constraint_of}
use Rattle.cb_constraints.specs.Rows.{before_segments, fields_wanted, segments_wanted}
use Rattle.cb_fit.proofs.Groups.{leading-none, leading-some}
use Rattle.cb_fit.proofs.Looked.{all-taken, front_may}
use Rattle.cb_fit.proofs.Splits.{ones-want, segments-in-both}
use Rattle.cb_fit.proofs.Standing.{front-at, next-ones}
use Rattle.cb_fit.proofs.Takes.{is-met, not-met}
use Rattle.cb_constraints.specs.Internal.RowFields.{row_fields}
use Rattle.cb_fit.specs.Internal.{after_ones, endings, env_after, may_take}
use Rattle.cb_fit.specs.Internal.Standing.{IsAt}
use Rattle.cb_fit.specs.Ways.{after_cuts, ways_of_row}
use Rattle.cb_fit.specs.Internal.Searches.{search_of}
use Rattle.cb_fit.proofs.search.Search.begin_row.Goals as goal

pub take_ones-requires-clause-may : goal.take_ones-requires-clause-may
take_ones-requires-clause-may g c =
    ap (λ cs. may_take cs (row_fields c.args.fields)) (c.split_ones.ensures.front ∙ ap (λ cs. take (before_segments cs) cs) c.constraints.ensures)
    ∙ front_may c.args.row.now (row_fields c.args.fields) c.requires.may

pub take_ones-requires-clause-place : goal.take_ones-requires-clause-place
take_ones-requires-clause-place g c =
    let row-is : c.args.row.now ≡ map constraint_of c.split_ones.result.0.now ++ map constraint_of c.split_ones.result.1.now =
    sym (sym (map-append constraint_of c.split_ones.result.0.now c.split_ones.result.1.now) ∙ (ap (map constraint_of) c.split_ones.ensures.all ∙ c.constraints.ensures)) in
    front-at (search_of g.L.Lookup.bindings c.args.self) (row_fields c.args.fields) c.args.cuts.now 0 (map constraint_of c.split_ones.result.0.now) (map constraint_of c.split_ones.result.1.now) (subst (IsAt (search_of g.L.Lookup.bindings c.args.self) (row_fields c.args.fields) c.args.cuts.now 0) row-is c.requires.place)

pub returns-then-not-branch-clause-ways : goal.returns-then-not-branch-clause-ways
returns-then-not-branch-clause-ways g c =
    let row-is : c.args.row.now ≡ map constraint_of c.split_ones.result.0.now ++ map constraint_of c.split_ones.result.1.now =
    sym (sym (map-append constraint_of c.split_ones.result.0.now c.split_ones.result.1.now) ∙ (ap (map constraint_of) c.split_ones.ensures.all ∙ c.constraints.ensures)) in
    ap (λ cs. ways_of_row cs (row_fields c.args.fields) (env_after (search_of g.L.Lookup.bindings c.args.self) c.args.cuts.now)) row-is
    ∙ leading-none (map constraint_of c.split_ones.result.0.now) (map constraint_of c.split_ones.result.1.now) (row_fields c.args.fields) (env_after (search_of g.L.Lookup.bindings c.args.self) c.args.cuts.now) c.split_ones.ensures.ones
    (not-met c.in_ok-take_ones.field-0 (env_after (search_of g.L.Lookup.bindings c.args.self) c.take_ones.new.cuts) (after_ones (map constraint_of c.split_ones.result.0.now) (row_fields c.args.fields) (env_after (search_of g.L.Lookup.bindings c.args.self) c.args.cuts.now)) c.if-not-branch.true c.in_ok-take_ones.ensures.holds)

pub overflow_sub-result : goal.overflow_sub-result
overflow_sub-result g c =
    let row-is : c.args.row.now ≡ map constraint_of c.split_ones.result.0.now ++ map constraint_of c.split_ones.result.1.now =
    sym (sym (map-append constraint_of c.split_ones.result.0.now c.split_ones.result.1.now) ∙ (ap (map constraint_of) c.split_ones.ensures.all ∙ c.constraints.ensures)) in
    let wants : c.fields.result ≡ length c.split_ones.result.0.now + fields_wanted (map constraint_of c.split_ones.result.1.now) =
    c.fields.ensures ∙ (ap fields_wanted row-is ∙ (ones-want (map constraint_of c.split_ones.result.0.now) (map constraint_of c.split_ones.result.1.now) c.split_ones.ensures.ones
    ∙ ap (λ n. n + fields_wanted (map constraint_of c.split_ones.result.1.now)) (length-map c.split_ones.result.0.now constraint_of))) in
    omega (arith, wants)

pub returns-clause-rest : goal.returns-clause-rest
returns-clause-rest g c =
    let row-is : c.args.row.now ≡ map constraint_of c.split_ones.result.0.now ++ map constraint_of c.split_ones.result.1.now =
    sym (sym (map-append constraint_of c.split_ones.result.0.now c.split_ones.result.1.now) ∙ (ap (map constraint_of) c.split_ones.ensures.all ∙ c.constraints.ensures)) in
    let wants : c.fields.result ≡ length c.split_ones.result.0.now + fields_wanted (map constraint_of c.split_ones.result.1.now) =
    c.fields.ensures ∙ (ap fields_wanted row-is ∙ (ones-want (map constraint_of c.split_ones.result.0.now) (map constraint_of c.split_ones.result.1.now) c.split_ones.ensures.ones
    ∙ ap (λ n. n + fields_wanted (map constraint_of c.split_ones.result.1.now)) (length-map c.split_ones.result.0.now constraint_of))) in
    (c.split_ones.ensures.segment, omega (arith, wants))

pub returns-clause-segments : goal.returns-clause-segments
returns-clause-segments g c =
    sym (segments-in-both (map constraint_of c.split_ones.result.0.now) (map constraint_of c.split_ones.result.1.now) c.split_ones.ensures.ones)
    ∙ ap segments_wanted (sym (map-append constraint_of c.split_ones.result.0.now c.split_ones.result.1.now) ∙ (ap (map constraint_of) c.split_ones.ensures.all ∙ c.constraints.ensures))

pub returns-clause-place : goal.returns-clause-place
returns-clause-place g c =
    let row-is : c.args.row.now ≡ map constraint_of c.split_ones.result.0.now ++ map constraint_of c.split_ones.result.1.now =
    sym (sym (map-append constraint_of c.split_ones.result.0.now c.split_ones.result.1.now) ∙ (ap (map constraint_of) c.split_ones.ensures.all ∙ c.constraints.ensures)) in
    let longer : c.take_ones.new.cuts ≡ c.args.cuts.now ++ replicate (length c.split_ones.result.0.now) 1 = c.in_ok-take_ones.ensures.cuts c.if-not-branch.false in
    let count : length (map constraint_of c.split_ones.result.0.now) ≡ length c.split_ones.result.0.now = length-map c.split_ones.result.0.now constraint_of in
    let there : 0 + length (map constraint_of c.split_ones.result.0.now) ≡ length c.split_ones.result.0.now = omega (arith, count) in
    let cuts : c.args.cuts.now ++ replicate (length (map constraint_of c.split_ones.result.0.now)) 1 ≡ c.take_ones.new.cuts = ap (λ n. c.args.cuts.now ++ replicate n 1) count ∙ sym longer in
    subst (λ xs. IsAt (search_of g.L.Lookup.bindings c.args.self) (row_fields c.args.fields) xs (length c.split_ones.result.0.now) (map constraint_of c.split_ones.result.1.now)) cuts
    (subst (λ at. IsAt (search_of g.L.Lookup.bindings c.args.self) (row_fields c.args.fields) (c.args.cuts.now ++ replicate (length (map constraint_of c.split_ones.result.0.now)) 1) at (map constraint_of c.split_ones.result.1.now)) there
    (next-ones (search_of g.L.Lookup.bindings c.args.self) (row_fields c.args.fields) c.args.cuts.now 0 (map constraint_of c.split_ones.result.0.now) (map constraint_of c.split_ones.result.1.now) (subst (IsAt (search_of g.L.Lookup.bindings c.args.self) (row_fields c.args.fields) c.args.cuts.now 0) row-is c.requires.place)))

pub returns-clause-ended : goal.returns-clause-ended
returns-clause-ended g c = λ e.
    let row-is : c.args.row.now ≡ map constraint_of c.split_ones.result.0.now ++ map constraint_of c.split_ones.result.1.now =
    sym (sym (map-append constraint_of c.split_ones.result.0.now c.split_ones.result.1.now) ∙ (ap (map constraint_of) c.split_ones.ensures.all ∙ c.constraints.ensures)) in
    sym (length-map c.split_ones.result.0.now constraint_of)
    ∙ all-taken (map constraint_of c.split_ones.result.0.now) (map constraint_of c.split_ones.result.1.now) c.args.row.now (row_fields c.args.fields) c.split_ones.ensures.ones (ap (map constraint_of) e) row-is c.requires.may

pub returns-clause-ways : goal.returns-clause-ways
returns-clause-ways g c =
    let row-is : c.args.row.now ≡ map constraint_of c.split_ones.result.0.now ++ map constraint_of c.split_ones.result.1.now =
    sym (sym (map-append constraint_of c.split_ones.result.0.now c.split_ones.result.1.now) ∙ (ap (map constraint_of) c.split_ones.ensures.all ∙ c.constraints.ensures)) in
    let longer : c.take_ones.new.cuts ≡ c.args.cuts.now ++ replicate (length c.split_ones.result.0.now) 1 = c.in_ok-take_ones.ensures.cuts c.if-not-branch.false in
    let so-far : c.take_ones.new.cuts ≡ c.args.cuts.now ++ replicate (length (map constraint_of c.split_ones.result.0.now)) 1 =
    longer ∙ ap (λ k. c.args.cuts.now ++ replicate k 1) (sym (length-map c.split_ones.result.0.now constraint_of)) in
    ap (λ cs. map (after_cuts c.args.cuts.now) (ways_of_row cs (row_fields c.args.fields) (env_after (search_of g.L.Lookup.bindings c.args.self) c.args.cuts.now))) row-is
    ∙ (leading-some (map constraint_of c.split_ones.result.0.now) (map constraint_of c.split_ones.result.1.now) (row_fields c.args.fields) c.args.cuts.now (env_after (search_of g.L.Lookup.bindings c.args.self) c.args.cuts.now) (env_after (search_of g.L.Lookup.bindings c.args.self) c.take_ones.new.cuts) c.split_ones.ensures.ones
    (is-met c.in_ok-take_ones.field-0 (env_after (search_of g.L.Lookup.bindings c.args.self) c.take_ones.new.cuts) (after_ones (map constraint_of c.split_ones.result.0.now) (row_fields c.args.fields) (env_after (search_of g.L.Lookup.bindings c.args.self) c.args.cuts.now)) c.if-not-branch.false c.in_ok-take_ones.ensures.holds)
    ∙ sym (ap (λ cuts. endings (map constraint_of c.split_ones.result.1.now) (record { cuts = cuts; left = drop (length c.split_ones.result.0.now) (row_fields c.args.fields); env = env_after (search_of g.L.Lookup.bindings c.args.self) c.take_ones.new.cuts })) so-far
    ∙ ap (λ k. endings (map constraint_of c.split_ones.result.1.now) (record { cuts = c.args.cuts.now ++ replicate (length (map constraint_of c.split_ones.result.0.now)) 1; left = drop k (row_fields c.args.fields); env = env_after (search_of g.L.Lookup.bindings c.args.self) c.take_ones.new.cuts })) (sym (length-map c.split_ones.result.0.now constraint_of))))
