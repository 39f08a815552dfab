use Rattle.std.proofs.Common.{◌≡◌, ◌∙◌, ◌++◌, ◌+◌, arith, ap, length, map, subst, sym}
use Rattle.cb_fit.proofs.Enough.{enough_of}
use Rattle.cb_fit.proofs.InTurn.{from_start}
use Rattle.cb_fit.proofs.Standing.{env-first, row-ends, row-starts}
use Rattle.cb_fit.specs.Internal.{env_after}
use Rattle.cb_fit.specs.Internal.Choices.{as_ways}
use Rattle.cb_fit.specs.Internal.Standing.{IsAt}
use Rattle.cb_fit.specs.WayValues.{way_of}
use Rattle.cb_fit.specs.Ways.{after_cuts, ways_of_row}
use Rattle.cb_fit.specs.Internal.Searches.{search_of}
use Rattle.cb_fit.proofs.fitting.search_fields.Goals as goal

pub begin_fields-requires-clause-place : goal.begin_fields-requires-clause-place
begin_fields-requires-clause-place g c =
    subst (λ cuts. IsAt (search_of g.L.Lookup.bindings c.args.search) c.args.fields.now cuts 0 c.args.row.now) (sym c.new-cuts.ensures) (row-starts (search_of g.L.Lookup.bindings c.args.search) c.args.row.now c.args.fields.now c.requires.row c.requires.content)

pub begin_fields-requires-clause-next : goal.begin_fields-requires-clause-next
begin_fields-requires-clause-next g c =
    let none : length c.new-cuts.result ≡ 0 = ap length c.new-cuts.ensures in
    row-ends (search_of g.L.Lookup.bindings c.args.search) c.args.row.now (length c.new-cuts.result + length c.args.row.now) c.requires.row (omega (arith, none))

pub returns : goal.returns
returns g c =
    enough_of c.args.is_one_enough _ _ _
    (c.in_ok-next.ensures.ways
    ∙ (ap (λ xs. map way_of xs ++ as_ways (search_of g.L.Lookup.bindings c.args.search) (map (after_cuts c.new-cuts.result) (ways_of_row c.args.row.now c.args.fields.now (env_after (search_of g.L.Lookup.bindings c.args.search) c.new-cuts.result)))) c.new-all.ensures.items
    ∙ ap (as_ways (search_of g.L.Lookup.bindings c.args.search)) (from_start c.new-cuts.result (ways_of_row c.args.row.now c.args.fields.now (env_after (search_of g.L.Lookup.bindings c.args.search) c.new-cuts.result)) c.new-cuts.ensures
    ∙ ap (ways_of_row c.args.row.now c.args.fields.now) (env-first (search_of g.L.Lookup.bindings c.args.search) c.new-cuts.result c.new-cuts.ensures))))
    c.in_ok-run.ensures
