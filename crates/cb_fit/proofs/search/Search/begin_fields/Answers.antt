use Rattle.std.proofs.Common.{◌≡◌, ◌∙◌, ◌++◌, ◌+◌, [], ap, length, map, rules, sym}
use Rattle.cb_constraints.specs.Constraints.{constraint_of}
use Rattle.cb_fit.proofs.InTurn.{and-no-more}
use Rattle.cb_fit.proofs.Standing.{next-count}
use Rattle.cb_fit.proofs.Takes.{ok-same}
use Rattle.cb_fit.specs.Internal.{begun_at, endings, env_after}
use Rattle.cb_fit.specs.Internal.Choices.{as_ways, ways_if}
use Rattle.cb_constraints.specs.Internal.RowFields.{row_fields}
use Rattle.cb_fit.specs.WayValues.{way_of}
use Rattle.cb_fit.specs.Ways.{after_cuts, ways_of_row}
use Rattle.cb_fit.specs.Internal.Searches.{search_of}
use Rattle.cb_fit.proofs.search.Search.begin_fields.Goals as goal

pub returns-clause-ways : goal.returns-clause-ways
returns-clause-ways g c =
    let ways : map (after_cuts c.args.cuts.now) (ways_of_row c.args.row.now (row_fields c.args.fields) (env_after (search_of g.L.Lookup.bindings c.args.self) c.args.cuts.now)) ≡ endings (map constraint_of c.in-Some.rest.constraints.now) (begun_at (search_of g.L.Lookup.bindings c.args.self) (row_fields c.args.fields) c.begin_row.new.cuts c.in-Some.rest.at) = search rules in
    ok-same c.go_on.result (λ next. map way_of c.go_on.new.kept.items ++ as_ways (search_of g.L.Lookup.bindings c.args.self) (ways_if (search_of g.L.Lookup.bindings c.args.self) c.go_on.new.cuts next)) (ap (λ xs. map way_of c.args.kept.now.items ++ as_ways (search_of g.L.Lookup.bindings c.args.self) xs) (and-no-more (endings (map constraint_of c.in-Some.rest.constraints.now) (begun_at (search_of g.L.Lookup.bindings c.args.self) (row_fields c.args.fields) c.begin_row.new.cuts c.in-Some.rest.at)) ∙ sym ways)) c.go_on.ensures.ways

pub go_on-requires-clause-next : goal.go_on-requires-clause-next
go_on-requires-clause-next g c =
    let count : length c.begin_row.new.cuts + length c.in-Some.rest.constraints.now ≡ length c.args.cuts.now + length c.args.row.now = search rules in
    next-count (search_of g.L.Lookup.bindings c.args.self) (length c.args.cuts.now + length c.args.row.now) (length c.begin_row.new.cuts + length c.in-Some.rest.constraints.now) [] (sym count) c.requires.next
