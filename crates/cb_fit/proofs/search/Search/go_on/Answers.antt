use Rattle.std.proofs.Common.{◌≡◌, ◌∙◌, ◌++◌, ◌+◌, ◌∷◌, [], arith, ap, length, map, sym}
use Rattle.cb_constraints.specs.Constraints.{constraint_of}
use Rattle.cb_constraints.specs.PartValues.{asked_slot}
use Rattle.cb_fit.proofs.Choices.{all-ended, not-before, number-is, of_choice, opened}
use Rattle.cb_fit.proofs.Splits.{none-left}
use Rattle.cb_fit.proofs.Standing.{keeps-all, next-count}
use Rattle.cb_fit.proofs.Takes.{ok-same}
use Rattle.cb_fit.specs.Internal.{begun_at, endings, env_after, taken_by}
use Rattle.cb_fit.specs.Internal.Choices.{as_ways, followed_by_rows, ways_if}
use Rattle.cb_constraints.specs.Internal.RowFields.{row_fields}
use Rattle.cb_fit.specs.WayValues.{way_of}
use Rattle.cb_fit.specs.Internal.Searches.{search_of}
use Rattle.cb_fit.proofs.search.Search.go_on.Goals as goal

pub returns-clause-ways : goal.returns-clause-ways
returns-clause-ways g c =
    let none : c.args.rest.constraints.now ≡ [] = none-left c.args.rest.constraints.now c.is_empty.result c.is_empty.ensures c.if-not-is_empty.false in
    let last : endings (map constraint_of c.args.rest.constraints.now) (begun_at (search_of g.L.Lookup.bindings c.args.self) (row_fields c.args.fields) c.args.cuts.now c.args.rest.at) ≡ taken_by (search_of g.L.Lookup.bindings c.args.self) c.args.cuts.now ∷ [] =
    ap (λ cs. endings (map constraint_of cs) (begun_at (search_of g.L.Lookup.bindings c.args.self) (row_fields c.args.fields) c.args.cuts.now c.args.rest.at)) none
    ∙ all-ended (row_fields c.args.fields) c.args.rest.at c.args.cuts.now (env_after (search_of g.L.Lookup.bindings c.args.self) c.args.cuts.now) (c.requires.ended none) in
    ok-same c.begin_rows.result (λ next. map way_of c.begin_rows.new.kept.items ++ as_ways (search_of g.L.Lookup.bindings c.args.self) (ways_if (search_of g.L.Lookup.bindings c.args.self) c.begin_rows.new.cuts next))
    (ap (λ ts. map way_of c.args.kept.now.items ++ as_ways (search_of g.L.Lookup.bindings c.args.self) (followed_by_rows (map asked_slot c.args.rows.now) c.args.self.slots.now ts)) (sym last)) c.begin_rows.ensures.ways

pub begin_rows-requires-clause-next : goal.begin_rows-requires-clause-next
begin_rows-requires-clause-next g c =
    let none : c.args.rest.constraints.now ≡ [] = none-left c.args.rest.constraints.now c.is_empty.result c.is_empty.ensures c.if-not-is_empty.false in
    next-count (search_of g.L.Lookup.bindings c.args.self) (length c.args.cuts.now + length c.args.rest.constraints.now) (length c.args.cuts.now) (map asked_slot c.args.rows.now) (ap (λ cs. length c.args.cuts.now + length cs) none ∙ omega arith) c.requires.next

pub returns-then-not-is_empty-clause-ways : goal.returns-then-not-is_empty-clause-ways
returns-then-not-is_empty-clause-ways g c =
    ap (λ xs. map way_of c.args.kept.now.items ++ as_ways (search_of g.L.Lookup.bindings c.args.self) xs)
    (of_choice (search_of g.L.Lookup.bindings c.args.self) c.args.cuts.now c.new.result c.args.rows.now (endings (map constraint_of c.args.rest.constraints.now) (begun_at (search_of g.L.Lookup.bindings c.args.self) (row_fields c.args.fields) c.args.cuts.now c.args.rest.at))
    (c.new.ensures.ways (search_of g.L.Lookup.bindings c.args.self) c.args.cuts.now) c.new.ensures.rows (number-is c.new.result c.len.result (length c.args.cuts.now) c.len.ensures c.new.ensures.number))

pub returns-then-not-is_empty-clause-open : goal.returns-then-not-is_empty-clause-open
returns-then-not-is_empty-clause-open g c =
    opened (search_of g.L.Lookup.bindings c.args.self) c.args.cuts.now c.new.result c.args.rows.now c.new.ensures.choice (c.new.ensures.inside (search_of g.L.Lookup.bindings c.args.self) c.args.cuts.now c.len.ensures c.requires.place c.requires.next)
    c.new.ensures.rows (number-is c.new.result c.len.result (length c.args.cuts.now) c.len.ensures c.new.ensures.number) c.requires.rows

pub returns-then-not-is_empty-clause-keeps : goal.returns-then-not-is_empty-clause-keeps
returns-then-not-is_empty-clause-keeps g c = keeps-all (length c.args.cuts.now) c.args.cuts.now (omega arith)

pub returns-then-not-is_empty-clause-order : goal.returns-then-not-is_empty-clause-order
returns-then-not-is_empty-clause-order g c = not-before c.new.result (length c.args.cuts.now) (length c.args.cuts.now) (omega arith) (number-is c.new.result c.len.result (length c.args.cuts.now) c.len.ensures c.new.ensures.number)
