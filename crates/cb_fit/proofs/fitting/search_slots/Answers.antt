use Rattle.std.proofs.Common.{◌∙◌, ◌++◌, ◌∷◌, [], ap, length, map, subst, sym}
use Rattle.cb_constraints.specs.PartValues.{asked_slot}
use Rattle.cb_fit.proofs.Enough.{enough_of}
use Rattle.cb_fit.proofs.InTurn.{from_start_alone}
use Rattle.cb_fit.proofs.Standing.{env-first, rows-start}
use Rattle.cb_fit.specs.Internal.{taken_by}
use Rattle.cb_fit.specs.Internal.Choices.{as_ways, followed_by_rows}
use Rattle.cb_fit.specs.Internal.Standing.{AreNext}
use Rattle.cb_fit.specs.WayValues.{way_of}
use Rattle.cb_fit.specs.Ways.{ways_of_slots}
use Rattle.cb_fit.specs.Internal.Searches.{search_of}
use Rattle.cb_fit.proofs.fitting.search_slots.Goals as goal

pub begin_rows-requires-clause-next : goal.begin_rows-requires-clause-next
begin_rows-requires-clause-next g c =
    subst (λ cuts. AreNext (search_of g.L.Lookup.bindings c.args.search) (length cuts) (map asked_slot c.args.rows.now)) (sym c.new-cuts.ensures) (rows-start (search_of g.L.Lookup.bindings c.args.search) (map asked_slot c.args.rows.now) c.requires.rows c.requires.content)

pub returns : goal.returns
returns g c =
    enough_of c.args.is_one_enough _ _ _
    (c.in_ok-next.ensures.ways
    ∙ (ap (λ xs. map way_of xs ++ as_ways (search_of g.L.Lookup.bindings c.args.search) (followed_by_rows (map asked_slot c.args.rows.now) c.args.search.slots.now (taken_by (search_of g.L.Lookup.bindings c.args.search) c.new-cuts.result ∷ []))) c.new-all.ensures.items
    ∙ ap (as_ways (search_of g.L.Lookup.bindings c.args.search)) (from_start_alone (ways_of_slots (map asked_slot c.args.rows.now) c.args.search.slots.now) (taken_by (search_of g.L.Lookup.bindings c.args.search) c.new-cuts.result) (g.L.Lookup.bindings c.args.search.before.now) c.new-cuts.ensures (env-first (search_of g.L.Lookup.bindings c.args.search) c.new-cuts.result c.new-cuts.ensures))))
    c.in_ok-run.ensures
