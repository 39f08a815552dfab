use Rattle.std.proofs.Common.{◌≡◌, ◌++◌, Some, map}
use Rattle.cb_fit.specs.Internal.Choices.{AreOpen, as_ways, kept_with, tries_left, ways_left}
use Rattle.cb_fit.specs.WayValues.{way_of}
use Rattle.cb_fit.specs.Internal.Searches.{search_of}
use Rattle.cb_fit.proofs.search.Search.run_from.Given as goal

abbrev pub invariant-loop-next : goal.invariant-loop-next
invariant-loop-next g l =
    AreOpen (search_of g.L.Lookup.bindings l.self) l.cuts l.choices.items
    × (map way_of l.kept.items ++ as_ways (search_of g.L.Lookup.bindings l.self) (ways_left (search_of g.L.Lookup.bindings l.self) l.cuts l.choices.items) ≡ kept_with (search_of g.L.Lookup.bindings l.self) l.fn.cuts l.fn.kept.items (Some l.fn.first))

abbrev pub decreases-loop-next : goal.decreases-loop-next
decreases-loop-next g l = tries_left l.choices.items
