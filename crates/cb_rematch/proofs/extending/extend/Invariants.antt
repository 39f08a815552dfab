use Rattle.std.proofs.Common.{◌≡◌, ◌++◌, map}
use Rattle.cb_fit.specs.WayValues.{way_of}
use Rattle.cb_matches.specs.Matches.{grown}
use Rattle.cb_rematch.proofs.extending.extend.Given as goal

abbrev pub invariant-loop-way : goal.invariant-loop-way
invariant-loop-way g l =
    l.all.items ++ map (grown l.address l.ix l.partial) (map way_of l.way-iterator)
    ≡ l.initial.all.items ++ map (grown l.address l.ix l.partial) (map way_of l.initial.way-iterator)
