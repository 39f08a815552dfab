use Rattle.std.proofs.Common.{◌≡◌, ◌++◌, map}
use Rattle.cb_matches.specs.Networks.{keyed}
use Rattle.cb_rematch.proofs.branch.match_branch.Given as goal

abbrev pub invariant-loop-partial : goal.invariant-loop-partial
invariant-loop-partial g l =
    l.all.items ++ map (keyed l.id l.place) l.partial-iterator.rest.items ≡ l.initial.all.items ++ map (keyed l.id l.place) l.initial.partial-iterator.rest.items
