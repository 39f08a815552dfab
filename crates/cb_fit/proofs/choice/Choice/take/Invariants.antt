use Rattle.std.proofs.Common.{◌≡◌, ◌-◌, []}
use Rattle.cb_fit.specs.Internal.Choices.{KeepsFirst, cuts_before, group_from}
use Rattle.cb_fit.specs.Internal.Searches.{search_of}
use Rattle.cb_fit.proofs.choice.Choice.take.Given as goal

abbrev pub invariant-loop-to : goal.invariant-loop-to
invariant-loop-to g l =
    (group_from (search_of g.L.Lookup.bindings l.search) (cuts_before l.self l.fn.cuts) l.self l.self.to (l.to - l.self.to) ≡ [])
    × KeepsFirst l.self.number l.fn.cuts l.cuts
