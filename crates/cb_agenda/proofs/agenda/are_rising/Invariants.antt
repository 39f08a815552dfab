use Rattle.std.proofs.Common.{drop}
use Rattle.cb_agenda.specs.Internal.{RisesFrom}
use Rattle.cb_agenda.proofs.agenda.are_rising.Given as goal

-- if those that are left rise from here, all do
abbrev pub invariant-loop-key : goal.invariant-loop-key
invariant-loop-key l = RisesFrom l.last (drop l.key-index l.more) → RisesFrom l.initial.last l.more
