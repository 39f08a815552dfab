use Rattle.std.proofs.Common.{◌≡◌, ◌++◌, map}
use Rattle.cb_agenda.specs.Agendas.{key_and_salience}
use Rattle.cb_agenda.specs.Internal.{current, laned, active_at}
use Rattle.cb_agenda.proofs.lanes.Lanes.by_rank.Given as goal

abbrev pub invariant-loop-salience : goal.invariant-loop-salience
invariant-loop-salience l =
    l.listed.items ++ map key_and_salience (current (active_at l.activations) (laned l.salience-iterator)) ≡ map key_and_salience (current (active_at l.activations) (laned l.initial.salience-iterator))
