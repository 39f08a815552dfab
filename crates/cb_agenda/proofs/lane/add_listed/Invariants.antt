use Rattle.std.proofs.Common.{◌≡◌, ◌++◌, drop, map}
use Rattle.cb_agenda.specs.Agendas.{key_and_salience}
use Rattle.cb_agenda.specs.Internal.{current, active_at, ranked_all}
use Rattle.cb_agenda.proofs.lane.add_listed.Given as goal

abbrev pub invariant-loop-stamp : goal.invariant-loop-stamp
invariant-loop-stamp l =
    l.listed.items ++ map key_and_salience (current (active_at l.activations) (ranked_all l.salience (drop l.stamp-index l.entries)))
    ≡ l.initial.listed.items ++ map key_and_salience (current (active_at l.activations) (ranked_all l.salience l.entries))
