use Rattle.std.proofs.Common.{◌≡◌, ◌++◌, ◌∷◌, map, rules}
use Rattle.cb_agenda.proofs.LaneCalls.{lane_listed}
use Rattle.cb_agenda.specs.Agendas.{key_and_salience}
use Rattle.cb_agenda.specs.Internal.{current, active_at, laned, ranked_all}
use Rattle.cb_agenda.proofs.lanes.Lanes.by_rank.Goals as goal

pub loop-salience-preserved : goal.loop-salience-preserved
loop-salience-preserved c =
    let find = active_at c.args.activations.now in
    let s = c.in-Some.salience.now in
    let steps : c.loop-salience.salience-iterator ≡ (s, c.in-Some.lane.now) ∷ c.next.new.self = search rules in
    let more : c.add_listed.new.listed.items ≡ c.loop-salience.listed.items ++ map key_and_salience (current find (ranked_all s c.in-Some.lane.now)) = search rules in
    lane_listed find s c.in-Some.lane.now c.next.new.self c.loop-salience.salience-iterator c.loop-salience.listed.items c.add_listed.new.listed.items (map key_and_salience (current find (laned c.into_iter-salience-iterator.result))) steps more c.loop-salience.invariant
