use Rattle.std.proofs.Common.{◌≡◌, Result, drop, false}
use Rattle.cb_actions.specs.Acts.{each}
use Rattle.cb_actions.specs.Runs.{dropped_rule}
use Rattle.cb_actions.specs.Went.{Went}
use Rattle.cb_actions.specs.Worlds.{World}
use Rattle.cb_actions.specs.declared.act.Break.{Break}
use Rattle.cb_io.specs.Output.{OutState}
use Rattle.cb_actions.proofs.world.World.drop_rules.Given as goal

-- what goes on from here goes so from the start
abbrev pub invariant-loop-id : goal.invariant-loop-id
invariant-loop-id g l = record {
  fine : l.out.fault ≡ false;
  goes : (o : OutState _) (s : World) (r : Result (Unit {0}) Break) → Went g.K.Sink.writes l.out o s r (each dropped_rule (drop l.id-index l.ids) l.self)
      → Went g.K.Sink.writes l.initial.out o s r (each dropped_rule l.ids l.initial.self);
}
