use Rattle.std.proofs.Common.{◌≡◌, Err, refl, rules}
use Rattle.cb_actions.proofs.ActLaws.{went_as, went_quietly}
use Rattle.cb_actions.proofs.CallLaws.{by_effect}
use Rattle.cb_actions.proofs.WentLaws.{went_unbegun}
use Rattle.cb_actions.specs.declared.act.Break.TheVariants as break
use Rattle.cb_io.specs.declared.stop.Stop.TheVariants as stop
use Rattle.cb_actions.proofs.world.World.perform_with.Goals as goal

pub returns-in_err-values-in_default : goal.returns-in_err-values-in_default
returns-in_err-values-in_default g c =
    let r : c.from_residual.result ≡ Err (break.Stop stop.NoMemory) = search rules in
    record { went = went_as g.K.Sink.writes _ _ _ _ _ _ _ r refl (went_unbegun g.K.Sink.writes _ _ _ c.requires); fine = search rules }

pub returns-in-Bind-clause-went : goal.returns-in-Bind-clause-went
returns-in-Bind-clause-went g c = by_effect g.K.Sink.writes c.args.self.now c.in-Bind.is refl (went_quietly g.K.Sink.writes _ _ _ _ c.requires c.bind.ensures)

pub returns-in-BindGlobal-clause-went : goal.returns-in-BindGlobal-clause-went
returns-in-BindGlobal-clause-went g c = by_effect g.K.Sink.writes c.args.self.now c.in-BindGlobal.is refl (went_quietly g.K.Sink.writes _ _ _ _ c.requires c.bind_global.ensures)
