use Rattle.std.proofs.Common.{◌≡◌, Ok, Err, rules}
use Rattle.cb_actions.specs.Effects.{changed_to, replaced_if_new}
use Rattle.cb_actions.proofs.ActLaws.{went_then, went_off, went_quietly}
use Rattle.cb_actions.proofs.WentLaws.{went_result}
use Rattle.cb_actions.proofs.world.World.modify_at.Goals as goal

pub returns-in_err-old : goal.returns-in_err-old
returns-in_err-old g c =
    let r : c.from_residual.result ≡ Err c.in_err-old.field-0.0 = search rules in
    went_result g.K.Sink.writes r (went_off g.K.Sink.writes _ _ _ _ _ (changed_to c.args.ix c.args.given.items) (went_quietly g.K.Sink.writes _ _ _ _ c.requires c.in_err-old.ensures.fact))

pub returns-in_err-fact : goal.returns-in_err-fact
returns-in_err-fact g c =
    let r : c.from_residual-in_err-fact.result ≡ Err c.in_err-fact.field-0.0 = search rules in
    went_result g.K.Sink.writes r (went_then g.K.Sink.writes _ _ _ _ _ _ _ _ (changed_to c.args.ix c.args.given.items) (went_quietly g.K.Sink.writes _ _ (Ok c.in_ok-old.old) _ c.requires c.in_ok-old.ensures.fact)
    (went_off g.K.Sink.writes _ _ _ _ _ (replaced_if_new c.args.ix) (went_quietly g.K.Sink.writes _ _ _ _ c.requires c.in_err-fact.ensures)))

pub returns : goal.returns
returns g c =
    went_then g.K.Sink.writes _ _ _ _ _ _ _ _ (changed_to c.args.ix c.args.given.items) (went_quietly g.K.Sink.writes _ _ (Ok c.in_ok-old.old) _ c.requires c.in_ok-old.ensures.fact)
    (went_then g.K.Sink.writes _ _ _ _ _ _ _ _ (replaced_if_new c.args.ix) (went_quietly g.K.Sink.writes _ _ (Ok c.in_ok-fact.fact) _ c.requires c.in_ok-fact.ensures) c.replace_unless_there.ensures)
