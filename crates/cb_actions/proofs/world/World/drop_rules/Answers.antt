use Rattle.std.proofs.Common.{◌≡◌, [], Ok, Err, drop, get_or, refl, ap, rules}
use Rattle.std.proofs.lemmas.List.{drop_all}
use Rattle.cb_actions.specs.Acts.{each}
use Rattle.cb_actions.specs.Runs.{dropped_rule}
use Rattle.cb_actions.proofs.ActLaws.{went_quietly, went_as}
use Rattle.cb_actions.proofs.EachLaws.{each_then, each_off, next_number}
use Rattle.cb_actions.proofs.WentLaws.{went_fine}
use Rattle.cb_actions.proofs.world.World.drop_rules.Goals as goal

pub returns-in_err-drop_rule : goal.returns-in_err-drop_rule
returns-in_err-drop_rule g c =
    let r : c.from_residual.result ≡ Err c.in_err-drop_rule.field-0.0 = search rules in
    went_as g.K.Sink.writes _ _ _ _ _ _ _ r refl (c.loop-id.invariant.goes _ _ _ (each_off g.K.Sink.writes dropped_rule c.args.ids.now c.loop-id.id-index (get_or c.args.ids.now c.loop-id.id-index 0) (next_number c.args.ids.now c.loop-id.id-index c.loop-id-test.true) _ _ _ _ _ c.in_err-drop_rule.ensures.went))

pub loop-id-init : goal.loop-id-init
loop-id-init g c = record { fine = c.requires; goes = λ o s r h. h }

pub loop-id-preserved : goal.loop-id-preserved
loop-id-preserved g c = record {
  fine = went_fine g.K.Sink.writes _ _ _ _ _ c.in_ok-drop_rule.ensures.went;
  goes = λ o s r h. c.loop-id.invariant.goes o s r (each_then g.K.Sink.writes dropped_rule c.args.ids.now c.loop-id.id-index (get_or c.args.ids.now c.loop-id.id-index 0) (next_number c.args.ids.now c.loop-id.id-index c.loop-id-test.true) _ _ _ _ _ _ _ r c.in_ok-drop_rule.ensures.went h);
}

pub returns : goal.returns
returns g c =
    let none : drop c.loop-id.id-index c.args.ids.now ≡ [] = drop_all c.loop-id.id-index c.args.ids.now c.loop-id-test.false in
    c.loop-id.invariant.goes _ _ _ (went_quietly g.K.Sink.writes c.loop-id.out c.loop-id.self (Ok tt) _ c.loop-id.invariant.fine (ap (λ it. each dropped_rule it c.loop-id.self) none))
