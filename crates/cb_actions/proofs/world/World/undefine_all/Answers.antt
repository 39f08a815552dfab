use Rattle.std.proofs.Common.{◌≡◌, Err, List, None, ℕ, Ok, Option, map, refl, rules, sym, ap}
use Rattle.cb_actions.specs.Acts.{Act, each, give, ◌>>=◌}
use Rattle.cb_actions.proofs.ActLaws.{went_then, went_off, went_quietly, went_as}
use Rattle.cb_actions.specs.Runs.{dropped_rule}
use Rattle.cb_actions.specs.Worlds.{World}
use Rattle.cb_actions.specs.declared.act.Break.TheVariants as break
use Rattle.cb_io.specs.declared.stop.Stop.TheVariants as stop
use Rattle.cb_actions.proofs.WentLaws.{went_fine, went_result, went_unbegun}
use Rattle.cb_facts.specs.declared.value.Value.{Value}
use Rattle.cb_actions.proofs.world.World.undefine_all.Goals as goal

abbrev nothing : Unit {0} → Act World (Option Value)
nothing _ = give None

pub returns-in_err-ids : goal.returns-in_err-ids
returns-in_err-ids g c =
    let r : c.from_residual.result ≡ Err (break.Stop stop.NoMemory) = search rules in
    went_result g.K.Sink.writes r (went_unbegun g.K.Sink.writes _ _ _ c.requires)

pub returns-in_err-drop_rules : goal.returns-in_err-drop_rules
returns-in_err-drop_rules g c =
    let s = c.args.self.now in
    let r : c.from_residual-in_err-drop_rules.result ≡ Err c.in_err-drop_rules.field-0.0 = search rules in
    let ids : c.as_slice.result.now ≡ map (λ r. r.id) s.rules = search rules in
    went_as g.K.Sink.writes _ _ _ _ _ _ _ r (ap (λ (xs : List ℕ). (each dropped_rule xs >>= nothing) s) (sym ids)) (went_off g.K.Sink.writes _ _ _ _ _ nothing c.in_err-drop_rules.ensures)

pub returns : goal.returns
returns g c =
    let s = c.args.self.now in
    let ids : c.as_slice.result.now ≡ map (λ r. r.id) s.rules = search rules in
    went_as g.K.Sink.writes _ _ _ _ _ _ _ refl (ap (λ (xs : List ℕ). (each dropped_rule xs >>= nothing) s) (sym ids)) (went_then g.K.Sink.writes _ _ _ _ _ _ _ _ nothing c.in_ok-drop_rules.ensures
    (went_quietly g.K.Sink.writes _ _ (Ok None) _ (went_fine g.K.Sink.writes _ _ _ _ _ c.in_ok-drop_rules.ensures) refl))
