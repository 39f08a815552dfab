use Rattle.std.proofs.Common.{◌≡◌, Err, Option, refl, sym, ap, rules}
use Rattle.cb_actions.specs.Acts.{Act, ◌>>=◌}
use Rattle.cb_actions.specs.Definitions.{all_asserted, all_evaluated}
use Rattle.cb_actions.specs.Runs.{restarted_world}
use Rattle.cb_actions.specs.Worlds.{World}
use Rattle.cb_actions.proofs.ActLaws.{went_as, went_off, went_quietly, went_then}
use Rattle.cb_facts.specs.declared.value.Value.{Value}
use Rattle.cb_io.proofs.PutLaws.{puts_fine}
use Rattle.cb_knowledge_base.specs.Deffacts.{DeffactsTable, kept_facts}
use Rattle.cb_session.proofs.WorldLaws.{quietly_off}
use Rattle.cb_session.specs.Actions.{variables_dropped}
use Rattle.cb_session.proofs.reset.reset_world.Goals as goal

-- what follows the restart, and what follows the globals
abbrev facts : DeffactsTable → Unit {0} → Act World (Option Value)
facts deffacts _ = all_asserted (kept_facts deffacts)

abbrev rest : DeffactsTable → Option Value → Act World (Option Value)
rest deffacts _ = variables_dropped >>= (λ _. restarted_world >>= facts deffacts)

pub returns-in_err-evaluate_anew : goal.returns-in_err-evaluate_anew
returns-in_err-evaluate_anew g c =
    let r : c.from_residual.result ≡ Err c.in_err-evaluate_anew.field-0.0 = search rules in
    went_as g.K.Sink.writes _ _ _ _ _ _ _ r refl (went_quietly g.K.Sink.writes _ _ _ _ c.requires
    (quietly_off _ _ (all_evaluated c.args.globals.now c.args.world.now) (rest c.args.deffacts.now) c.in_err-evaluate_anew.ensures))

pub returns-in_err-restart : goal.returns-in_err-restart
returns-in_err-restart g c =
    let r : c.from_residual-in_err-restart.result ≡ Err c.in_err-restart.field-0.0 = search rules in
    let first = went_quietly g.K.Sink.writes c.args.out.now _ _ (all_evaluated c.args.globals.now c.args.world.now) c.requires c.in_ok-evaluate_anew.ensures in
    let off = went_off g.K.Sink.writes _ _ _ c.in_err-restart.field-0.0 (restarted_world c.drop_variables.new.self) (facts c.args.deffacts.now) c.in_err-restart.ensures in
    let now = went_as g.K.Sink.writes _ _ _ _ _ _ _ r (ap (restarted_world >>= facts c.args.deffacts.now) (sym c.drop_variables.ensures)) off in
    went_then g.K.Sink.writes _ _ _ _ _ _ _ (all_evaluated c.args.globals.now c.args.world.now) (rest c.args.deffacts.now) first now

pub assert_deffacts-requires : goal.assert_deffacts-requires
assert_deffacts-requires g c = puts_fine g.K.Sink.writes _ _ _ c.in_ok-restart.ensures.puts

pub returns : goal.returns
returns g c =
    let first = went_quietly g.K.Sink.writes c.args.out.now _ _ (all_evaluated c.args.globals.now c.args.world.now) c.requires c.in_ok-evaluate_anew.ensures in
    let both = went_then g.K.Sink.writes _ _ _ _ _ _ _ (restarted_world c.drop_variables.new.self) (facts c.args.deffacts.now) c.in_ok-restart.ensures c.assert_deffacts.ensures.went in
    let now = went_as g.K.Sink.writes _ _ _ _ _ _ _ refl (ap (restarted_world >>= facts c.args.deffacts.now) (sym c.drop_variables.ensures)) both in
    went_then g.K.Sink.writes _ _ _ _ _ _ _ (all_evaluated c.args.globals.now c.args.world.now) (rest c.args.deffacts.now) first now
