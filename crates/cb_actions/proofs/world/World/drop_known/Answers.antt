use Rattle.std.proofs.Common.{◌≡◌, Err, None, ap, option_map, rules}
use Rattle.cb_actions.specs.Commands.{undefined_if}
use Rattle.cb_actions.proofs.ActLaws.{went_quietly}
use Rattle.cb_rules.specs.RuleTables.{rule_named}
use Rattle.cb_actions.specs.declared.act.Break.TheVariants as break
use Rattle.cb_actions.specs.declared.act.EarlyEnd.TheVariants as ended
use Rattle.cb_forms.specs.declared.fault.Fault.TheVariants.{NoSuchRule}
use Rattle.cb_actions.proofs.world.World.drop_known.Goals as goal

pub returns-in-None : goal.returns-in-None
returns-in-None g c =
    let none : option_map (λ r. r.id) (rule_named c.args.name.now c.args.self.now.rules) ≡ None = search rules in
    went_quietly g.K.Sink.writes _ _ (Err (break.Ended (ended.Fault NoSuchRule))) _ c.requires (ap (λ o. undefined_if o c.args.self.now) none)
