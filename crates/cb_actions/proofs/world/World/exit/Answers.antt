use Rattle.std.proofs.Common.{◌≡◌, Err, None, ap, option_map, rules}
use Rattle.cb_actions.specs.Commands.{exited}
use Rattle.cb_actions.proofs.ActLaws.{went_quietly}
use Rattle.cb_actions.specs.declared.act.Break.TheVariants as break
use Rattle.cb_actions.specs.declared.act.EarlyEnd.TheVariants as ended
use Rattle.cb_exprs.specs.Terms.{term_of}
use Rattle.cb_actions.proofs.world.World.exit.Goals as goal

pub returns-in-None : goal.returns-in-None
returns-in-None g c =
    let none : option_map (λ e. term_of e.now) c.args.status ≡ None = search rules in
    went_quietly g.K.Sink.writes _ _ (Err (break.Ended (ended.Exit None))) _ c.requires (ap (λ o. exited o c.args.self.now) none)
