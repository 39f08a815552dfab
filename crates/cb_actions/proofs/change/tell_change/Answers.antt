use Rattle.std.proofs.Common.{◌≡◌, Err, rules}
use Rattle.cb_actions.specs.Acts.{Act}
use Rattle.cb_actions.specs.Internal.{left_to_do}
use Rattle.cb_actions.specs.Worlds.{World, first_world}
use Rattle.cb_actions.proofs.ActLaws.{went_then, went_off}
use Rattle.cb_actions.proofs.WentLaws.{went_fine, went_result}
use Rattle.cb_actions.proofs.change.tell_change.Goals as goal

pub returns-in_err-tell : goal.returns-in_err-tell
returns-in_err-tell g c = λ s.
    let r : c.from_residual.result ≡ Err c.in_err-tell.field-0.0 = search rules in
    let next : Unit {0} → Act World (Unit {0}) = λ _. left_to_do c.args.done.now in
    went_result g.K.Sink.writes r (went_off g.K.Sink.writes _ _ _ _ _ next (c.in_err-tell.ensures s))

pub tell_rest-requires : goal.tell_rest-requires
tell_rest-requires g c = went_fine g.K.Sink.writes _ _ _ _ _ (c.in_ok-tell.ensures (first_world 0 0))

pub returns : goal.returns
returns g c = λ s.
    let next : Unit {0} → Act World (Unit {0}) = λ _. left_to_do c.args.done.now in
    went_then g.K.Sink.writes _ _ _ _ _ _ _ _ next (c.in_ok-tell.ensures s) (c.tell_rest.ensures s)
