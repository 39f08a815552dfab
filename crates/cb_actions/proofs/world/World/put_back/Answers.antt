use Rattle.std.proofs.Common.{◌≡◌, ◌∙◌, Err, ap, refl, rules, sym}
use Rattle.cb_actions.specs.Changes.{come_line}
use Rattle.cb_actions.specs.Internal.{told_so}
use Rattle.cb_actions.specs.declared.act.Break.TheVariants as break
use Rattle.cb_actions.proofs.ActLaws.{went_as, went_quietly}
use Rattle.cb_actions.proofs.WentLaws.{went_result, went_unbegun}
use Rattle.cb_io.specs.declared.stop.Stop.TheVariants as stop
use Rattle.cb_actions.proofs.world.World.put_back.Goals as goal

pub returns-in_err-line : goal.returns-in_err-line
returns-in_err-line g c =
    let r : c.from_residual.result ≡ Err (break.Stop stop.NoMemory) = search rules in
    went_result g.K.Sink.writes r (went_unbegun g.K.Sink.writes _ _ _ c.requires.fine)

pub returns-in_err-done : goal.returns-in_err-done
returns-in_err-done g c =
    let r : c.from_residual-in_err-done.result ≡ Err (break.Stop stop.NoMemory) = search rules in
    went_result g.K.Sink.writes r (went_quietly g.K.Sink.writes _ _ (Err (break.Stop stop.NoMemory)) _ c.requires.fine tt)

pub returns : goal.returns
returns g c =
    let s = c.args.self.now in
    let t = c.recall.new.self in
    let line : c.as_slice.result.now ≡ come_line s c.args.ix c.args.fact = c.as_slice.ensures.value ∙ c.in_ok-line.ensures in
    went_as g.K.Sink.writes _ _ _ _ _ _ _ refl (c.in_ok-done.ensures (come_line s c.args.ix c.args.fact) ∙ ap (λ bytes. told_so bytes c.in_ok-done.done t) (sym line)) (c.tell_change.ensures t)
