use Rattle.std.proofs.Common.{◌≡◌, ◌∙◌, ap, false, refl, rules, sym, true}
use Rattle.cb_actions.specs.Changes.{tell}
use Rattle.cb_actions.specs.Internal.{left_by}
use Rattle.cb_actions.proofs.ActLaws.{went_as, went_quietly}
use Rattle.cb_actions.proofs.rescheduled.Rescheduled.tell_rest.Goals as goal

pub returns-then-not-self : goal.returns-then-not-self
returns-then-not-self g c = λ s.
    let e : c.args.self.now.fits ≡ false = search rules in
    went_quietly g.K.Sink.writes _ _ _ _ c.requires (ap (λ fits. left_by fits c.args.self.now.lines.items s) e)

pub returns : goal.returns
returns g c = λ s.
    let e : c.args.self.now.fits ≡ true = search rules in
    went_as g.K.Sink.writes _ _ _ _ _ _ _ refl (ap (λ fits. left_by fits c.args.self.now.lines.items s) e ∙ ap (λ bytes. tell bytes s) (sym c.as_slice.ensures.value)) (c.tell.ensures s)
