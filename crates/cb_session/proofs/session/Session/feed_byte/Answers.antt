use Rattle.std.proofs.Common.{◌≡◌, ◌++◌, ◌∷◌, [], true, Err, is_some, refl, sym, ap, ◌∙◌, rules, subst}
use Rattle.cb_io.proofs.PutLaws.{puts_as, puts_none, puts_nothing}
use Rattle.cb_session.specs.Sessions.{SessionState}
use Rattle.cb_session.specs.Setups.{setup_of}
use Rattle.cb_session.specs.Transcripts.{added, so_far}
use Rattle.cb_io.specs.Output.{stop_extent}
use Rattle.cb_io.specs.declared.stop.Stop.TheVariants as stop
use Rattle.cb_session.proofs.PlaceLaws.{are-noted, line-here, not-none, places-push, still-noted}
use Rattle.cb_session.specs.Internal.Scripts.{AreNoted}
use Rattle.cb_session.specs.Places.{places_so_far}
use Rattle.cb_session.proofs.StepLaws.{after-end-adds, none-of, steps-cut, taken-after-end}
use Rattle.cb_session.proofs.session.Session.feed_byte.Goals as goal

pub invariant_of-self : goal.invariant_of-self
invariant_of-self g c =
    let inside = c.self.inside in
    let l = setup_of inside.limits inside.numbers in
    let some : is_some inside.status ≡ true = sym c.is_some.ensures ∙ c.if-is_some.true in
    let goes : inside.status ≡ (so_far l inside.fed.items).status = ap (λ (it : SessionState). it.status) c.self.view_is ∙ (c.requires.goes ∙ sym (ap (λ (it : SessionState). (so_far it.setup it.fed).status) c.self.view_is)) in (
      λ on none. absurd (not-none inside.status some none),
      λ on. rw c.and-self-inside.ensures (still-noted l inside.fed.items (c.args.byte ∷ []) inside.status inside.places goes some (c.self.invariant.1 on)),
    )

pub returns-then-is_some-clause-fed : goal.returns-then-is_some-clause-fed
returns-then-is_some-clause-fed g c =
    let some : is_some c.args.self.now.status ≡ true = rw (← c.self.view_is) (sym c.is_some.ensures ∙ c.if-is_some.true) in
    taken-after-end c.args.self.now _ (c.args.byte ∷ []) c.requires.on some c.requires.goes (rw c.and-self-inside.ensures (ap (λ (it : SessionState). record it { fed = it.fed ++ c.args.byte ∷ [] }) c.self.view_is))

pub returns-then-is_some-clause-puts : goal.returns-then-is_some-clause-puts
returns-then-is_some-clause-puts g c =
    let some : is_some c.args.self.now.status ≡ true = rw (← c.self.view_is) (sym c.is_some.ensures ∙ c.if-is_some.true) in
    puts_as g.K.Sink.writes _ _ _ _ _ _ refl (after-end-adds c.args.self.now.setup c.args.self.now.fed (c.args.byte ∷ []) c.args.self.now.status c.requires.goes some) (puts_none g.K.Sink.writes _ c.requires.fine)

pub returns-in_err-cut-clause-puts : goal.returns-in_err-cut-clause-puts
returns-in_err-cut-clause-puts g c =
    let r : c.from_residual.result ≡ Err stop.NoMemory = search rules in
    puts_as g.K.Sink.writes _ _ _ _ _ _ (ap stop_extent r) refl (puts_nothing g.K.Sink.writes _ _ c.requires.fine)

pub returns-in_err-status-clause-puts : goal.returns-in_err-status-clause-puts
returns-in_err-status-clause-puts g c =
    let way = c.self.invariant.0 (ap (λ it. it.stop) c.self.view_is ∙ c.requires.on) (none-of c.self.inside.status (sym c.is_some.ensures ∙ c.if-is_some.false)) in
    let told = c.in_ok-cut.ensures in
    let steps = steps-cut g.K.Sink.writes _ _ (setup_of c.self.inside.limits c.self.inside.numbers) c.self.inside.fed.items c.args.byte _ _ _ _ way c.in_ok-cut.cut _ told.limit told.stepped told.given told.items told.too_long told.ok c.in_err-status.ensures.run in
    let r : c.from_residual-in_err-status.result ≡ Err c.in_err-status.field-0.0 = search rules in
    puts_as g.K.Sink.writes _ _ _ _ _ _ (ap stop_extent r) (sym (ap (λ (it : SessionState). added it.setup it.fed (c.args.byte ∷ [])) c.self.view_is)) steps.puts

pub invariant_of-self-2 : goal.invariant_of-self-2
invariant_of-self-2 g c =
    let way = c.self.invariant.0 (ap (λ it. it.stop) c.self.view_is ∙ c.requires.on) (none-of c.self.inside.status (sym c.is_some.ensures ∙ c.if-is_some.false)) in
    let told = c.in_ok-cut.ensures in
    let steps = steps-cut g.K.Sink.writes _ _ (setup_of c.self.inside.limits c.self.inside.numbers) c.self.inside.fed.items c.args.byte _ _ _ _ way c.in_ok-cut.cut _ told.limit told.stepped told.given told.items told.too_long told.ok c.in_ok-status.ensures.run in
    let l = setup_of c.self.inside.limits c.self.inside.numbers in
    let fed = c.self.inside.fed.items in
    let known : c.self.inside.places ≡ places_so_far l fed = subst (λ o. AreNoted l fed o c.self.inside.places) (none-of c.self.inside.status (sym c.is_some.ensures ∙ c.if-is_some.false)) (c.self.invariant.1 (ap (λ it. it.stop) c.self.view_is ∙ c.requires.on)) in
    let now = places-push l fed _ _ way c.step.new.self c.args.byte c.in_ok-cut.cut c.line-line.result c.self.inside.places _ told.limit told.stepped told.given told.items told.too_long (line-here l fed _ _ way c.line-line.result c.line-line.ensures) known c.in_ok-status.ensures.places in (
      λ on none. rw c.and-self-inside-2.ensures (steps.goes none),
      λ on. rw c.and-self-inside-2.ensures (are-noted l (fed ++ c.args.byte ∷ []) _ _ steps.status now),
    )

pub returns-clause-fed : goal.returns-clause-fed
returns-clause-fed g c =
    let way = c.self.invariant.0 (ap (λ it. it.stop) c.self.view_is ∙ c.requires.on) (none-of c.self.inside.status (sym c.is_some.ensures ∙ c.if-is_some.false)) in
    let told = c.in_ok-cut.ensures in
    let steps = steps-cut g.K.Sink.writes _ _ (setup_of c.self.inside.limits c.self.inside.numbers) c.self.inside.fed.items c.args.byte _ _ _ _ way c.in_ok-cut.cut _ told.limit told.stepped told.given told.items told.too_long told.ok c.in_ok-status.ensures.run in
    rw (← c.self.view_is, c.and-self-inside-2.ensures, steps.status) refl

pub returns-clause-puts : goal.returns-clause-puts
returns-clause-puts g c =
    let way = c.self.invariant.0 (ap (λ it. it.stop) c.self.view_is ∙ c.requires.on) (none-of c.self.inside.status (sym c.is_some.ensures ∙ c.if-is_some.false)) in
    let told = c.in_ok-cut.ensures in
    let steps = steps-cut g.K.Sink.writes _ _ (setup_of c.self.inside.limits c.self.inside.numbers) c.self.inside.fed.items c.args.byte _ _ _ _ way c.in_ok-cut.cut _ told.limit told.stepped told.given told.items told.too_long told.ok c.in_ok-status.ensures.run in
    puts_as g.K.Sink.writes _ _ _ _ _ _ refl (sym (ap (λ (it : SessionState). added it.setup it.fed (c.args.byte ∷ [])) c.self.view_is)) steps.puts
