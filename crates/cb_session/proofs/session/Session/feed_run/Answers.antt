use Rattle.std.proofs.Common.{◌≡◌, ◌++◌, Ok, None, Some, true, is_some, take, refl, sym, ap, ◌∙◌, rules, subst}
use Rattle.std.proofs.Math.Seq.{take-length}
use Rattle.cb_session.specs.Internal.Scripts.{AreNoted, IsUnderWay}
use Rattle.cb_session.specs.Places.{places_so_far}
use Rattle.cb_session.proofs.PlaceLaws.{not-none, places-run, still-noted}
use Rattle.cb_session.specs.Sessions.{SessionState}
use Rattle.cb_session.specs.Setups.{setup_of}
use Rattle.cb_session.specs.Transcripts.{so_far}
use Rattle.cb_session.proofs.ScriptLaws.{run-nothing, way-status, way-taken}
use Rattle.cb_session.proofs.StepLaws.{after-end-adds, taken-after-end}
use Rattle.cb_session.proofs.session.Session.feed_run.Goals as goal

pub returns-in-Some-clause-fed : goal.returns-in-Some-clause-fed
returns-in-Some-clause-fed g c =
    let some : is_some c.args.self.now.status ≡ true = rw (← c.self.view_is) (ap is_some c.in-Some.is) in
    let all = take-length c.args.bytes.now in
    rw all (taken-after-end c.args.self.now _ c.args.bytes.now c.requires.on some c.requires.goes (rw c.with_all-self-inside.ensures (ap (λ (it : SessionState). record it { fed = it.fed ++ c.args.bytes.now }) c.self.view_is)))

pub returns-in-Some-clause-adds : goal.returns-in-Some-clause-adds
returns-in-Some-clause-adds g c =
    let some : is_some c.args.self.now.status ≡ true = rw (← c.self.view_is) (ap is_some c.in-Some.is) in
    let all = take-length c.args.bytes.now in
    rw all (after-end-adds c.args.self.now.setup c.args.self.now.fed c.args.bytes.now c.args.self.now.status c.requires.goes some)

pub invariant_of-self : goal.invariant_of-self
invariant_of-self g c =
    let inside = c.self.inside in
    let l = setup_of inside.limits inside.numbers in
    let some : is_some inside.status ≡ true = ap is_some c.in-Some.is in
    let goes : inside.status ≡ (so_far l inside.fed.items).status = ap (λ (it : SessionState). it.status) c.self.view_is ∙ (c.requires.goes ∙ sym (ap (λ (it : SessionState). (so_far it.setup it.fed).status) c.self.view_is)) in (
      λ on none. absurd (not-none inside.status some none),
      λ on. rw c.with_all-self-inside.ensures (still-noted l inside.fed.items c.args.bytes.now inside.status inside.places goes some (c.self.invariant.1 on)),
    )

pub invariant_of-self-2 : goal.invariant_of-self-2
invariant_of-self-2 g c =
    let inside = c.self.inside in
    let l = setup_of inside.limits inside.numbers in
    let none : inside.status ≡ None = search rules in
    let on = ap (λ it. it.stop) c.self.view_is ∙ c.requires.on in
    let way = c.self.invariant.0 on none in
    let told = c.in_ok-n.ensures in
    let after : IsUnderWay l (inside.fed.items ++ take c.in_ok-n.n c.args.bytes.now) c.step_run.new.self inside.engine =
    way-taken _ _ _ _ way c.args.bytes.now c.in_ok-n.n _ told.limit told.stepped told.given told.items told.fits (λ e. told.untouched (ap Ok e)) told.ok in
    let known : inside.places ≡ places_so_far l inside.fed.items = subst (λ o. AreNoted l inside.fed.items o inside.places) none (c.self.invariant.1 on) in
    let now : AreNoted l (inside.fed.items ++ take c.in_ok-n.n c.args.bytes.now) None inside.places = places-run l inside.fed.items _ _ way (take c.in_ok-n.n c.args.bytes.now) c.step_run.new.self inside.places after told.given known in (
      λ _ _. rw (c.with_all-self-inside-2.ensures, c.split_at.ensures.front) after,
      λ _. rw (c.with_all-self-inside-2.ensures, c.split_at.ensures.front) (subst (λ o. AreNoted l (inside.fed.items ++ take c.in_ok-n.n c.args.bytes.now) o inside.places) (sym none) now),
    )

pub returns-clause-fed : goal.returns-clause-fed
returns-clause-fed g c =
    let none : c.self.inside.status ≡ None = search rules in
    let way = c.self.invariant.0 (ap (λ it. it.stop) c.self.view_is ∙ c.requires.on) none in
    let told = c.in_ok-n.ensures in
    let after : IsUnderWay (setup_of c.self.inside.limits c.self.inside.numbers) (c.self.inside.fed.items ++ take c.in_ok-n.n c.args.bytes.now) c.step_run.new.self c.self.inside.engine =
    way-taken _ _ _ _ way c.args.bytes.now c.in_ok-n.n _ told.limit told.stepped told.given told.items told.fits (λ e. told.untouched (ap Ok e)) told.ok in
    let status : c.self.inside.status ≡ (so_far (setup_of c.self.inside.limits c.self.inside.numbers) (c.self.inside.fed.items ++ take c.in_ok-n.n c.args.bytes.now)).status = none ∙ sym (way-status _ _ _ _ after) in
    rw (← c.self.view_is, c.with_all-self-inside-2.ensures, c.split_at.ensures.front, status) refl

pub returns-clause-adds : goal.returns-clause-adds
returns-clause-adds g c =
    let none : c.self.inside.status ≡ None = search rules in
    let way = c.self.invariant.0 (ap (λ it. it.stop) c.self.view_is ∙ c.requires.on) none in
    let told = c.in_ok-n.ensures in
    let after : IsUnderWay (setup_of c.self.inside.limits c.self.inside.numbers) (c.self.inside.fed.items ++ take c.in_ok-n.n c.args.bytes.now) c.step_run.new.self c.self.inside.engine =
    way-taken _ _ _ _ way c.args.bytes.now c.in_ok-n.n _ told.limit told.stepped told.given told.items told.fits (λ e. told.untouched (ap Ok e)) told.ok in
    rw (← c.self.view_is) (run-nothing _ _ _ _ way (take c.in_ok-n.n c.args.bytes.now) _ after told.given)
