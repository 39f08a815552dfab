use Rattle.std.proofs.Common.{◌≡◌, Err, sym, ap, ap₂, ◌∙◌, Bool, Option, refl, rules}
use Rattle.cb_io.proofs.PutLaws.{puts_as}
use Rattle.cb_session.specs.Setups.{setup_of}
use Rattle.cb_session.specs.States.{State}
use Rattle.cb_session.specs.Sessions.{SessionState}
use Rattle.cb_session.specs.Transcripts.{added_at_end, status_at_end, status_of}
use Rattle.cb_io.specs.Output.{stop_extent}
use Rattle.cb_session.specs.declared.status.Status.{Status}
use Rattle.cb_session.proofs.session.Session.end.Goals as goal

pub returns-in_err-status-clause-puts : goal.returns-in_err-status-clause-puts
returns-in_err-status-clause-puts g c =
    let way = c.self.invariant.0 (ap (λ it. it.stop) c.self.view_is ∙ c.requires.on) (ap (λ it. it.status) c.self.view_is ∙ c.requires.goes) in
    let ends = c.in_err-status.ensures.run (setup_of c.self.inside.limits c.self.inside.numbers) c.self.inside.fed.items way in
    let r : c.from_residual.result ≡ Err c.in_err-status.field-0.0 = search rules in
    puts_as g.K.Sink.writes _ _ _ _ _ _ (ap stop_extent r) (sym (ap (λ (it : SessionState). added_at_end it.setup it.fed) c.self.view_is)) ends.puts

pub returns-clause-status : goal.returns-clause-status
returns-clause-status g c =
    let way = c.self.invariant.0 (ap (λ it. it.stop) c.self.view_is ∙ c.requires.on) (ap (λ it. it.status) c.self.view_is ∙ c.requires.goes) in
    let ends = c.in_ok-status.ensures.run (setup_of c.self.inside.limits c.self.inside.numbers) c.self.inside.fed.items way in
    c.status_at_end-status.ensures ∙ (ap₂ (λ (o : Option Status) (b : Bool). status_at_end o b) ends.status (c.is_faulted.ensures ∙ ap (λ (it : State). it.is_faulted) ends.state_is)
    ∙ ap (λ (it : SessionState). status_of it.setup it.fed) c.self.view_is)

pub returns-clause-puts : goal.returns-clause-puts
returns-clause-puts g c =
    let way = c.self.invariant.0 (ap (λ it. it.stop) c.self.view_is ∙ c.requires.on) (ap (λ it. it.status) c.self.view_is ∙ c.requires.goes) in
    let ends = c.in_ok-status.ensures.run (setup_of c.self.inside.limits c.self.inside.numbers) c.self.inside.fed.items way in
    puts_as g.K.Sink.writes _ _ _ _ _ _ refl (sym (ap (λ (it : SessionState). added_at_end it.setup it.fed) c.self.view_is)) ends.puts
