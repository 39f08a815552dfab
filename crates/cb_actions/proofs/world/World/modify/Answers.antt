use Rattle.std.proofs.Common.{◌≡◌, ◌∙◌, [], Err, Ok, ap, refl, rules, subst}
use Rattle.std.proofs.lemmas.List.{nil_from_length}
use Rattle.cb_actions.specs.Effects.{modified, modified_at, shared_out}
use Rattle.cb_actions.proofs.ActLaws.{went_then, went_off, went_quietly, went_as}
use Rattle.cb_actions.proofs.WentLaws.{went_ok, went_refused}
use Rattle.cb_actions.specs.Went.{Went}
use Rattle.cb_actions.specs.declared.act.EarlyEnd.TheVariants as ended
use Rattle.cb_forms.specs.declared.fault.Fault.TheVariants.{WrongType}
use Rattle.cb_templates.specs.Building.{Given}
use Rattle.cb_actions.specs.declared.act.Break.TheVariants as break
use Rattle.cb_io.specs.declared.stop.Stop.TheVariants as stop
use Rattle.cb_actions.proofs.world.World.modify.Goals as goal

pub returns-in_err-ix-clause-went : goal.returns-in_err-ix-clause-went
returns-in_err-ix-clause-went g c =
    let s = c.args.self.now in
    let next = modified_at (shared_out c.args.slots.now c.in-Some.rest.now) in
    let r : c.from_residual.result ≡ Err c.in_err-ix.field-0.0 = search rules in
    went_as g.K.Sink.writes _ _ _ _ _ _ _ r (ap (λ vs. modified c.args.slots.now vs s) c.in-Some.ensures.cases.0)
    (went_off g.K.Sink.writes _ _ _ _ _ next (went_quietly g.K.Sink.writes _ _ _ _ c.requires (c.in_err-ix.ensures s)))

pub returns-in_err-given-clause-went : goal.returns-in_err-given-clause-went
returns-in_err-given-clause-went g c =
    let s = c.args.self.now in
    let next = modified_at (shared_out c.args.slots.now c.in-Some.rest.now) in
    let r : c.from_residual-in_err-given.result ≡ Err (break.Stop stop.NoMemory) = search rules in
    went_as g.K.Sink.writes _ _ _ _ _ _ _ r (ap (λ vs. modified c.args.slots.now vs s) c.in-Some.ensures.cases.0)
    (went_refused g.K.Sink.writes _ _ _ _ _ _ next (went_quietly g.K.Sink.writes _ _ (Ok c.in_ok-ix.ix) _ c.requires (c.in_ok-ix.ensures s)))

pub returns-clause-went : goal.returns-clause-went
returns-clause-went g c =
    let s = c.args.self.now in
    let P : Given → Type 0 = λ it. Went g.K.Sink.writes c.args.out.now c.modify_at.new.out c.modify_at.new.self c.modify_at.result (modified_at it c.in_ok-ix.ix s) in
    let slots : shared_out c.as_slice.result.now c.in-Some.rest.now ≡ shared_out c.args.slots.now c.in-Some.rest.now = ap (λ it. shared_out it c.in-Some.rest.now) c.as_slice.ensures in
    let next = modified_at (shared_out c.args.slots.now c.in-Some.rest.now) in
    went_as g.K.Sink.writes _ _ _ _ _ _ _ refl (ap (λ vs. modified c.args.slots.now vs s) c.in-Some.ensures.cases.0)
    (went_then g.K.Sink.writes _ _ _ _ _ _ _ _ next (went_quietly g.K.Sink.writes _ _ (Ok c.in_ok-ix.ix) _ c.requires (c.in_ok-ix.ensures s)) (subst P (c.in_ok-given.ensures ∙ slots) c.modify_at.ensures))

pub returns-clause-fine : goal.returns-clause-fine
returns-clause-fine g c = went_ok g.K.Sink.writes _ _ _ _ _ c.modify_at.ensures

pub returns-in_default-clause-went : goal.returns-in_default-clause-went
returns-in_default-clause-went g c =
    let s = c.args.self.now in
    let none : c.args.values.now ≡ [] = nil_from_length c.args.values.now c.in_default.ensures.cases in
    went_as g.K.Sink.writes _ _ _ _ _ _ _ refl (ap (λ vs. modified c.args.slots.now vs s) none) (went_quietly g.K.Sink.writes _ s (Err (break.Ended (ended.Fault WrongType))) _ c.requires refl)
