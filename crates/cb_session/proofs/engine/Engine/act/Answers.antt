use Rattle.std.proofs.Common.{◌≡◌, ◌∙◌, Ok, Err, refl, sym, ap, rules}
use Rattle.cb_actions.proofs.ActLaws.{went_as, went_off}
use Rattle.cb_actions.specs.declared.act.Break.TheVariants as break
use Rattle.cb_forms.specs.Trees.{reading_of}
use Rattle.cb_io.proofs.PutLaws.{puts_fine}
use Rattle.cb_requests.specs.Requests.{request_by}
use Rattle.cb_session.specs.Actions.{acted, performed, shown}
use Rattle.cb_session.specs.States.{State}
use Rattle.cb_session.proofs.AskedLaws.{refused_so, requested_so}
use Rattle.cb_session.proofs.ItemLaws.{went_not_shown, went_refused, went_shown, acted-request}
use Rattle.cb_session.proofs.engine.Engine.act.Goals as goal

pub show-requires : goal.show-requires
show-requires g c = puts_fine g.K.Sink.writes _ _ _ c.in_ok-value.ensures.puts

pub returns-in-Err : goal.returns-in-Err
returns-in-Err g c =
    let inside = c.self.inside in
    let state : State = record { world = inside.world; deffacts = inside.deffacts; globals = inside.globals; is_faulted = inside.is_faulted } in
    let reading = reading_of c.args.item.now in
    let tells = refused_so state reading c.relations.result.now c.env.result.now c.memory.result.now.memory c.rules.result.now inside.deffacts c.relations.ensures c.env.ensures c.memory.ensures c.rules.ensures refl c.in-Err.refused c.in-Err.ensures in
    went_as g.K.Sink.writes _ _ _ _ _ _ _ (ap Err c.from.ensures) (ap (acted reading) (sym c.self.view_is)) (went_refused g.K.Sink.writes _ state reading c.in-Err.refused c.requires tells)

pub returns-in_err-value : goal.returns-in_err-value
returns-in_err-value g c =
    let inside = c.self.inside in
    let state : State = record { world = inside.world; deffacts = inside.deffacts; globals = inside.globals; is_faulted = inside.is_faulted } in
    let reading = reading_of c.args.item.now in
    let request = request_by c.in-Ok.request in
    let is = requested_so state reading c.relations.result.now c.env.result.now c.memory.result.now.memory c.rules.result.now inside.deffacts c.relations.ensures c.env.ensures c.memory.ensures c.rules.ensures refl (Ok request) c.in-Ok.ensures in
    let r : c.from_residual.result ≡ Err c.in_err-value.field-0.0 = search rules in
    went_as g.K.Sink.writes _ _ _ _ _ _ _ r (ap (acted reading) (sym c.self.view_is) ∙ acted-request state reading request is)
    (went_off g.K.Sink.writes _ _ _ c.in_err-value.field-0.0 (performed request state) shown c.in_err-value.ensures)

pub returns-in_err-show : goal.returns-in_err-show
returns-in_err-show g c =
    let inside = c.self.inside in
    let state : State = record { world = inside.world; deffacts = inside.deffacts; globals = inside.globals; is_faulted = inside.is_faulted } in
    let reading = reading_of c.args.item.now in
    let request = request_by c.in-Ok.request in
    let is = requested_so state reading c.relations.result.now c.env.result.now c.memory.result.now.memory c.rules.result.now inside.deffacts c.relations.ensures c.env.ensures c.memory.ensures c.rules.ensures refl (Ok request) c.in-Ok.ensures in
    let r : c.from_residual-in_err-show.result ≡ Err (break.Stop c.in_err-show.field-0.0) = search rules in
    went_as g.K.Sink.writes _ _ _ _ _ _ _ r (ap (acted reading) (sym c.self.view_is) ∙ acted-request state reading request is)
    (went_not_shown g.K.Sink.writes _ _ _ state _ request c.in_ok-value.value c.in_err-show.field-0.0 c.in_ok-value.ensures c.in_err-show.ensures)

pub returns : goal.returns
returns g c =
    let inside = c.self.inside in
    let state : State = record { world = inside.world; deffacts = inside.deffacts; globals = inside.globals; is_faulted = inside.is_faulted } in
    let reading = reading_of c.args.item.now in
    let request = request_by c.in-Ok.request in
    let is = requested_so state reading c.relations.result.now c.env.result.now c.memory.result.now.memory c.rules.result.now inside.deffacts c.relations.ensures c.env.ensures c.memory.ensures c.rules.ensures refl (Ok request) c.in-Ok.ensures in
    went_as g.K.Sink.writes _ _ _ _ _ _ _ refl (ap (acted reading) (sym c.self.view_is) ∙ acted-request state reading request is)
    (went_shown g.K.Sink.writes _ _ _ state _ request c.in_ok-value.value c.in_ok-value.ensures c.in_ok-show.ensures)
