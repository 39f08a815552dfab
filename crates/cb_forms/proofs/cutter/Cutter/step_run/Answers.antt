use Rattle.std.proofs.Common.{◌≡◌, ◌+◌, ◌-◌, ◌++◌, take, sym, ap, ◌∙◌}
use Rattle.cb_forms.specs.Cutter.{readings_in}
use Rattle.cb_forms.specs.Internal.{line_with}
use Rattle.cb_forms.specs.Lines.{line_feeds}
use Rattle.cb_forms.proofs.RunLaws.{in_step-run}
use Rattle.cb_forms.proofs.cutter.Cutter.step_run.Goals as goal

pub invariant_of-self-2 : goal.invariant_of-self-2
invariant_of-self-2 c =
    let here = c.self.inside in
    let run = take c.in_ok-taken.taken c.args.bytes.now in
    let further = c.line_past-self-inside.ensures ∙ (ap (λ it. line_with here.line (it + line_feeds c.split_at.result.0.now - line_feeds c.step_run.new.self.bytes)) c.line_feeds-inside.ensures.value ∙ ap (λ it. line_with here.line (line_feeds here.part.bytes + line_feeds it - line_feeds c.step_run.new.self.bytes)) c.split_at.ensures.front) in
    let stepped : c.with_run-self-inside.result.items ≡ here.stepped.items ++ run = c.with_run-self-inside.ensures ∙ ap (λ it. here.stepped.items ++ it) c.split_at.ensures.front in
    λ _. in_step-run here.limit here.stepped.items c.with_run-self-inside.result.items run (readings_in here.given.items) here.part c.step_run.new.self here.over here.line c.line_past-self-inside.result c.if-self-2.false (c.self.invariant c.if-self.false) c.in_ok-taken.ensures.passed stepped further

pub returns-clause-items : goal.returns-clause-items
returns-clause-items c =
    let here = c.self.inside in
    let run = take c.in_ok-taken.taken c.args.bytes.now in
    let further = c.line_past-self-inside.ensures ∙ (ap (λ it. line_with here.line (it + line_feeds c.split_at.result.0.now - line_feeds c.step_run.new.self.bytes)) c.line_feeds-inside.ensures.value ∙ ap (λ it. line_with here.line (line_feeds here.part.bytes + line_feeds it - line_feeds c.step_run.new.self.bytes)) c.split_at.ensures.front) in
    let stepped : c.with_run-self-inside.result.items ≡ here.stepped.items ++ run = c.with_run-self-inside.ensures ∙ ap (λ it. here.stepped.items ++ it) c.split_at.ensures.front in
    let after = in_step-run here.limit here.stepped.items c.with_run-self-inside.result.items run (readings_in here.given.items) here.part c.step_run.new.self here.over here.line c.line_past-self-inside.result c.if-self-2.false (c.self.invariant c.if-self.false) c.in_ok-taken.ensures.passed stepped further in
    λ _. after.given_is c.if-self-2.false

pub returns-clause-fits : goal.returns-clause-fits
returns-clause-fits c =
    let here = c.self.inside in
    let run = take c.in_ok-taken.taken c.args.bytes.now in
    let further = c.line_past-self-inside.ensures ∙ (ap (λ it. line_with here.line (it + line_feeds c.split_at.result.0.now - line_feeds c.step_run.new.self.bytes)) c.line_feeds-inside.ensures.value ∙ ap (λ it. line_with here.line (line_feeds here.part.bytes + line_feeds it - line_feeds c.step_run.new.self.bytes)) c.split_at.ensures.front) in
    let stepped : c.with_run-self-inside.result.items ≡ here.stepped.items ++ run = c.with_run-self-inside.ensures ∙ ap (λ it. here.stepped.items ++ it) c.split_at.ensures.front in
    let after = in_step-run here.limit here.stepped.items c.with_run-self-inside.result.items run (readings_in here.given.items) here.part c.step_run.new.self here.over here.line c.line_past-self-inside.result c.if-self-2.false (c.self.invariant c.if-self.false) c.in_ok-taken.ensures.passed stepped further in
    λ _. sym after.over_is ∙ c.if-self-2.false
