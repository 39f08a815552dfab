use Rattle.std.proofs.Common.{◌≡◌, ◌+◌, ◌-◌, [], ◌∷◌, ◌++◌, sym, ap, ◌∙◌}
use Rattle.std.proofs.lemmas.List.{map-append}
use Rattle.cb_forms.specs.Cuts.{cut_items}
use Rattle.cb_forms.specs.Internal.Cuts.{cut_readings}
use Rattle.cb_forms.specs.Cutter.{readings_in}
use Rattle.cb_forms.specs.Internal.{line_with}
use Rattle.cb_forms.specs.Lines.{line_feeds}
use Rattle.cb_forms.specs.Trees.{reading_of}
use Rattle.cb_forms.proofs.CutterLaws.{in_step-push, in_step-over}
use Rattle.cb_forms.proofs.cutter.Cutter.step.Goals as goal

pub invariant_of-self : goal.invariant_of-self
invariant_of-self c =
    let here = c.self.inside in
    λ fine. in_step-over here.limit here.stepped.items c.and-self-inside.result.items c.args.byte (readings_in here.given.items) here.part here.over here.line c.if-self-2.true (c.self.invariant fine) c.and-self-inside.ensures

pub returns-then-self-2-clause-items : goal.returns-then-self-2-clause-items
returns-then-self-2-clause-items c =
    let here = c.self.inside in
    let after = in_step-over here.limit here.stepped.items c.and-self-inside.result.items c.args.byte (readings_in here.given.items) here.part here.over here.line c.if-self-2.true (c.self.invariant c.if-self.false) c.and-self-inside.ensures in
    λ fits. after.given_is (after.over_is ∙ fits)

pub returns-then-self-2-clause-too_long : goal.returns-then-self-2-clause-too_long
returns-then-self-2-clause-too_long c =
    let here = c.self.inside in
    let after = in_step-over here.limit here.stepped.items c.and-self-inside.result.items c.args.byte (readings_in here.given.items) here.part here.over here.line c.if-self-2.true (c.self.invariant c.if-self.false) c.and-self-inside.ensures in
    sym c.if-self-2.true ∙ after.over_is

pub invariant_of-self-2 : goal.invariant_of-self-2
invariant_of-self-2 c =
    let here = c.self.inside in
    let further = c.line_past-self-inside.ensures ∙ ap (λ it. line_with here.line (it + line_feeds (c.args.byte ∷ []) - line_feeds c.step.new.self.bytes)) c.line_feeds-inside.ensures.value in
    let more : readings_in c.noted-self-inside.result.items ≡ readings_in here.given.items ++ cut_readings c.in_ok-cut.cut = ap readings_in c.noted-self-inside.ensures ∙ map-append reading_of here.given.items (cut_items c.in_ok-cut.cut) in
    λ _. in_step-push here.limit here.stepped.items c.and-self-inside-2.result.items c.args.byte (readings_in here.given.items) (readings_in c.noted-self-inside.result.items) c.in_ok-cut.cut here.part c.step.new.self here.over c.is_too_long-self-inside.result here.line c.line_past-self-inside.result c.if-self-2.false (c.self.invariant c.if-self.false) c.in_ok-cut.ensures c.and-self-inside-2.ensures more c.is_too_long-self-inside.ensures further

pub returns-clause-items : goal.returns-clause-items
returns-clause-items c =
    let here = c.self.inside in
    let further = c.line_past-self-inside.ensures ∙ ap (λ it. line_with here.line (it + line_feeds (c.args.byte ∷ []) - line_feeds c.step.new.self.bytes)) c.line_feeds-inside.ensures.value in
    let more : readings_in c.noted-self-inside.result.items ≡ readings_in here.given.items ++ cut_readings c.in_ok-cut.cut = ap readings_in c.noted-self-inside.ensures ∙ map-append reading_of here.given.items (cut_items c.in_ok-cut.cut) in
    let after = in_step-push here.limit here.stepped.items c.and-self-inside-2.result.items c.args.byte (readings_in here.given.items) (readings_in c.noted-self-inside.result.items) c.in_ok-cut.cut here.part c.step.new.self here.over c.is_too_long-self-inside.result here.line c.line_past-self-inside.result c.if-self-2.false (c.self.invariant c.if-self.false) c.in_ok-cut.ensures c.and-self-inside-2.ensures more c.is_too_long-self-inside.ensures further in
    λ fits. after.given_is (after.over_is ∙ fits)

pub returns-clause-too_long : goal.returns-clause-too_long
returns-clause-too_long c =
    let here = c.self.inside in
    let further = c.line_past-self-inside.ensures ∙ ap (λ it. line_with here.line (it + line_feeds (c.args.byte ∷ []) - line_feeds c.step.new.self.bytes)) c.line_feeds-inside.ensures.value in
    let more : readings_in c.noted-self-inside.result.items ≡ readings_in here.given.items ++ cut_readings c.in_ok-cut.cut = ap readings_in c.noted-self-inside.ensures ∙ map-append reading_of here.given.items (cut_items c.in_ok-cut.cut) in
    let after = in_step-push here.limit here.stepped.items c.and-self-inside-2.result.items c.args.byte (readings_in here.given.items) (readings_in c.noted-self-inside.result.items) c.in_ok-cut.cut here.part c.step.new.self here.over c.is_too_long-self-inside.result here.line c.line_past-self-inside.result c.if-self-2.false (c.self.invariant c.if-self.false) c.in_ok-cut.ensures c.and-self-inside-2.ensures more c.is_too_long-self-inside.ensures further in
    sym c.is_too_long-self-inside.ensures ∙ after.over_is
