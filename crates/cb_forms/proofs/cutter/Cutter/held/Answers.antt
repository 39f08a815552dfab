use Rattle.std.proofs.Common.{◌∙◌}
use Rattle.cb_forms.specs.Cutter.{readings_in}
use Rattle.cb_forms.proofs.CutterLaws.{held-rest, held-within}
use Rattle.cb_forms.proofs.cutter.Cutter.held.Goals as goal

pub returns-clause-rest : goal.returns-clause-rest
returns-clause-rest c =
    let here = c.self.inside in
    rw (← c.self.view_is) (λ fine fits. c.as_slice.ensures ∙ held-rest here.limit here.stepped.items (readings_in here.given.items) here.part here.over here.line (c.self.invariant fine) fits)

pub returns-clause-within : goal.returns-clause-within
returns-clause-within c =
    let here = c.self.inside in
    rw (← c.self.view_is, c.as_slice.ensures) (λ fine. held-within here.limit here.stepped.items (readings_in here.given.items) here.part here.over here.line (c.self.invariant fine))
