use Rattle.cb_forms.specs.Cutter.{readings_in}
use Rattle.cb_forms.proofs.CutterLaws.{line-open}
use Rattle.cb_forms.proofs.cutter.Cutter.line.Goals as goal

pub returns : goal.returns
returns c =
    let here = c.self.inside in
    rw (← c.self.view_is) (λ fine fits. line-open here.limit here.stepped.items (readings_in here.given.items) here.part here.over here.line (c.self.invariant fine) fits)
