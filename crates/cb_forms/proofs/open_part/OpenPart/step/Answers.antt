use Rattle.std.proofs.Common.{◌≡◌, true, false, sym, ◌∙◌}
use Rattle.cb_forms.specs.Items.{part_takes}
use Rattle.cb_forms.proofs.ScanStateLaws.{state-takes}
use Rattle.cb_forms.proofs.open_part.OpenPart.step.Goals as goal

pub go_on-requires-clause-takes : goal.go_on-requires-clause-takes
go_on-requires-clause-takes c =
    state-takes c.args.self.now.spelled.items c.args.self.now.state.mode c.args.self.now.state.depth c.args.byte c.requires.state_is ∙ (sym c.takes.ensures ∙ c.if-takes.true)

pub returns-then-takes : goal.returns-then-takes
returns-then-takes c =
    let takes : part_takes c.args.self.now.spelled.items c.args.byte ≡ true = state-takes c.args.self.now.spelled.items c.args.self.now.state.mode c.args.self.now.state.depth c.args.byte c.requires.state_is ∙ (sym c.takes.ensures ∙ c.if-takes.true) in
    rw takes c.go_on.ensures

pub returns-else-takes : goal.returns-else-takes
returns-else-takes c =
    let takes : part_takes c.args.self.now.spelled.items c.args.byte ≡ false = state-takes c.args.self.now.spelled.items c.args.self.now.state.mode c.args.self.now.state.depth c.args.byte c.requires.state_is ∙ (sym c.takes.ensures ∙ c.if-takes.false) in
    rw takes c.begin.ensures
