use Rattle.cb_forms.proofs.ListStackLaws.{frames_in, closed_up-add}
use Rattle.cb_forms.proofs.list_stack.ListStack.add.Goals as goal

pub returns-clause-frames : goal.returns-clause-frames
returns-clause-frames c =
    λ levels. closed_up-add (frames_in c.args.self.now.outer.items) c.args.self.now.inner.items c.push.new.self.items c.args.form levels c.in_ok-push.ensures.items
