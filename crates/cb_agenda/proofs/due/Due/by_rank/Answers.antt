use Rattle.std.proofs.Common.{subst}
use Rattle.cb_agenda.proofs.CurrentLaws.{rises_current}
use Rattle.cb_agenda.specs.Internal.{NumberedDue, Rises, active_at}
use Rattle.cb_agenda.proofs.due.Due.by_rank.Goals as goal

pub returns-clause-rising : goal.returns-clause-rising
returns-clause-rising c =
    subst (λ (d : NumberedDue). Rises d.due.entries) c.self.view_is (rises_current (active_at c.self.inside.activations) c.self.inside.lanes c.by_rank.ensures.rising)
