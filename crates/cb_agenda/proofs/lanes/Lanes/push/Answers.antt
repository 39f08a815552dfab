use Rattle.cb_agenda.proofs.LaneCalls.{pushed_rises}
use Rattle.cb_agenda.specs.Internal.{laned}
use Rattle.cb_agenda.proofs.lanes.Lanes.push.Goals as goal

pub invariant_of-self : goal.invariant_of-self
invariant_of-self c = (
  pushed_rises c.push_to.result c.args.rank c.args.place (laned c.self.inside.lanes.entries) (laned c.push_to.new.lanes.entries) c.push_to.ensures.ok c.push_to.ensures.err c.self.invariant.0,
  c.push_to.ensures.filled c.self.invariant.1,
)

pub returns-clause-rising : goal.returns-clause-rising
returns-clause-rising c =
    pushed_rises c.push_to.result c.args.rank c.args.place (laned c.self.inside.lanes.entries) (laned c.push_to.new.lanes.entries) c.push_to.ensures.ok c.push_to.ensures.err c.self.invariant.0
