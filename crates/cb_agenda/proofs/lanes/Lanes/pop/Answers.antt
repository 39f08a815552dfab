use Rattle.cb_agenda.proofs.LaneCalls.{popped_rises}
use Rattle.cb_agenda.specs.Internal.{laned}
use Rattle.cb_agenda.proofs.lanes.Lanes.pop.Goals as goal

pub invariant_of-self : goal.invariant_of-self
invariant_of-self c = (
  popped_rises c.args.strategy (laned c.self.inside.lanes.entries) (laned c.pop_from.new.lanes.entries) c.pop_from.result c.pop_from.ensures.some c.pop_from.ensures.none c.self.invariant.0,
  c.pop_from.ensures.filled,
)

pub returns-clause-rising : goal.returns-clause-rising
returns-clause-rising c =
    popped_rises c.args.strategy (laned c.self.inside.lanes.entries) (laned c.pop_from.new.lanes.entries) c.pop_from.result c.pop_from.ensures.some c.pop_from.ensures.none c.self.invariant.0
