use Rattle.std.proofs.Common.{subst}
use Rattle.cb_branch.proofs.Ready.{with_tests}
use Rattle.cb_branch.proofs.planning.add_to.Goals as goal
use Rattle.cb_branch.specs.Nodes.{IsPlannedNode}

pub returns-in_ok-push-clause-planned : goal.returns-in_ok-push-clause-planned
returns-in_ok-push-clause-planned g c = λ scopes was. with_tests scopes c.in-Join.alpha c.in-Join.node c.push.new.self (subst (IsPlannedNode scopes) c.in-Join.is was)
