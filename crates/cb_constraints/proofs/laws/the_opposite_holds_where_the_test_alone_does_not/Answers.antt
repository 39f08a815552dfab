use Rattle.cb_constraints.proofs.Opposites.{opposite-fails, opposite-holds}
use Rattle.cb_constraints.proofs.laws.the_opposite_holds_where_the_test_alone_does_not.Goals as goal

pub returns-clause-holds : goal.returns-clause-holds
returns-clause-holds c = opposite-holds

pub returns-clause-fails : goal.returns-clause-fails
returns-clause-fails c = opposite-fails
