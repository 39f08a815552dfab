use Rattle.cb_constraints.proofs.Alternatives.{none-fails, one-enough, only-by-one}
use Rattle.cb_constraints.proofs.laws.one_alternative_is_enough.Goals as goal

pub returns-clause-holds : goal.returns-clause-holds
returns-clause-holds c = one-enough

pub returns-clause-fails : goal.returns-clause-fails
returns-clause-fails c = none-fails

pub returns-clause-only : goal.returns-clause-only
returns-clause-only c = only-by-one
