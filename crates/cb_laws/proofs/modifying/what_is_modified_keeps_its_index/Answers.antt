use Rattle.cb_laws.proofs.ModifyLaws.{comes, equal_other, equal_same}
use Rattle.cb_laws.proofs.modifying.what_is_modified_keeps_its_index.Goals as goal

pub returns-clause-comes : goal.returns-clause-comes
returns-clause-comes c = comes

pub returns-clause-same : goal.returns-clause-same
returns-clause-same c = equal_same

pub returns-clause-equal : goal.returns-clause-equal
returns-clause-equal c = equal_other
