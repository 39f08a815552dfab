use Rattle.std.proofs.Common.{refl}
use Rattle.cb_laws.proofs.ModifyLaws.{does_not_fit, not_there, says_none, says_which}
use Rattle.cb_laws.proofs.modifying.a_modify_that_does_not_fit_changes_nothing.Goals as goal

pub returns-clause-fact : goal.returns-clause-fact
returns-clause-fact c = says_which

pub returns-clause-no_index : goal.returns-clause-no_index
returns-clause-no_index c = says_none

pub returns-clause-symbol : goal.returns-clause-symbol
returns-clause-symbol c = λ name. refl

pub returns-clause-address : goal.returns-clause-address
returns-clause-address c = λ ix. refl

pub returns-clause-missing : goal.returns-clause-missing
returns-clause-missing c = not_there

pub returns-clause-slots : goal.returns-clause-slots
returns-clause-slots c = does_not_fit
