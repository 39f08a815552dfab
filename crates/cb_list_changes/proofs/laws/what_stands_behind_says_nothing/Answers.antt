use Rattle.cb_list_changes.proofs.Local.{local, met_same_local}
use Rattle.cb_list_changes.proofs.laws.what_stands_behind_says_nothing.Goals as goal

pub returns-clause-partial : goal.returns-clause-partial
returns-clause-partial c = λ sources lists lists' k below. local sources below k lists lists'

pub returns-clause-met : goal.returns-clause-met
returns-clause-met c = λ sources lists lists' k below. met_same_local sources below k lists lists'
