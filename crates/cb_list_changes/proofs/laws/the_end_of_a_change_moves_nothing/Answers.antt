use Rattle.cb_list_changes.proofs.Ends.{alike_then, met_then}
use Rattle.cb_token_lists.proofs.Keeping.{ended_same}
use Rattle.cb_list_changes.proofs.laws.the_end_of_a_change_moves_nothing.Goals as goal

pub returns-clause-same : goal.returns-clause-same
returns-clause-same c = ended_same

pub returns-clause-alike : goal.returns-clause-alike
returns-clause-alike c = alike_then

pub returns-clause-met : goal.returns-clause-met
returns-clause-met c = met_then
