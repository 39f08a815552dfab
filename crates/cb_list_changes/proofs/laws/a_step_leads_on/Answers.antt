use Rattle.cb_list_changes.proofs.Steps.{stepped}
use Rattle.cb_list_changes.proofs.laws.a_step_leads_on.Goals as goal

pub returns : goal.returns
returns c = stepped
