use Rattle.cb_flat.proofs.Leads.{branch_below, inside_leads}
use Rattle.cb_flat.proofs.laws.a_group_goes_on_from_the_list_before_it.Goals as goal

pub returns-clause-below : goal.returns-clause-below
returns-clause-below c = branch_below

pub returns-clause-leads : goal.returns-clause-leads
returns-clause-leads c = inside_leads
