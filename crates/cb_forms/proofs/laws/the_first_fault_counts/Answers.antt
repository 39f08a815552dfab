use Rattle.cb_forms.proofs.FirstFaultLaws.{faulty_item, first_is_found, found_is_first}
use Rattle.cb_forms.proofs.laws.the_first_fault_counts.Goals as goal

pub returns-clause-found : goal.returns-clause-found
returns-clause-found c = first_is_found

pub returns-clause-only : goal.returns-clause-only
returns-clause-only c = found_is_first

pub returns-clause-item : goal.returns-clause-item
returns-clause-item c = faulty_item
