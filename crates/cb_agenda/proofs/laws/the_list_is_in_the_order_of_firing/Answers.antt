use Rattle.cb_agenda.proofs.Firing.{first, first_order}
use Rattle.cb_agenda.proofs.Sorting.{in_order_sorted, same_sorted}
use Rattle.cb_agenda.proofs.TopLaws.{first_is_top, listed_is}
use Rattle.cb_agenda.proofs.laws.the_list_is_in_the_order_of_firing.Goals as goal

pub returns-clause-listed : goal.returns-clause-listed
returns-clause-listed c = listed_is

pub returns-clause-same : goal.returns-clause-same
returns-clause-same c = λ s es. same_sorted (first s) es

pub returns-clause-order : goal.returns-clause-order
returns-clause-order c = λ s es. in_order_sorted (first s) (first_order s) es

pub returns-clause-top : goal.returns-clause-top
returns-clause-top c = first_is_top
