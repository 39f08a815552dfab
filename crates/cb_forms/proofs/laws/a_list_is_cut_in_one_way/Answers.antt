use Rattle.cb_forms.proofs.CuttingLaws.{are_cut-cut, are_cut-front, cut-joined, joined-cut}
use Rattle.cb_forms.proofs.laws.a_list_is_cut_in_one_way.Goals as goal

pub returns-clause-together : goal.returns-clause-together
returns-clause-together g c = joined-cut

pub returns-clause-each : goal.returns-clause-each
returns-clause-each g c = are_cut-cut

pub returns-clause-once : goal.returns-clause-once
returns-clause-once g c = cut-joined

pub returns-clause-front : goal.returns-clause-front
returns-clause-front g c = are_cut-front
