use Rattle.std.proofs.Common.{subst}
use Rattle.cb_facts.specs.FactLists.{IsFactBase}
use Rattle.cb_facts.proofs.FactListLaws.{fact_base}
use Rattle.cb_facts.proofs.fact_list.FactList.iter.Goals as goal

pub returns-clause-base : goal.returns-clause-base
returns-clause-base c = subst IsFactBase c.self.view_is (fact_base _ _ c.self.invariant)
