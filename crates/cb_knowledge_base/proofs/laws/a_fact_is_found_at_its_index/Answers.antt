use Rattle.cb_knowledge_base.proofs.IndexOf.{index_of-absent, index_of-there}
use Rattle.cb_knowledge_base.proofs.laws.a_fact_is_found_at_its_index.Goals as goal

pub returns-clause-there : goal.returns-clause-there
returns-clause-there c = index_of-there

pub returns-clause-absent : goal.returns-clause-absent
returns-clause-absent c = index_of-absent
