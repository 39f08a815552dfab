use Rattle.cb_knowledge_base.proofs.KeepLaws.{changes_there, none_comes_after}
use Rattle.cb_knowledge_base.proofs.laws.what_comes_back_keeps_the_others.Goals as goal

pub returns-clause-only : goal.returns-clause-only
returns-clause-only c = changes_there

pub returns-clause-none_after : goal.returns-clause-none_after
returns-clause-none_after c = none_comes_after
