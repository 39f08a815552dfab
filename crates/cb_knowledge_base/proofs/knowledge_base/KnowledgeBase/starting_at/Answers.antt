use Rattle.cb_knowledge_base.proofs.RuleLaws.{kept_empty}
use Rattle.cb_knowledge_base.proofs.knowledge_base.KnowledgeBase.starting_at.Goals as goal

pub invariant_of-result : goal.invariant_of-result
invariant_of-result g c = λ _. kept_empty c.new-3.result c.new-4.result.keys c.args.index c.args.rule (g.M.Matcher.network c.args.matcher) c.new-3.ensures c.new-4.ensures.ordered c.new-4.ensures.empty c.requires.none
