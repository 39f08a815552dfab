use Rattle.std.proofs.Common.{◌≡◌, false, rules}
use Rattle.cb_knowledge_base.proofs.RuleLaws.{kept_restarted}
use Rattle.cb_knowledge_base.proofs.knowledge_base.KnowledgeBase.restart.Goals as goal

pub invariant_of-self-2 : goal.invariant_of-self-2
invariant_of-self-2 g c = λ _.
    let works : g.M.Matcher.is_failed c.self.inside.matcher ≡ false = search rules in
    let kept = c.self.invariant works in
    let n = g.M.Matcher.network c.self.inside.matcher in
    kept_restarted c.self.inside.counts c.new.result c.self.inside.rule_numbers.keys c.self.inside.last c.self.inside.last_rule n _ kept c.new.ensures c.in_ok-delta.ensures.network
