use Rattle.std.proofs.Common.{◌≡◌, false, rules}
use Rattle.cb_knowledge_base.proofs.RuleLaws.{kept_dropped}
use Rattle.cb_knowledge_base.proofs.knowledge_base.KnowledgeBase.drop_rule.Goals as goal

pub invariant_of-self-2 : goal.invariant_of-self-2
invariant_of-self-2 g c = λ _.
    let works : g.M.Matcher.is_failed c.self.inside.matcher ≡ false = search rules in
    let kept = c.self.invariant works in
    let n = g.M.Matcher.network c.self.inside.matcher in
    kept_dropped c.self.inside.counts c.self.inside.rule_numbers.keys c.remove.new.self.keys c.self.inside.last c.self.inside.last_rule c.args.id n _ kept c.remove.ensures.keys c.remove.ensures.ordered c.in_ok-delta.ensures.network
