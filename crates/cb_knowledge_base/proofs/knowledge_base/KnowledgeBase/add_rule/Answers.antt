use Rattle.std.proofs.Common.{◌≡◌, false, rules}
use Rattle.cb_knowledge_base.proofs.RuleLaws.{kept_added}
use Rattle.cb_knowledge_base.proofs.knowledge_base.KnowledgeBase.add_rule.Goals as goal
use Rattle.cb_rules.specs.Elements.{branches_of}

pub invariant_of-self-2 : goal.invariant_of-self-2
invariant_of-self-2 g c = λ _.
    let works : g.M.Matcher.is_failed c.self.inside.matcher ≡ false = search rules in
    let kept = c.self.invariant works in
    let n = g.M.Matcher.network c.self.inside.matcher in
    kept_added c.self.inside.counts c.self.inside.rule_numbers.keys c.insert.new.self.keys c.self.inside.last c.self.inside.last_rule (branches_of c.args.branches.items) n _ kept c.in_ok-insert.ensures.keys c.insert.ensures.ordered c.in_ok-delta.ensures.network
