use Rattle.std.proofs.Common.{◌≡◌, ◌∙◌, ap, false, rules}
use Rattle.cb_knowledge_base.proofs.RuleLaws.{all_gone, kept_empty}
use Rattle.cb_knowledge_base.proofs.knowledge_base.KnowledgeBase.clear.Goals as goal
use Rattle.cb_knowledge_base.specs.KnowledgeBase.{KnowledgeBaseValue, cleared}
use Rattle.cb_matches.specs.Networks.{Network, empty_network}

gone : (g : _) (c : goal.After-self-1 g) → g.M.Matcher.network c.restart.new.self ≡ empty_network
gone g c =
    let works : g.M.Matcher.is_failed c.self.inside.matcher ≡ false = search rules in
    let kept = c.self.invariant works in
    let n = g.M.Matcher.network c.self.inside.matcher in
    all_gone c.self.inside.rule_numbers.keys n (g.M.Matcher.network c.drop_rules.new.matcher) (g.M.Matcher.network c.restart.new.self) kept.numbered (search rules) c.in_ok-restart.ensures.network

pub invariant_of-self-2 : goal.invariant_of-self-2
invariant_of-self-2 g c = λ _. kept_empty c.new-2.result c.new.result.keys 0 c.self.inside.last_rule (g.M.Matcher.network c.restart.new.self) c.new-2.ensures c.new.ensures.ordered c.new.ensures.empty (gone g c)

pub returns-clause-memory : goal.returns-clause-memory
returns-clause-memory g c = ap (λ (n : Network). record { network = n; last = 0; last_rule = c.self.inside.last_rule }) (gone g c) ∙ ap (λ (b : KnowledgeBaseValue). cleared b.memory) c.self.view_is
