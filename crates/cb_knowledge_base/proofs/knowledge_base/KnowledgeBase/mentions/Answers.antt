use Rattle.std.proofs.Common.{◌≡◌, ◌∙◌, ap, false, nat_lt, rules}
use Rattle.std.specs.List.{list_any}
use Rattle.std.specs.Str.{bytes_eq}
use Rattle.cb_knowledge_base.proofs.CountedLaws.{counted_any}
use Rattle.cb_knowledge_base.proofs.knowledge_base.KnowledgeBase.mentions.Goals as goal
use Rattle.cb_knowledge_base.specs.KnowledgeBase.{KnowledgeBaseValue}

pub returns : goal.returns
returns g c =
    let works : g.M.Matcher.is_failed c.self.inside.matcher ≡ false = search rules in
    ap (nat_lt 0) c.count.ensures ∙ (counted_any (g.M.Matcher.network c.self.inside.matcher).facts c.self.inside.counts c.args.relation.now (c.self.invariant works).counted
    ∙ ap (λ (b : KnowledgeBaseValue). list_any (λ entry. bytes_eq entry.1.relation c.args.relation.now) b.memory.network.facts) c.self.view_is)
