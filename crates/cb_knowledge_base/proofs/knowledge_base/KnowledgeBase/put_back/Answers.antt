use Rattle.std.proofs.Common.{◌≡◌, ◌≤◌, None, false, rules, subst, sym}
use Rattle.cb_facts.specs.FactLists.{IsFactBase, fact_at}
use Rattle.cb_facts.specs.RelationCounts.{HasOneMore}
use Rattle.cb_knowledge_base.proofs.CountedLaws.{counted-add}
use Rattle.cb_knowledge_base.proofs.IndexLaws.{put_in}
use Rattle.cb_knowledge_base.proofs.knowledge_base.KnowledgeBase.put_back.Goals as goal
use Rattle.cb_knowledge_base.specs.Internal.WorkingMemories.{AreKept}
use Rattle.cb_knowledge_base.specs.KnowledgeBase.{KnowledgeBaseValue}
use Rattle.cb_matches.specs.Networks.{Network}

pub invariant_of-self-2 : goal.invariant_of-self-2
invariant_of-self-2 g c = λ _.
    let works : g.M.Matcher.is_failed c.self.inside.matcher ≡ false = search rules in
    let kept = c.self.invariant works in
    let n : Network = g.M.Matcher.network c.self.inside.matcher in
    let base : IsFactBase n.facts = search rules in
    let given : c.args.ix ≤ c.self.inside.last = subst (λ (b : KnowledgeBaseValue). c.args.ix ≤ b.memory.last) (sym c.self.view_is) c.requires.given in
    let free : fact_at n.facts c.args.ix ≡ None = subst (λ (b : KnowledgeBaseValue). fact_at b.memory.network.facts c.args.ix ≡ None) (sym c.self.view_is) c.requires.free in
    let same : c.in_ok-relation.relation ≡ c.args.fact.relation = search rules in
    let one = subst (HasOneMore c.self.inside.counts c.add.new.self) same c.in_ok-add.ensures.ok in
    subst (AreKept c.add.new.self c.self.inside.rule_numbers.keys c.self.inside.last c.self.inside.last_rule) (sym c.in_ok-delta.ensures.network) (record {
      indices = put_in c.self.inside.last c.args.ix c.args.fact n.facts given kept.indices;
      counted = counted-add n.facts c.self.inside.counts c.add.new.self c.args.ix c.args.fact base kept.counted free one;
      rising = kept.rising;
      numbered = kept.numbered;
      rules = kept.rules;
    })
