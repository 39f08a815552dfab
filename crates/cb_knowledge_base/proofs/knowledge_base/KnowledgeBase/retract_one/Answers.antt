use Rattle.std.proofs.Common.{◌≡◌, ◌∙◌, ap, false, rules, subst, sym}
use Rattle.cb_facts.specs.FactLists.{IndexedFacts, fact_at}
use Rattle.cb_knowledge_base.proofs.CountedLaws.{counted-remove}
use Rattle.cb_knowledge_base.proofs.IndexLaws.{up_to_less}
use Rattle.cb_knowledge_base.proofs.knowledge_base.KnowledgeBase.retract_one.Goals as goal
use Rattle.cb_knowledge_base.specs.Internal.WorkingMemories.{AreKept, IsLessBy}

pub invariant_of-self-2 : goal.invariant_of-self-2
invariant_of-self-2 g c = λ _.
    let works : g.M.Matcher.is_failed c.self.inside.matcher ≡ false = search rules in
    let kept = c.self.invariant works in
    let n = g.M.Matcher.network c.self.inside.matcher in
    let less : IsLessBy (fact_at n.facts c.args.ix) c.self.inside.counts c.discount.new.counts = subst (λ o. IsLessBy o c.self.inside.counts c.discount.new.counts) (c.get-fact.ensures ∙ ap (λ (fs : IndexedFacts). fact_at fs c.args.ix) c.facts.ensures) c.discount.ensures in
    subst (AreKept c.discount.new.counts c.self.inside.rule_numbers.keys c.self.inside.last c.self.inside.last_rule) (sym c.in_ok-delta.ensures.network) (record {
      indices = up_to_less c.self.inside.last c.args.ix n.facts kept.indices;
      counted = counted-remove n.facts c.self.inside.counts c.discount.new.counts c.args.ix kept.counted less;
      rising = kept.rising;
      numbered = kept.numbered;
      rules = kept.rules;
    })
