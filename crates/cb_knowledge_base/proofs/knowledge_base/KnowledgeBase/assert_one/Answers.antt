use Rattle.std.proofs.Common.{◌≡◌, ◌+◌, ◌≤◌, Some, ap, arith, false, refl, rules, subst, sym}
use Rattle.cb_facts.specs.FactLists.{IsAbsent, IsFactBase, fact_at}
use Rattle.cb_facts.specs.RelationCounts.{HasOneMore}
use Rattle.cb_knowledge_base.proofs.CountedLaws.{counted-add}
use Rattle.cb_knowledge_base.proofs.IndexLaws.{free_after, up_to_next}
use Rattle.cb_knowledge_base.proofs.IndexOf.{index_of-there, index_of-absent}
use Rattle.cb_knowledge_base.proofs.knowledge_base.KnowledgeBase.assert_one.Goals as goal
use Rattle.cb_knowledge_base.specs.Internal.WorkingMemories.{AreKept}
use Rattle.cb_knowledge_base.specs.KnowledgeBase.{Asserts, KnowledgeBaseValue, Memory, greatest_index}
use Rattle.cb_knowledge_base.specs.declared.asserted.Asserted.TheVariants.{Added}
use Rattle.cb_matches.specs.Networks.{Network}

pub returns-in-Some-clause-asserts : goal.returns-in-Some-clause-asserts
returns-in-Some-clause-asserts g c =
    let base : IsFactBase c.args.self.now.memory.network.facts = search rules in
    let at : fact_at c.args.self.now.memory.network.facts c.in-Some.ix ≡ Some c.args.fact = search rules in
    (index_of-there c.args.self.now.memory.network.facts c.args.fact c.in-Some.ix base at, refl)

pub returns-then-self-ge-GREATEST_INDEX-clause-asserts : goal.returns-then-self-ge-GREATEST_INDEX-clause-asserts
returns-then-self-ge-GREATEST_INDEX-clause-asserts g c =
    let base : IsFactBase c.args.self.now.memory.network.facts = search rules in
    let absent : IsAbsent c.args.self.now.memory.network.facts c.args.fact = search rules in
    let full : greatest_index ≤ c.args.self.now.memory.last = search rules in
    (index_of-absent c.args.self.now.memory.network.facts c.args.fact base absent, full, refl)

pub assert-requires-clause-free : goal.assert-requires-clause-free
assert-requires-clause-free g c =
    let works : g.M.Matcher.is_failed c.self.inside.matcher ≡ false = search rules in
    free_after c.self.inside.last (c.self.inside.last + 1) (g.M.Matcher.network c.self.inside.matcher).facts (omega arith) (c.self.invariant works).indices

pub invariant_of-self-2 : goal.invariant_of-self-2
invariant_of-self-2 g c = λ _.
    let works : g.M.Matcher.is_failed c.self.inside.matcher ≡ false = search rules in
    let kept = c.self.invariant works in
    let n : Network = g.M.Matcher.network c.self.inside.matcher in
    let base : IsFactBase n.facts = search rules in
    let free = free_after c.self.inside.last (c.self.inside.last + 1) n.facts (omega arith) kept.indices in
    let same : c.in_ok-relation.relation ≡ c.args.fact.relation = search rules in
    let one = subst (HasOneMore c.self.inside.counts c.add.new.self) same c.in_ok-add.ensures.ok in
    subst (AreKept c.add.new.self c.self.inside.rule_numbers.keys (c.self.inside.last + 1) c.self.inside.last_rule) (sym c.in_ok-delta.ensures.network) (record {
      indices = up_to_next c.self.inside.last c.args.fact n.facts kept.indices;
      counted = counted-add n.facts c.self.inside.counts c.add.new.self (c.self.inside.last + 1) c.args.fact base kept.counted free one;
      rising = kept.rising;
      numbered = kept.numbered;
      rules = kept.rules;
    })

pub returns-clause-asserts : goal.returns-clause-asserts
returns-clause-asserts g c =
    let n : Network = g.M.Matcher.network c.self.inside.matcher in
    let base : IsFactBase n.facts = search rules in
    let absent : IsAbsent n.facts c.args.fact = search rules in
    let ix = c.self.inside.last + 1 in
    let after : Memory = record { network = g.M.Matcher.network c.assert.new.self; last = ix; last_rule = c.self.inside.last_rule } in
    let P : KnowledgeBaseValue → Type 0 = λ b. Asserts b.memory c.args.fact after (Added ix c.in_ok-delta.delta) in
    subst P c.self.view_is (
      index_of-absent n.facts c.args.fact base absent,
      omega arith,
      refl,
      ap (λ (w : Network). record { network = w; last = ix; last_rule = c.self.inside.last_rule }) c.in_ok-delta.ensures.network,
      c.in_ok-delta.ensures.delta,
    )
