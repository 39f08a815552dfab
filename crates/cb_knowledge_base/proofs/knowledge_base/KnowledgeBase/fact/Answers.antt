use Rattle.std.proofs.Common.{◌≡◌, ◌≤◌, Some, false, refl, rules, subst, sym}
use Rattle.cb_facts.specs.FactLists.{fact_at}
use Rattle.cb_knowledge_base.proofs.IndexLaws.{given_there}
use Rattle.cb_knowledge_base.proofs.knowledge_base.KnowledgeBase.fact.Goals as goal
use Rattle.cb_knowledge_base.specs.KnowledgeBase.{KnowledgeBaseValue}
use Rattle.cb_matches.specs.Networks.{Network}

pub returns-in_ok-clone-in-Some-clause-given : goal.returns-in_ok-clone-in-Some-clause-given
returns-in_ok-clone-in-Some-clause-given g c = λ _.
    let works : g.M.Matcher.is_failed c.self.inside.matcher ≡ false = search rules in
    let n : Network = g.M.Matcher.network c.self.inside.matcher in
    let at : fact_at n.facts c.args.ix ≡ Some c.in-Some.fact.now = search rules in
    let below : c.args.ix ≤ c.self.inside.last = given_there c.self.inside.last c.args.ix n.facts (Some c.in-Some.fact.now) (c.self.invariant works).indices (sym at) refl in
    subst (λ (b : KnowledgeBaseValue). c.args.ix ≤ b.memory.last) c.self.view_is below
