use Rattle.std.proofs.Common.{◌≡◌, Some, None, ap, refl, rules}
use Rattle.cb_actions.specs.Effects.{replaced_beside}
use Rattle.cb_actions.proofs.ActLaws.{went_quietly, went_as}
use Rattle.cb_facts.specs.FactLists.{IsAbsent, IsFactBase, fact_at}
use Rattle.cb_actions.proofs.world.World.replace_unless_there.Goals as goal
use Rattle.cb_knowledge_base.specs.KnowledgeBase.{index_of}

pub returns-in-Some : goal.returns-in-Some
returns-in-Some g c =
    let facts = c.args.self.now.memory.network.facts in
    let base : IsFactBase facts = search rules in
    let at : fact_at facts c.in-Some.there ≡ Some c.args.fact = search rules in
    let is : index_of facts c.args.fact ≡ Some c.in-Some.there = c.a_fact_is_found_at_its_index.ensures.there facts c.args.fact c.in-Some.there base at in
    went_as g.K.Sink.writes _ _ _ _ _ _ _ refl (ap (λ o. replaced_beside c.args.ix c.args.fact o c.args.self.now) is) (went_quietly g.K.Sink.writes _ _ _ _ c.requires.fine c.unchanged.ensures)

pub returns-in-None : goal.returns-in-None
returns-in-None g c =
    let facts = c.args.self.now.memory.network.facts in
    let base : IsFactBase facts = search rules in
    let absent : IsAbsent facts c.args.fact = search rules in
    let is : index_of facts c.args.fact ≡ None = c.a_fact_is_found_at_its_index.ensures.absent facts c.args.fact base absent in
    went_as g.K.Sink.writes _ _ _ _ _ _ _ refl (ap (λ o. replaced_beside c.args.ix c.args.fact o c.args.self.now) is) c.replace.ensures
