use Rattle.cb_knowledge_base.proofs.GroupCountLaws.{group_taken}
use Rattle.cb_knowledge_base.proofs.deffacts.forget.Goals as goal

pub returns-clause-counted : goal.returns-clause-counted
returns-clause-counted c =
    group_taken c.args.groups.now c.take.new.self c.args.counts.now c.discount.new.counts c.take.result c.requires c.take.ensures.sums c.discount.ensures
