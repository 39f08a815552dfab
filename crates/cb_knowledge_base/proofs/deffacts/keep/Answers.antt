use Rattle.std.proofs.Common.{subst, sym}
use Rattle.cb_knowledge_base.proofs.GroupCountLaws.{group_kept}
use Rattle.cb_knowledge_base.proofs.deffacts.keep.Goals as goal
use Rattle.cb_knowledge_base.specs.Internal.GroupCounts.{AreCounted, HasMore}

pub returns-clause-counted : goal.returns-clause-counted
returns-clause-counted c =
    let more = subst (HasMore c.args.counts.now c.add_all.new.counts) c.as_slice.ensures.value c.in_ok-add_all.ensures in
    subst (AreCounted c.add_all.new.counts) (sym c.in_ok-push.ensures.ok)
    (group_kept c.args.groups.now c.args.counts.now c.add_all.new.counts (c.args.name, c.args.facts.items) c.requires.counted more)
