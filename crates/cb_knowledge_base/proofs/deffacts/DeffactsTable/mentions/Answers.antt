use Rattle.std.proofs.Common.{◌∙◌, ap, nat_lt}
use Rattle.cb_knowledge_base.proofs.GroupCountLaws.{group_any}
use Rattle.cb_knowledge_base.proofs.deffacts.DeffactsTable.mentions.Goals as goal
use Rattle.cb_knowledge_base.specs.Deffacts.{is_named_in_deffacts}

pub returns : goal.returns
returns c =
    ap (nat_lt 0) c.count.ensures ∙ group_any c.self.inside.groups c.self.inside.counts c.args.relation.now c.self.invariant
    ∙ ap (is_named_in_deffacts c.args.relation.now) c.self.view_is
