use Rattle.std.proofs.Common.{refl, subst}
use Rattle.cb_constraints.specs.Constraints.{constraint_of}
use Rattle.cb_rule_forms.proofs.MentionLaws.{knows_seen}
use Rattle.cb_rule_forms.specs.Internal.{Knows}
use Rattle.cb_rule_forms.specs.Mentions.{demand_mentions, row_mentions}
use Rattle.cb_rule_forms.proofs.mentions.bind_row.Goals as goal

pub returns : goal.returns
returns c =
    subst (λ row. Knows c.args.known.now (row_mentions row) c.bind_all.new.known c.bind_all.result) c.constraints.ensures
    (knows_seen (λ k. demand_mentions k.demand) constraint_of c.args.known.now c.constraints.result.now c.constraints.result.now c.bind_all.new.known c.bind_all.result refl c.bind_all.ensures)
