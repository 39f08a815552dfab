use Rattle.std.proofs.Common.{subst, sym}
use Rattle.cb_constraints.specs.Constraints.{check_of, demand_of}
use Rattle.cb_rule_forms.proofs.MentionLaws.{knows_seen}
use Rattle.cb_rule_forms.specs.Internal.{Knows}
use Rattle.cb_rule_forms.specs.Mentions.{check_mentions, demand_mentions}
use Rattle.cb_rule_forms.proofs.mentions.ConstraintMentions.bind.Goals as goal

pub returns-in-Each : goal.returns-in-Each
returns-in-Each c =
    subst (λ demand. Knows c.args.known.now (demand_mentions (demand_of demand)) c.bind_all.new.known c.bind_all.result) (sym c.in-Each.is)
    (knows_seen check_mentions check_of c.args.known.now c.in-Each.checks.items c.as_slice.result.now c.bind_all.new.known c.bind_all.result c.as_slice.ensures.value c.bind_all.ensures)
