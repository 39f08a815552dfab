use Rattle.std.proofs.Common.{subst, sym}
use Rattle.cb_constraints.specs.PartValues.{asked_parts, asked_slot}
use Rattle.cb_rule_forms.proofs.MentionLaws.{knows_seen}
use Rattle.cb_rule_forms.specs.Internal.{Knows}
use Rattle.cb_rule_forms.specs.Mentions.{parts_mentions, row_mentions}
use Rattle.cb_rule_forms.proofs.mentions.bind_parts.Goals as goal

pub returns-in-Slots : goal.returns-in-Slots
returns-in-Slots c =
    subst (λ parts. Knows c.args.known.now (parts_mentions (asked_parts parts)) c.bind_all.new.known c.bind_all.result) (sym c.in-Slots.is)
    (knows_seen (λ s. row_mentions s.row) asked_slot c.args.known.now c.in-Slots.slots.items c.as_slice.result.now c.bind_all.new.known c.bind_all.result c.as_slice.ensures.value c.bind_all.ensures)
