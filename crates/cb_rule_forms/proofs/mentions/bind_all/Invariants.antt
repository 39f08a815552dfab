use Rattle.std.proofs.Common.{drop}
use Rattle.std.specs.List.{flat_map}
use Rattle.cb_rule_forms.proofs.MentionLaws.{Same}
use Rattle.cb_rule_forms.proofs.mentions.bind_all.Given as goal

abbrev pub invariant-loop-part : goal.invariant-loop-part
invariant-loop-part g l = Same l.known (flat_map g.T.Mentions.mentions (drop l.part-index l.parts)) l.fn.known (flat_map g.T.Mentions.mentions l.parts)
