use Rattle.std.proofs.Common.{take}
use Rattle.cb_groups.specs.Lines.{AreForgotten}
use Rattle.cb_groups.proofs.links.forget_all.Given as goal

abbrev pub invariant-loop-member : goal.invariant-loop-member
invariant-loop-member l = AreForgotten l.initial.links.items l.links.items (take l.member-index l.members)
