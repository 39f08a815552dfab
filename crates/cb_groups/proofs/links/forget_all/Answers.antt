use Rattle.std.proofs.Common.{arith}
use Rattle.cb_groups.proofs.Lines.{one_forgotten}
use Rattle.cb_groups.proofs.links.forget_all.Goals as goal

pub loop-member-preserved : goal.loop-member-preserved
loop-member-preserved c =
    one_forgotten c.args.links.now.items c.loop-member.links.items c.forget.new.links.items c.args.members.now c.loop-member.member-index (omega arith) c.loop-member.invariant c.forget.ensures.gone c.forget.ensures.others
