use Rattle.std.proofs.Common.{subst, sym}
use Rattle.cb_alpha_network.proofs.Rest.{noted_more}
use Rattle.cb_alpha_network.proofs.memories.Memories.remove.Goals as goal
use Rattle.cb_alpha_network.specs.Internal.{AreNoted}

pub invariant_of-self-2 : goal.invariant_of-self-2
invariant_of-self-2 c =
    let old = c.self.inside in
    let new = c.remove_at.new.all.items in
    subst (AreNoted new) (sym c.in_ok-push.ensures.items) (noted_more old.all.items new old.changed.items c.args.number c.self.invariant c.remove_at.ensures.others)
