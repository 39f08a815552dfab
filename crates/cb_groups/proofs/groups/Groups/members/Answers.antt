use Rattle.std.proofs.Common.{subst, sym}
use Rattle.cb_groups.proofs.Places.{members_are}
use Rattle.cb_groups.specs.Groups.{AreMembers}
use Rattle.cb_groups.specs.Internal.{members_at}
use Rattle.cb_groups.proofs.groups.Groups.members.Goals as goal

pub returns : goal.returns
returns c =
    let ms = members_at c.self.inside.lists.items c.args.group in
    let are : AreMembers c.args.self.now c.args.group ms = subst (λ it. AreMembers it c.args.group ms) c.self.view_is (members_are c.self.inside.lists.items c.self.inside.places.items c.self.invariant c.args.group) in
    subst (AreMembers c.args.self.now c.args.group) (sym c.members_of.ensures) are
