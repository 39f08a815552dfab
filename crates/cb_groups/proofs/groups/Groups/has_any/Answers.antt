use Rattle.std.proofs.Common.{not, subst}
use Rattle.std.specs.Bool.{Decides}
use Rattle.cb_groups.proofs.Places.{any_there}
use Rattle.cb_groups.specs.Groups.{HasMember}
use Rattle.cb_groups.proofs.groups.Groups.has_any.Goals as goal

pub returns : goal.returns
returns c =
    subst (λ it. Decides (not c.is_empty.result) (HasMember it c.args.group)) c.self.view_is
    (any_there c.self.inside.lists.items c.self.inside.places.items c.self.invariant c.args.group c.members_of.result.now c.members_of.ensures c.is_empty.result c.is_empty.ensures)
