use Rattle.std.proofs.Common.{◌∙◌, ap, sym}
use Rattle.cb_groups.proofs.Places.{seen}
use Rattle.cb_groups.specs.Groups.{group_of}
use Rattle.cb_groups.specs.Internal.{group_in}
use Rattle.cb_groups.proofs.groups.Groups.group.Goals as goal

pub returns-in-Some : goal.returns-in-Some
returns-in-Some c =
    ap group_in (sym c.in-Some.is ∙ c.place_of.ensures.place) ∙ (sym (seen c.self.inside.places.items c.args.member) ∙ ap (λ it. group_of it c.args.member) c.self.view_is)

pub returns-in-None : goal.returns-in-None
returns-in-None c =
    ap group_in (sym c.in-None.is ∙ c.place_of.ensures.place) ∙ (sym (seen c.self.inside.places.items c.args.member) ∙ ap (λ it. group_of it c.args.member) c.self.view_is)
