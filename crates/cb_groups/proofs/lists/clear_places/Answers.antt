use Rattle.std.proofs.Common.{◌∙◌, ◌+◌, Option, arith, get_or, length-set, set, subst, sym, take}
use Rattle.std.proofs.lemmas.List.Elements.{Contains-get_or}
use Rattle.cb_groups.proofs.Places.{one_without}
use Rattle.cb_groups.specs.Internal.{AreWithout}
use Rattle.cb_groups.specs.declared.standing.Place.{Place}
use Rattle.cb_groups.proofs.lists.clear_places.Goals as goal

pub index_mut-requires : goal.index_mut-requires
index_mut-requires c =
    let ms = c.args.members.now in
    let i = c.loop-member.member-index in
    let l = c.requires (get_or ms i 0) (Contains-get_or ms i 0 (omega arith)) in
    let same = c.loop-member.invariant.0 in
    omega (arith, l, same)

pub loop-member-preserved : goal.loop-member-preserved
loop-member-preserved c =
    let ms = c.args.members.now in
    let i = c.loop-member.member-index in
    let now = c.loop-member.places.items in
    let l = c.requires (get_or ms i 0) (Contains-get_or ms i 0 (omega arith)) in
    let same = c.loop-member.invariant.0 in (
      length-set now (get_or ms i 0) c.nowhere.result ∙ same,
      subst (λ (it : Option Place). AreWithout c.args.places.now.items (set now (get_or ms i 0) it) (take (i + 1) ms)) (sym c.nowhere.ensures)
          (one_without c.args.places.now.items now ms i (omega arith) (omega (arith, l, same)) c.loop-member.invariant.1),
    )
