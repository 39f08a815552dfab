use Rattle.std.proofs.Common.{◌≡◌, ◌∙◌, ◌++◌, ◌+◌, ◌∷◌, [], ap, append-nil, append_assoc, arith, inl, inr, subst, sym}
use Rattle.cb_groups.proofs.Lines.{IsWalked, all_walked, none_walked, one_walked}
use Rattle.cb_groups.specs.declared.links.Link.{Link}
use Rattle.cb_groups.proofs.links.append_line.Goals as goal

pub loop-turn-init : goal.loop-turn-init
loop-turn-init c = (
  ([], sym (append-nil c.args.all.now.items)),
  λ g b ms is. none_walked c.args.links.now.items g b c.args.first c.args.all.now.items ms is,
)

pub returns-in_default-clause-ok : goal.returns-in_default-clause-ok
returns-in_default-clause-ok c g b ms is few =
    let none = c.in_default.ensures in
    all_walked c.args.links.now.items g c.args.all.now.items c.loop-turn.all.items c.loop-turn.next ms c.loop-turn._turn (c.loop-turn.invariant.1 g b ms is) (inl (omega (arith, none)))

pub loop-turn-preserved : goal.loop-turn-preserved
loop-turn-preserved c =
    let links = c.args.links.now.items in
    let old = c.args.all.now.items in
    let now = c.loop-turn.all.items in
    let m = c.in-Some.member in
    let more = c.loop-turn.invariant.0 in
    let one_more = c.in-Some.ensures in
    let push : c.push.new.self.items ≡ now ++ m ∷ [] = c.in_ok-push.ensures.items in (
      (more.0 ++ m ∷ [], push ∙ (ap (λ xs. xs ++ m ∷ []) more.1 ∙ append_assoc old more.0 (m ∷ []))),
      λ g b ms is.
          subst (λ xs. IsWalked links g old xs c.link_of-next.result.behind ms (c.loop-turn._turn + 1)) (sym push)
          (subst (λ (l : Link). IsWalked links g old (now ++ m ∷ []) l.behind ms (c.loop-turn._turn + 1)) (sym c.link_of-next.ensures)
          (one_walked links g old now c.loop-turn.next m ms c.loop-turn._turn (omega (arith, one_more)) (c.loop-turn.invariant.1 g b ms is))),
    )

pub returns-clause-ok : goal.returns-clause-ok
returns-clause-ok c g b ms is few =
    let ended = c.loop-turn-test.false in
    let long = c.len-turn-end.ensures in
    all_walked c.args.links.now.items g c.args.all.now.items c.loop-turn.all.items c.loop-turn.next ms c.loop-turn._turn (c.loop-turn.invariant.1 g b ms is) (inr (omega (arith, few, ended, long)))
