use Rattle.std.proofs.Common.{◌≡◌, ◌≢◌, ◌∙◌, ℕ, suc, List, ap, arith, subst, sym}
use Rattle.cb_groups.proofs.Lines.{AreUnlinked, behind, before, group, out_lines, out_updates, unlinked}
use Rattle.cb_groups.specs.Groups.{group_of}
use Rattle.cb_groups.specs.Lines.{IsLinkedBefore, IsLinkedBehind, first_at, link_at}
use Rattle.cb_groups.specs.declared.links.Link.{Link}
use Rattle.cb_groups.proofs.linked_groups.LinkedGroups.remove.Goals as goal

module _ (c : goal.After-forget) where
  abbrev ls : List Link
  ls = c.self.inside.links.items

  abbrev m : ℕ
  m = c.args.member

  abbrev firsts : List ℕ
  firsts = c.self.inside.firsts.items

  abbrev firsts' : List ℕ
  firsts' = c.begin_with.new.firsts.items

  is : c.link_of-link.result ≡ link_at ls m
  is = c.link_of-link.ensures

  its : group ls m ≡ suc c.in-Some.group
  its = let one_more = c.in-Some.ensures in ap (λ (l : Link). l.group) (sym is) ∙ omega (arith, one_more)

  out : AreUnlinked ls c.forget.new.links.items m
  out =
      unlinked ls c.link_behind.new.links.items c.link_before.new.links.items c.forget.new.links.items m
      (subst (λ (l : Link). IsLinkedBehind ls c.link_behind.new.links.items l.before l.behind) is c.link_behind.ensures)
      (subst (λ (l : Link). IsLinkedBefore c.link_behind.new.links.items c.link_before.new.links.items l.behind l.before) is c.link_before.ensures)
      c.forget.ensures.others

  gone : group c.forget.new.links.items m ≡ 0
  gone = ap (λ (l : Link). l.group) c.forget.ensures.gone

  begins : before ls m ≡ 0 → first_at firsts c.in-Some.group ≢ 0 → first_at firsts' c.in-Some.group ≡ behind ls m
  begins = subst (λ (l : Link). l.before ≡ 0 → first_at firsts c.in-Some.group ≢ 0 → first_at firsts' c.in-Some.group ≡ l.behind) is c.begin_with.ensures.first

  still : before ls m ≢ 0 → first_at firsts' c.in-Some.group ≡ first_at firsts c.in-Some.group
  still = subst (λ (l : Link). l.before ≢ 0 → first_at firsts' c.in-Some.group ≡ first_at firsts c.in-Some.group) is c.begin_with.ensures.same

pub invariant_of-self : goal.invariant_of-self
invariant_of-self c =
    out_lines (firsts c) (firsts' c) (ls c) c.forget.new.links.items c.in-Some.group (m c) c.self.invariant (its c) (out c) (gone c) (begins c) (still c) c.begin_with.ensures.others

pub returns : goal.returns
returns c =
    let is = out_updates (firsts c) (firsts' c) (ls c) c.forget.new.links.items c.in-Some.group (m c) c.self.invariant (its c) (out c) (gone c) (begins c) (still c) c.begin_with.ensures.others in
    record { changed = is.changed; others = λ k d. is.others k d ∙ ap (λ it. group_of it k) c.self.view_is }
