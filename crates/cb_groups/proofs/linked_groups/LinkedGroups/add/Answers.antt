use Rattle.std.proofs.Common.{◌≡◌, ◌≢◌, ◌∙◌, ℕ, suc, List, Result, Ok, Err, OnErr, ap, arith, refl, set, subst}
use Rattle.std.proofs.lemmas.List.{get_or-set_other, get_or-set_same}
use Rattle.cb_groups.proofs.Lines.{added_lines, added_updates, group, no_group, same_group, same_lines}
use Rattle.cb_forms.specs.declared.NoMemory.{NoMemory}
use Rattle.cb_groups.specs.Groups.{AreSameGroups, group_of}
use Rattle.cb_groups.specs.Lines.{AreLines, IsLinkedBefore, first_at, link_at, linked_groups, nowhere}
use Rattle.cb_groups.specs.declared.links.Link.{Link}
use Rattle.cb_groups.proofs.linked_groups.LinkedGroups.add.Goals as goal

pub invariant_of-self : goal.invariant_of-self
invariant_of-self c =
    same_lines c.self.inside.firsts.items c.reach_group.new.firsts.items c.self.inside.links.items c.self.inside.links.items c.reach_group.ensures.same (λ m. refl) c.self.invariant

pub invariant_of-self-in_err-reach_member : goal.invariant_of-self-in_err-reach_member
invariant_of-self-in_err-reach_member c =
    same_lines c.self.inside.firsts.items c.reach_group.new.firsts.items c.self.inside.links.items c.reach_member.new.links.items c.reach_group.ensures.same c.reach_member.ensures.same c.self.invariant

pub returns-in_err-reach_member-clause-err : goal.returns-in_err-reach_member-clause-err
returns-in_err-reach_member-clause-err c = go c.from_residual-in_err-reach_member.result
  where
    go : (r : Result (Unit {0}) NoMemory) → OnErr r (AreSameGroups c.args.self.now (linked_groups c.reach_member.new.links.items))
    go (Ok v) = tt
    go (Err e) = λ m. same_group c.self.inside.links.items c.reach_member.new.links.items m (ap (λ (l : Link). l.group) (c.reach_member.ensures.same m)) ∙ ap (λ it. group_of it m) c.self.view_is

module _ (c : goal.After-self-2-1) where
  abbrev g : ℕ
  g = c.args.group

  abbrev m : ℕ
  m = c.args.member

  abbrev firsts : List ℕ
  firsts = c.reach_group.new.firsts.items

  abbrev ls : List Link
  ls = c.reach_member.new.links.items

  abbrev now : List Link
  now = c.link_before.new.links.items

  abbrev made : Link
  made = record { group = c.in-Some.own_group; before = 0; behind = c.first_of-behind.result }

  are : AreLines firsts ls
  are = same_lines c.self.inside.firsts.items firsts c.self.inside.links.items ls c.reach_group.ensures.same c.reach_member.ensures.same c.self.invariant

  free : group ls m ≡ 0
  free = ap (λ (l : Link). l.group) (c.reach_member.ensures.same m) ∙ no_group c.self.inside.links.items m (ap (λ it. group_of it m) c.self.view_is ∙ c.requires)

  own_is : c.in-Some-checked_add.own ≡ suc m
  own_is = let one_more = c.in-Some-checked_add.ensures in omega (arith, one_more)

  own_group_is : c.in-Some.own_group ≡ suc g
  own_group_is = let one_more = c.in-Some.ensures in omega (arith, one_more)

  begins : first_at (set firsts g c.in-Some-checked_add.own) g ≡ suc m
  begins = get_or-set_same firsts g c.in-Some-checked_add.own 0 c.in_ok-reach_group.ensures.long ∙ own_is

  other_firsts : (h : ℕ) → h ≢ g → first_at (set firsts g c.in-Some-checked_add.own) h ≡ first_at firsts h
  other_firsts h d = get_or-set_other firsts g h c.in-Some-checked_add.own 0 d

  linked : IsLinkedBefore ls now (first_at firsts g) (suc m)
  linked = subst (λ n. IsLinkedBefore ls now n (suc m)) c.first_of-behind.ensures (subst (IsLinkedBefore ls now c.first_of-behind.result) own_is c.link_before.ensures)

  there : link_at (set now m made) m ≡ record { group = suc g; before = 0; behind = first_at firsts g }
  there =
      get_or-set_same now m made nowhere (let l = c.in_ok-reach_member.ensures.long in let w = linked.long in omega (arith, l, w))
      ∙ (ap (λ n. record { group = n; before = 0; behind = c.first_of-behind.result }) own_group_is ∙ ap (λ n. record { group = suc g; before = 0; behind = n }) c.first_of-behind.ensures)

  others : (k : ℕ) → k ≢ m → link_at (set now m made) k ≡ link_at now k
  others k d = get_or-set_other now m k made nowhere d

pub invariant_of-self-2 : goal.invariant_of-self-2
invariant_of-self-2 c =
    added_lines (firsts c) (set (firsts c) (g c) c.in-Some-checked_add.own) (ls c) (set (now c) (m c) (made c)) (now c) (g c) (m c) (are c) (free c) (begins c) (other_firsts c) (linked c) (there c) (others c)

pub returns-clause-ok : goal.returns-clause-ok
returns-clause-ok c =
    let is = added_updates (firsts c) (set (firsts c) (g c) c.in-Some-checked_add.own) (ls c) (set (now c) (m c) (made c)) (now c) (g c) (m c) (are c) (free c) (begins c) (other_firsts c) (linked c) (there c) (others c) in
    record {
      changed = is.changed;
      others = λ k d. is.others k d ∙ (same_group c.self.inside.links.items (ls c) k (ap (λ (l : Link). l.group) (c.reach_member.ensures.same k)) ∙ ap (λ it. group_of it k) c.self.view_is);
    }
