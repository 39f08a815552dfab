use Rattle.std.proofs.Common.{◌≡◌, ◌∙◌, ◌++◌, ℕ, List, [], false, Result, Ok, Err, OnOk, append-nil, arith, length, refl, rules, subst, sym}
use Rattle.std.specs.Result.{is_err}
use Rattle.cb_forms.specs.declared.NoMemory.{NoMemory}
use Rattle.cb_groups.proofs.Lines.{few_members, last_part, members_are, no_members, taken_lines, taken_releases}
use Rattle.cb_groups.specs.Groups.{AreMembers, Releases}
use Rattle.cb_groups.specs.Lines.{AreForgotten, IsInLine, IsLine, first_at, linked_groups}
use Rattle.cb_groups.specs.declared.links.Link.{Link}
use Rattle.cb_groups.proofs.linked_groups.LinkedGroups.take.Goals as goal

module _ (c : goal.Then-first-eq0) where
  none : AreMembers c.args.self.now c.args.group []
  none =
      let line = c.self.invariant c.args.group in
      subst (λ it. AreMembers it c.args.group []) c.self.view_is (no_members c.self.inside.firsts.items c.self.inside.links.items c.args.group line.0 line.1 (sym c.first_of-first.ensures ∙ c.if-first-eq0.true))

pub returns-then-first-eq0-clause-all : goal.returns-then-first-eq0-clause-all
returns-then-first-eq0-clause-all c = record { members = []; is = sym (append-nil c.args.all.now.items); are = none c }

pub returns-then-first-eq0-clause-groups : goal.returns-then-first-eq0-clause-groups
returns-then-first-eq0-clause-groups c = record {
  released = λ m e. let in_none = ((none c).are m).1 e in absurd (omega (arith, in_none.1));
  others = λ m d. refl;
}

module _ (c : goal.After-begin_with) where
  abbrev g : ℕ
  g = c.args.group

  abbrev firsts : List ℕ
  firsts = c.self.inside.firsts.items

  abbrev ls : List Link
  ls = c.self.inside.links.items

  abbrev ms : List ℕ
  ms = (c.self.invariant g).0

  line : IsLine firsts ls g ms
  line = (c.self.invariant g).1

  ok_of : {P : Type 0} (r : Result (Unit {0}) NoMemory) → OnOk r P → false ≡ is_err r → P
  ok_of (Ok v) p e = p
  ok_of (Err w) p e = absurd (cc)

  all_is : c.append_line.new.all.items ≡ c.args.all.now.items ++ ms
  all_is =
      ok_of c.append_line.result c.append_line.ensures.ok c.if-is_err.ensures.value g 0 ms
      (subst (λ f. IsInLine ls g 0 f ms) (sym c.first_of-first.ensures) line.linked) (few_members firsts ls g ms line)

  forgotten : AreForgotten ls c.forget_all.new.links.items ms
  forgotten =
      let old = c.args.all.now.items in
      let start : c.len-start.result ≡ length old = search rules in
      subst (AreForgotten ls c.forget_all.new.links.items) (last_part c.as_slice.result.now old ms c.len-start.result (c.as_slice.ensures.value ∙ all_is) start) c.forget_all.ensures

  none_left : first_at c.begin_with.new.firsts.items g ≡ 0
  none_left = c.begin_with.ensures.first refl (λ z. c.if-first-eq0.false (c.first_of-first.ensures ∙ z))

pub invariant_of-self : goal.invariant_of-self
invariant_of-self c =
    taken_lines (firsts c) c.begin_with.new.firsts.items (ls c) c.forget_all.new.links.items (g c) c.self.invariant (ms c) (line c) (forgotten c) (none_left c) c.begin_with.ensures.others

pub returns-clause-all : goal.returns-clause-all
returns-clause-all c = record {
  members = ms c;
  is = all_is c;
  are = subst (λ it. AreMembers it (g c) (ms c)) c.self.view_is (members_are (firsts c) (ls c) (g c) (ms c) (line c));
}

pub returns-clause-groups : goal.returns-clause-groups
returns-clause-groups c =
    subst (λ it. Releases it (linked_groups c.forget_all.new.links.items) (g c)) c.self.view_is
    (taken_releases (firsts c) c.begin_with.new.firsts.items (ls c) c.forget_all.new.links.items (g c) c.self.invariant (ms c) (line c) (forgotten c) (none_left c) c.begin_with.ensures.others)
