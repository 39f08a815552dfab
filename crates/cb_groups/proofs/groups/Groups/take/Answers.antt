use Rattle.std.proofs.Common.{◌∙◌, ◌++◌, [], ap, append-nil, arith, nat_eq, rules, subst, sym}
use Rattle.std.proofs.lemmas.Map.Keys.{IsDistinct-from_apart}
use Rattle.std.specs.List.{Contains}
use Rattle.cb_groups.proofs.Places.{have_places, members_are, taken_places, taken_releases}
use Rattle.cb_groups.specs.Groups.{AreMembers, HasMember, Releases}
use Rattle.cb_groups.specs.Internal.{AreWithout, members_at, membership}
use Rattle.cb_groups.proofs.groups.Groups.take.Goals as goal

-- no member has the group
pub returns-then-not-has_any-clause-all : goal.returns-then-not-has_any-clause-all
returns-then-not-has_any-clause-all c =
    let is_none : HasMember c.args.self.now c.args.group → ⊥ = search rules in
    record {
      members = [];
      is = sym (append-nil c.args.all.now.items);
      are = record {
        are = λ m. (λ h. absurd (omega (arith, h.1)), λ e. absurd (is_none (m, e)));
        once = IsDistinct-from_apart nat_eq [] (λ i j d l w. absurd (omega (arith, l, w)));
      };
    }

pub clear_places-requires : goal.clear_places-requires
clear_places-requires c m h =
    have_places c.self.inside.lists.items c.self.inside.places.items c.self.invariant c.args.group m
    (subst (λ it. Contains it m) c.members_of-2.ensures h)

pub invariant_of-self : goal.invariant_of-self
invariant_of-self c =
    let old = c.self.inside in
    let ps = c.clear_places.new.places.items in
    let without : AreWithout old.places.items ps (members_at old.lists.items c.args.group) = subst (AreWithout old.places.items ps) c.members_of-2.ensures c.clear_places.ensures in
    taken_places old.lists.items c.clear_list.new.lists.items old.places.items ps c.self.invariant c.args.group without c.clear_list.ensures.cleared c.clear_list.ensures.others

pub returns-clause-all : goal.returns-clause-all
returns-clause-all c =
    let ms = members_at c.self.inside.lists.items c.args.group in
    record {
      members = ms;
      is = c.in_ok-extend_from_slice.ensures.items ∙ ap (λ it. c.args.all.now.items ++ it) c.members_of.ensures;
      are = subst (λ it. AreMembers it c.args.group ms) c.self.view_is (members_are c.self.inside.lists.items c.self.inside.places.items c.self.invariant c.args.group);
    }

pub returns-clause-groups : goal.returns-clause-groups
returns-clause-groups c =
    let old = c.self.inside in
    let ps = c.clear_places.new.places.items in
    let without : AreWithout old.places.items ps (members_at old.lists.items c.args.group) = subst (AreWithout old.places.items ps) c.members_of-2.ensures c.clear_places.ensures in
    subst (λ it. Releases it (membership ps) c.args.group) c.self.view_is
    (taken_releases old.lists.items c.clear_list.new.lists.items old.places.items ps c.self.invariant c.args.group without c.clear_list.ensures.cleared c.clear_list.ensures.others)
