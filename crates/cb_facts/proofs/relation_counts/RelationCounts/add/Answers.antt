use Rattle.std.proofs.Common.{◌≡◌, ◌+◌, ◌∙◌, OnErr, OnOk, Result, Ok, Err, Some, None, IsSome, rules, subst, ap, refl, sym}
use Rattle.std.proofs.lemmas.Map.Steps.{set_value_same}
use Rattle.std.specs.BTreeMap as tree
use Rattle.std.specs.BTreeMap.{is_at}
use Rattle.std.specs.Cmp.Lexicographic.{slice_cmp}
use Rattle.std.specs.Option.{unwrap_or}
use Rattle.std.specs.Ordering.{nat_cmp}
use Rattle.cb_facts.specs.RelationCounts.{HasOneMore}
use Rattle.cb_facts.proofs.CountLaws.{number, one_more}
use Rattle.cb_facts.proofs.relation_counts.RelationCounts.add.Goals as goal

on-ok : {A E P Q : Type 0} (r : Result A E) → (P → Q) → OnOk r P → OnOk r Q
on-ok (Ok a) f h = f h
on-ok (Err e) f h = h

on-err : {A E P Q : Type 0} (r : Result A E) → (P → Q) → OnErr r P → OnErr r Q
on-err (Ok a) f h = h
on-err (Err e) f h = f h

pub returns-in-Some-clause-ok : goal.returns-in-Some-clause-ok
returns-in-Some-clause-ok c =
    let lent : Some c.in-Some.count.now ≡ number c.self.inside.counts c.args.relation.now = c.in-Some.ensures.value in
    let count = c.one_more.new.count in
    let new = c.get_mut.follows.lender count in
    on-ok c.one_more.result
    (λ is. subst (λ t. HasOneMore t new.entries c.args.relation.now) c.self.view_is
    (one_more c.self.inside.counts new c.args.relation.now c.args.relation.now count refl (is ∙ ap (λ o. unwrap_or o 0 + 1) lent)
    ((c.get_mut.follows.holds count).3 (subst IsSome lent refl))))
    c.one_more.ensures.ok

pub returns-in-Some-clause-err : goal.returns-in-Some-clause-err
returns-in-Some-clause-err c =
    let lent : Some c.in-Some.count.now ≡ number c.self.inside.counts c.args.relation.now = c.in-Some.ensures.value in
    let count = c.one_more.new.count in
    on-err c.one_more.result
    (λ is. (c.get_mut.follows.holds count).0
    ∙ set_value_same (is_at (slice_cmp nat_cmp c.args.relation.now)) c.self.inside.counts.entries count (sym (ap Some is ∙ lent))
    ∙ c.self.view_is)
    c.one_more.ensures.err

pub returns-in_ok-insert-in-None-clause-ok : goal.returns-in_ok-insert-in-None-clause-ok
returns-in_ok-insert-in-None-clause-ok c =
    let same : c.in_ok-shared-in-None.shared ≡ c.args.relation.now = search rules in
    let none : number c.self.inside.counts c.args.relation.now ≡ None = sym c.in-None.ensures.value in
    subst (λ t. HasOneMore t c.insert.new.self.entries c.args.relation.now) c.self.view_is
    (one_more c.self.inside.counts c.insert.new.self c.args.relation.now c.in_ok-shared-in-None.shared 1 same (sym (ap (λ o. unwrap_or o 0 + 1) none))
    (subst (λ m. tree.Updates (slice_cmp nat_cmp) m c.insert.new.self c.in_ok-shared-in-None.shared (Some 1)) c.get_mut.follows.holds-at-none c.in_ok-insert-in-None.ensures.updates))
