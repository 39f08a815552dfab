use Rattle.std.proofs.Common.{◌≡◌, ◌≤◌, ◌-◌, ◌∙◌, Some, IsSome, ap, refl, sym, subst, rules}
use Rattle.std.proofs.lemmas.Map.Steps.{set_value_same}
use Rattle.std.specs.BTreeMap.{is_at}
use Rattle.std.specs.Cmp.Lexicographic.{slice_cmp}
use Rattle.std.specs.Option.{unwrap_or}
use Rattle.std.specs.Ordering.{nat_cmp}
use Rattle.cb_facts.specs.RelationCounts.{HasOneLess, count_of}
use Rattle.cb_facts.proofs.CountLaws.{last_less, number, one_less}
use Rattle.cb_facts.proofs.relation_counts.RelationCounts.remove.Goals as goal

pub returns-then-count-gt1 : goal.returns-then-count-gt1
returns-then-count-gt1 c =
    let lent : Some c.in-Some.count.now ≡ number c.self.inside.counts c.args.relation.now = c.in-Some.ensures.value in
    let one : c.in-Some.count.now - 1 ≡ count_of c.self.inside.counts.entries c.args.relation.now - 1 = ap (λ o. unwrap_or o 0 - 1) lent in
    subst (λ t. HasOneLess t (c.get_mut.follows.lender (c.in-Some.count.now - 1)).entries c.args.relation.now) c.self.view_is
    (one_less c.self.inside.counts (c.get_mut.follows.lender (c.in-Some.count.now - 1)) c.args.relation.now (c.in-Some.count.now - 1) one
    ((c.get_mut.follows.holds (c.in-Some.count.now - 1)).3 (subst IsSome lent refl)))

pub returns : goal.returns
returns c =
    let lent : Some c.in-Some.count.now ≡ number c.self.inside.counts c.args.relation.now = c.in-Some.ensures.value in
    let same : (c.get_mut.follows.lender c.in-Some.count.now).entries ≡ c.self.inside.counts.entries =
    (c.get_mut.follows.holds c.in-Some.count.now).0
    ∙ set_value_same (is_at (slice_cmp nat_cmp c.args.relation.now)) c.self.inside.counts.entries c.in-Some.count.now (sym lent) in
    let one : c.in-Some.count.now ≤ 1 = search rules in
    let few : count_of c.self.inside.counts.entries c.args.relation.now ≤ 1 = subst (λ o. unwrap_or o 0 ≤ 1) lent one in
    subst (λ t. HasOneLess t c.remove.new.self.entries c.args.relation.now) (same ∙ c.self.view_is)
    (last_less (c.get_mut.follows.lender c.in-Some.count.now) c.remove.new.self c.args.relation.now (subst (λ t. count_of t c.args.relation.now ≤ 1) (sym same) few) c.remove.ensures.updates)
