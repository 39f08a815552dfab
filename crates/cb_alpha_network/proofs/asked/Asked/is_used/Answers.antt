use Rattle.std.proofs.Common.{◌≡◌, ◌∙◌, List, [], false, filter, rules, subst, sym}
use Rattle.std.specs.BTreeMap.Range.{range_contains}
use Rattle.std.specs.declared.ops.Bound.TheVariants.{Included, Unbounded}
use Rattle.cb_alpha_network.proofs.Found.{has_spot, in_spot, least_at, probe}
use Rattle.cb_alpha_network.proofs.Order.{entry_cmp}
use Rattle.cb_alpha_network.proofs.Pieces.{none_further, run}
use Rattle.cb_alpha_network.proofs.asked.Asked.is_used.Goals as goal
use Rattle.cb_alpha_network.specs.declared.wanted.Entry.{Entry}
use Rattle.cb_alpha_network.specs.declared.wanted.Sought.{Sought}
use Rattle.cb_matches.specs.Chains.{In}

pub returns-in-Some : goal.returns-in-Some
returns-in-Some c =
    λ no entry i e.
    let s = c.args.spot in
    let keys = c.args.self.now.entries.keys in
    let from : (it : Sought) → least_at s ≡ it → In entry (run (has_spot s) (filter (range_contains entry_cmp (Included (probe it)) Unbounded) keys)) =
    λ it same. subst (λ (p : Sought). In entry (run (has_spot s) (filter (range_contains entry_cmp (Included (probe p)) Unbounded) keys))) same (in_spot keys c.range.ensures.ordered s entry i e) in
    let there = from c.first.result (sym c.first.ensures) in
    let at : Entry = c.in-Some.entry.now in
    let differs : has_spot s at ≡ false = no in
    none_further (has_spot s) at c.next.new.self differs entry (subst (λ it. In entry (run (has_spot s) it)) (sym (c.range.ensures.between tt) ∙ c.in-Some.ensures.steps) there)

pub returns : goal.returns
returns c =
    λ no entry i e.
    let s = c.args.spot in
    let keys = c.args.self.now.entries.keys in
    let from : (it : Sought) → least_at s ≡ it → In entry (run (has_spot s) (filter (range_contains entry_cmp (Included (probe it)) Unbounded) keys)) =
    λ it same. subst (λ (p : Sought). In entry (run (has_spot s) (filter (range_contains entry_cmp (Included (probe p)) Unbounded) keys))) same (in_spot keys c.range.ensures.ordered s entry i e) in
    let there = from c.first.result (sym c.first.ensures) in
    absurd (subst (λ it. In entry (run (has_spot s) it)) (sym (c.range.ensures.between tt) ∙ c.in-None.ensures.steps.0) there)
