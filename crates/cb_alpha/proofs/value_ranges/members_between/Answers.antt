use Rattle.std.proofs.Common.{◌≡◌, ◌∙◌, ◌∷◌, ℕ, List, ap, is_gt, subst, sym}
use Rattle.std.specs.BTreeMap.Range.{entries_between}
use Rattle.std.specs.declared.ops.Bound.TheVariants.{Excluded, Included}
use Rattle.cb_alpha.proofs.Ranges.{AreGathered, Entry, all_gathered, none_filed, none_gathered, one_bucket_more}
use Rattle.cb_alpha.specs.Buckets.{AreWithin, values_cmp}
use Rattle.cb_alpha.specs.Internal.Numbered.{filing}
use Rattle.cb_alpha.proofs.value_ranges.members_between.Goals as goal

pub returns-then-is_gt : goal.returns-then-is_gt
returns-then-is_gt c vs is =
    let low = c.args.low.now in
    let high = c.args.high.now in
    let ms = c.args.members.now in
    subst (AreWithin (filing vs ms) low high) (sym c.new-all.ensures.items) (none_filed vs ms low high (sym (c.is_gt.ensures ∙ ap is_gt c.cmp.ensures) ∙ c.if-is_gt.true))

pub loop-values-init : goal.loop-values-init
loop-values-init c vs is =
    let low = c.args.low.now in
    let high = c.args.high.now in
    let m = c.args.numbers.now in
    let ms = c.args.members.now in
    let between : List Entry = entries_between values_cmp (Included low) (Excluded high) m.entries in
    let all : c.into_iter-values-iterator.result ≡ between = c.into_iter-values-iterator.ensures.into_iter_gives ∙ c.range-values-items.ensures.between tt in
    subst (λ it. AreGathered ms between it c.new-all.result.items) (sym all)
    (subst (AreGathered ms between between) (sym c.new-all.ensures.items) (none_gathered m c.range-values-items.ensures.ordered vs is ms low high))

pub loop-values-preserved : goal.loop-values-preserved
loop-values-preserved c vs is =
    let low = c.args.low.now in
    let high = c.args.high.now in
    let ms = c.args.members.now in
    let between : List Entry = entries_between values_cmp (Included low) (Excluded high) c.args.numbers.now.entries in
    let e : Entry = (c.in-Some._values.now, c.in-Some.number.now) in
    let left : List Entry = c.next.new.self in
    let found : List ℕ = c.loop-values.all.items in
    let cut : c.loop-values._values-iterator ≡ e ∷ left = c.in-Some.ensures.steps in
    subst (AreGathered ms between left) (sym c.in_ok-extend_from_slice.ensures.items)
    (one_bucket_more ms between left found c.members.result.now e (subst (λ it. AreGathered ms between it found) cut (c.loop-values.invariant vs is)) c.members.ensures)

pub returns : goal.returns
returns c vs is =
    let low = c.args.low.now in
    let high = c.args.high.now in
    let m = c.args.numbers.now in
    let ms = c.args.members.now in
    let between : List Entry = entries_between values_cmp (Included low) (Excluded high) m.entries in
    let found : List ℕ = c.loop-values.all.items in
    all_gathered m c.range-values-items.ensures.ordered vs is ms low high found
    (subst (λ it. AreGathered ms between it found) c.in-None.ensures.steps.0 (c.loop-values.invariant vs is))
