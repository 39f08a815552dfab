use Rattle.std.specs.BTreeMap.Range.{entries_between}
use Rattle.std.specs.declared.ops.Bound.TheVariants.{Excluded, Included}
use Rattle.cb_alpha.proofs.Ranges.{AreGathered}
use Rattle.cb_alpha.specs.Buckets.{Filing, values_cmp}
use Rattle.cb_alpha.specs.Internal.Numbered.{AreInOrder}
use Rattle.cb_alpha.proofs.value_ranges.members_between.Given as goal

abbrev pub invariant-loop-values : goal.invariant-loop-values
invariant-loop-values l =
    (buckets : Filing) → AreInOrder l.numbers buckets
    → AreGathered l.members (entries_between values_cmp (Included l.low) (Excluded l.high) l.numbers.entries) l._values-iterator l.all.items
