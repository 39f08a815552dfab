use Rattle.cb_alpha.proofs.AllBuckets.{AreMembersAhead}
use Rattle.cb_alpha.proofs.all_buckets.members_of_all.Given as goal

abbrev pub invariant-loop-key : goal.invariant-loop-key
invariant-loop-key l = AreMembersAhead l.buckets.slots l.members l.low l.high l.key l.all.items
