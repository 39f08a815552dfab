use Rattle.std.proofs.Common.{◌⊎◌, ℕ}
use Rattle.std.specs.BTreeSet.{keys_between}
use Rattle.std.specs.declared.ops.Bound.TheVariants.{Included, Unbounded}
use Rattle.cb_alpha_network.proofs.Found.{has_sought}
use Rattle.cb_alpha_network.proofs.Order.{entry_cmp}
use Rattle.cb_alpha_network.proofs.Pieces.{run}
use Rattle.cb_alpha_network.proofs.asked.Asked.add_sought.Given as goal
use Rattle.cb_alpha_network.specs.declared.wanted.Entry.{Entry}
use Rattle.cb_matches.specs.Chains.{In}

abbrev pub invariant-loop-entry : goal.invariant-loop-entry
invariant-loop-entry l = record {
  added : (e : Entry) → In e (run (has_sought l.first.sought) (keys_between entry_cmp (Included l.first) Unbounded l.self.entries))
      → In e.number l.found.items ⊎ In e (run (has_sought l.first.sought) l.entry-iterator);
  stay : (n : ℕ) → In n l.initial.found.items → In n l.found.items;
}
