use Rattle.std.proofs.Common.{◌≡◌, ◌||◌, drop}
use Rattle.std.specs.BTreeSet.{contains}
use Rattle.std.specs.List.{list_any}
use Rattle.std.specs.Map.{keys_of}
use Rattle.cb_matches.specs.Keys.{KeyValue, key_cmp, key_eq}
use Rattle.cb_rematch.proofs.come.key_set.Given as goal

abbrev pub invariant-loop-found : goal.invariant-loop-found
invariant-loop-found l = (k : KeyValue) → (contains key_cmp l.set k || list_any (key_eq k) (keys_of (drop l.found-index l.matches))) ≡ list_any (key_eq k) (keys_of l.matches)
