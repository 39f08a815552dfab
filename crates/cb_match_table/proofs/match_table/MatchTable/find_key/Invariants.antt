use Rattle.cb_match_table.proofs.EntriesLeft.{AreLeft}
use Rattle.cb_match_table.proofs.match_table.MatchTable.find_key.Given as goal

abbrev pub invariant-loop-place : goal.invariant-loop-place
invariant-loop-place g l =
    (goal.iterator-loop-place g).can_next l.place-iterator ×
    (goal.iterator-loop-place g).is_finite l.place-iterator ×
    AreLeft l.self l.place-iterator l.key
