use Rattle.std.proofs.Common.{◌≡◌, ◌≤◌, ◌+◌, ◌*◌, drop, length, map}
use Rattle.cb_rule_forms.specs.Branches.{ways_through_all, ways_through_one}
use Rattle.cb_rule_forms.specs.Internal.{capped, writtens, written_seen}
use Rattle.cb_rule_forms.proofs.ways.+counting.Given as goal

abbrev pub invariant-count_all-loop-element : goal.invariant-count_all-loop-element
invariant-count_all-loop-element l =
    (capped (l.count * length (ways_through_all (writtens (map written_seen (drop l.element-index l.elements))))) ≡ capped (length (ways_through_all (writtens (map written_seen l.elements)))))
    × (l.count ≤ 65)

abbrev pub invariant-count_one-loop-element : goal.invariant-count_one-loop-element
invariant-count_one-loop-element l =
    (capped (l.count + length (ways_through_one (writtens (map written_seen (drop l.element-index l.elements))))) ≡ capped (length (ways_through_one (writtens (map written_seen l.elements)))))
    × (l.count ≤ 65)
