use Rattle.std.proofs.Common.{◌≡◌, ◌++◌, drop, map}
use Rattle.cb_rule_forms.specs.Branches.{combined, ways_through_all, ways_through_one}
use Rattle.cb_rule_forms.specs.Internal.{way_seen, ways_seen, writtens, written_seen}
use Rattle.cb_rule_forms.proofs.ways.+following.Given as goal

abbrev pub invariant-follow_all-loop-element : goal.invariant-follow_all-loop-element
invariant-follow_all-loop-element l =
    combined (ways_seen l.all.items) (ways_through_all (writtens (map written_seen (drop l.element-index l.elements))))
    ≡ combined (ways_seen l.fn.ways.items) (ways_through_all (writtens (map written_seen l.elements)))

abbrev pub invariant-follow_one-loop-way : goal.invariant-follow_one-loop-way
invariant-follow_one-loop-way l =
    ways_seen l.all.items ++ combined (ways_seen l.way-iterator.rest.items) (ways_through_one (writtens (map written_seen l.elements)))
    ≡ combined (ways_seen l.fn.ways.items) (ways_through_one (writtens (map written_seen l.elements)))

abbrev pub invariant-branch_off-loop-element : goal.invariant-branch_off-loop-element
invariant-branch_off-loop-element l =
    (ways_seen l.all.items ++ map (λ more. way_seen l.fn.way ++ more) (ways_through_one (writtens (map written_seen (drop l.element-index l.others))))
    ≡ ways_seen l.fn.all.items ++ map (λ more. way_seen l.fn.way ++ more) (ways_through_one (writtens (map written_seen l.others))))
    × (way_seen l.way ≡ way_seen l.fn.way)
