use Rattle.std.proofs.Common.{◌≡◌, ◌++◌, map}
use Rattle.cb_rule_forms.specs.Internal.{way_seen, written_seen}
use Rattle.cb_rule_forms.proofs.ways.copy_way.Given as goal

abbrev pub invariant-loop-element : goal.invariant-loop-element
invariant-loop-element l =
    (way_seen l.first ++ map (λ w. written_seen w.now) l.element-iterator.rest.items ≡ way_seen l.fn.way)
    × (way_seen l.second ++ map (λ w. written_seen w.now) l.element-iterator.rest.items ≡ way_seen l.fn.way)
