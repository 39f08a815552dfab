use Rattle.std.proofs.Common.{◌≡◌, ◌++◌, [], ◌∷◌}
use Rattle.cb_rule_forms.specs.Branches.{combined}
use Rattle.cb_rule_forms.specs.Internal.{ways_seen, written_seen}
use Rattle.cb_rule_forms.proofs.ways.lengthen.Given as goal

abbrev pub invariant-loop-way : goal.invariant-loop-way
invariant-loop-way l =
    ways_seen l.all.items ++ combined (ways_seen l.way-iterator.rest.items) ((written_seen l.element ∷ []) ∷ [])
    ≡ combined (ways_seen l.fn.ways.items) ((written_seen l.element ∷ []) ∷ [])
