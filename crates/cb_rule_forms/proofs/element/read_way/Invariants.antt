use Rattle.std.proofs.Common.{◌≡◌, ◌++◌, map}
use Rattle.std.specs.List.{flat_map}
use Rattle.cb_rule_forms.specs.Elements.{element_faults, written_elements}
use Rattle.cb_rule_forms.specs.Internal.{form_value, written_seen}
use Rattle.cb_rule_forms.proofs.element.read_way.Given as goal

abbrev pub invariant-loop-written : goal.invariant-loop-written
invariant-loop-written l =
    (flat_map (element_faults l.scope) (map (λ w. written_seen w.now) l.written-iterator.rest.items) ≡ flat_map (element_faults l.scope) (map (λ w. written_seen w.now) l.fn.way.items))
    × (map form_value l.elements.items ++ flat_map (written_elements l.scope.templates) (map (λ w. written_seen w.now) l.written-iterator.rest.items)
    ≡ flat_map (written_elements l.scope.templates) (map (λ w. written_seen w.now) l.fn.way.items))
