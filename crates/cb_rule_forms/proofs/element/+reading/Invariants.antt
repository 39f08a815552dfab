use Rattle.std.proofs.Common.{◌≡◌, ◌++◌, drop, map}
use Rattle.cb_rule_forms.specs.Elements.{each_written, elements_faults}
use Rattle.cb_rule_forms.specs.Internal.{form_value, writtens, written_seen}
use Rattle.cb_rule_forms.proofs.element.+reading.Given as goal

abbrev pub invariant-read_each-loop-written : goal.invariant-read_each-loop-written
invariant-read_each-loop-written l =
    (elements_faults l.scope (writtens (map written_seen (drop l.written-index l.each))) ≡ elements_faults l.scope (writtens (map written_seen l.each)))
    × (map form_value l.elements.items ++ each_written l.scope.templates (writtens (map written_seen (drop l.written-index l.each)))
    ≡ map form_value l.fn.elements.items ++ each_written l.scope.templates (writtens (map written_seen l.each)))
