use Rattle.std.proofs.Common.{◌≡◌, ◌++◌, map}
use Rattle.std.specs.List.{flat_map}
use Rattle.cb_rule_forms.specs.Branches.{asked_by}
use Rattle.cb_rule_forms.specs.Elements.{element_faults}
use Rattle.cb_rule_forms.specs.Internal.{branches_read, ways_seen}
use Rattle.cb_rule_forms.proofs.ways.read_ways.Given as goal

abbrev pub invariant-loop-way : goal.invariant-loop-way
invariant-loop-way l =
    (flat_map (flat_map (element_faults l.scope)) (ways_seen l.way-iterator.rest.items) ≡ flat_map (flat_map (element_faults l.scope)) (ways_seen l.fn.ways.items))
    × (branches_read l.branches.items ++ map (asked_by l.scope.templates) (ways_seen l.way-iterator.rest.items) ≡ map (asked_by l.scope.templates) (ways_seen l.fn.ways.items))
