use Rattle.std.proofs.Common.{◌≡◌, ◌++◌}
use Rattle.cb_rule_forms.specs.Internal.{ways_seen}
use Rattle.cb_rule_forms.proofs.ways.add_ways.Given as goal

abbrev pub invariant-loop-way : goal.invariant-loop-way
invariant-loop-way l = ways_seen l.all.items ++ ways_seen l.way-iterator.rest.items ≡ ways_seen l.fn.all.items ++ ways_seen l.fn.ways.items
