use Rattle.std.proofs.Common.{◌≡◌, take}
use Rattle.cb_facts.specs.Values.{spliced}
use Rattle.cb_facts.proofs.splicing.splice.Given as goal

abbrev pub invariant-loop-value : goal.invariant-loop-value
invariant-loop-value l = l.fields.items ≡ spliced (take l.value-index l.values)
