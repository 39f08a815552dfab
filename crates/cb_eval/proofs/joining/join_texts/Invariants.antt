use Rattle.std.proofs.Common.{◌≡◌, take}
use Rattle.std.specs.List.{flat_map}
use Rattle.cb_eval.proofs.joining.join_texts.Given as goal
use Rattle.cb_facts.specs.Texts.{plain_bytes}

abbrev pub invariant-loop-value : goal.invariant-loop-value
invariant-loop-value l = l.text.items ≡ flat_map plain_bytes (take l.value-index l.values)
