use Rattle.std.proofs.Common.{◌≡◌, drop}
use Rattle.cb_fit.specs.Plain.{is_named}
use Rattle.cb_branch.proofs.by_values.is_one_of.Given as goal

abbrev pub invariant-loop-other : goal.invariant-loop-other
invariant-loop-other l = is_named l.name (drop l.other-index l.names) ≡ is_named l.name l.names
