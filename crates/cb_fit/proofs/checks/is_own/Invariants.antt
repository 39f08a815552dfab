use Rattle.std.proofs.Common.{◌≡◌, drop}
use Rattle.cb_fit.proofs.checks.is_own.Given as goal
use Rattle.cb_fit.specs.Internal.Reading.{own_of}
use Rattle.cb_fit.specs.Plain.{is_named}

abbrev pub invariant-loop-check : goal.invariant-loop-check
invariant-loop-check l = is_named l.name (own_of (drop l.check-index l.checks)) ≡ is_named l.name (own_of l.checks)
