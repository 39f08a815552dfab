use Rattle.std.proofs.Common.{◌≡◌, drop}
use Rattle.cb_requests.specs.Uses.{has_name}
use Rattle.cb_requests.proofs.context.has_name.Given as goal

abbrev pub invariant-loop-name : goal.invariant-loop-name
invariant-loop-name l = has_name l.wanted (drop l.name-index l.names) ≡ has_name l.wanted l.names
