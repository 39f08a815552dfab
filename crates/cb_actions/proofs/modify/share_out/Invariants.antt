use Rattle.std.proofs.Common.{◌≡◌, ◌++◌, drop}
use Rattle.cb_actions.specs.Effects.{shared_out}
use Rattle.cb_actions.proofs.modify.share_out.Given as goal

abbrev pub invariant-loop-slot : goal.invariant-loop-slot
invariant-loop-slot l = l.given.items ++ shared_out (drop l.slot-index l.slots) l.rest ≡ shared_out l.slots l.values
