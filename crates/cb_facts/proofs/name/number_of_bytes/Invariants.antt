use Rattle.std.proofs.Common.{◌≡◌, length}
use Rattle.cb_facts.specs.Internal.ShortNames.{number_of}
use Rattle.cb_facts.proofs.ShortNames.{with_more}
use Rattle.cb_facts.proofs.name.number_of_bytes.Given as goal

abbrev pub invariant-loop-last : goal.invariant-loop-last
invariant-loop-last l = with_more l.left l.number ≡ number_of l.bytes

abbrev pub decreases-loop-last : goal.decreases-loop-last
decreases-loop-last l = length l.left
