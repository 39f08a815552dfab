use Rattle.std.proofs.Common.{◌≡◌, None}
use Rattle.cb_io.specs.Output.{IsReady}
use Rattle.clipsbatch_tests.proofs.tests.probes.takes_all.Given as goal

abbrev pub invariant-loop-piece : goal.invariant-loop-piece
invariant-loop-piece g l = l.session.stop ≡ None → IsReady l.out
