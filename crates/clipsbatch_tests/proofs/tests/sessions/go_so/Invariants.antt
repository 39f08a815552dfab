use Rattle.std.proofs.Common.{◌≡◌, None}
use Rattle.cb_io.specs.Output.{IsReady}
use Rattle.clipsbatch_tests.proofs.tests.sessions.go_so.Given as goal

abbrev pub invariant-loop-turn : goal.invariant-loop-turn
invariant-loop-turn g l = l.session.stop ≡ None → IsReady l.out
