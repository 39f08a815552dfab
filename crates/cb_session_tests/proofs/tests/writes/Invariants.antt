use Rattle.std.proofs.Common.{◌≡◌, None}
use Rattle.cb_io.specs.Output.{IsReady}
use Rattle.cb_session_tests.proofs.tests.writes.Given as goal

abbrev pub invariant-loop-step : goal.invariant-loop-step
invariant-loop-step g l = l.session.stop ≡ None → IsReady l.out
