use Rattle.std.proofs.Common.{◌≡◌, None}
use Rattle.cb_io.specs.Output.{IsReady}
use Rattle.cb_session_tests.proofs.tests.calls.all_go.Given as goal

abbrev pub invariant-loop-turn : goal.invariant-loop-turn
invariant-loop-turn g l = l.session.stop ≡ None → IsReady l.out
