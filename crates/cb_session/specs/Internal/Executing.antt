-- What a call that carries out items did to the output and to the state.
use Rattle.std.specs.Prelude.{◌≡◌, Option, Result, OnOk, IfOk}
use Rattle.cb_io.specs.declared.stop.Stop.{Stop}
use Rattle.cb_io.specs.Histories.{PastWrites}
use Rattle.cb_io.specs.Output.{OutState, Puts, stop_extent}
use Rattle.cb_session.specs.States.{State}
use Rattle.cb_session.specs.Transcripts.{Run}
use Rattle.cb_session.specs.declared.status.Status.{Status}

-- A call that carried out items, which are this part of a run.
pub record Executes {K : Type 0} (writes : K → PastWrites) (old new : OutState K) (state : State) (result : Result (Option Status) Stop) (run : Run) : Type 0 where
  pub puts : Puts writes old new (stop_extent result) run.written
  pub state_is : OnOk result (state ≡ run.state)
  pub status_is : IfOk result (λ status. status ≡ run.status)
