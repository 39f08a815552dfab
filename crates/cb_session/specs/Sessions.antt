-- What a session has been fed, and how it goes on.
use Rattle.std.specs.Prelude.{◌≡◌, ℕ, List, [], Option, Some, None, IsSome}
use Rattle.cb_session.specs.Places.{FaultPlaces, all_places, places_so_far}
use Rattle.cb_session.specs.Setups.{Setup}
use Rattle.cb_session.specs.declared.status.Flow.{Flow}
use Rattle.cb_session.specs.declared.status.Flow.TheVariants.{GoOn, Ended}
use Rattle.cb_session.specs.declared.status.Status.{Status}
use Rattle.cb_io.specs.declared.stop.Stop.{Stop}

-- The bytes fed so far, the status where one was answered, and the stop where one was answered. After those nothing is fed.
pub record SessionState : Type 0 where
  pub setup : Setup
  pub fed : List ℕ
  pub status : Option Status
  pub stop : Option Stop

-- These are the places that the session knows: while the script goes on, those of the items that have ended; after its end, all.
pub record ArePlacesOf (s : SessionState) (ps : FaultPlaces) : Type 0 where
  pub so_far : s.stop ≡ None → s.status ≡ None → ps ≡ places_so_far s.setup s.fed
  pub all : s.stop ≡ None → IsSome s.status → ps ≡ all_places s.setup s.fed

-- Nothing was fed or returned.
abbrev pub fresh_session : Setup → SessionState
fresh_session setup = record { setup = setup; fed = []; status = None; stop = None }

-- the bytes and the status are these now
abbrev pub session_after : Setup → List ℕ → Option Status → SessionState
session_after setup fed status = record { setup = setup; fed = fed; status = status; stop = None }

-- A script without a status goes on, one with a status has ended.
abbrev pub flow_of : Option Status → Flow
flow_of None = GoOn
flow_of (Some status) = Ended status
