-- How a session keeps in step with its script.
use Rattle.std.specs.Prelude.{◌≡◌, ◌≤◌, ℕ, false, List, [], Option, None, Some, Result, OnOk, IfOk, if◌then◌else◌}
use Rattle.cb_forms.specs.Cutter.{Progress, readings_in}
use Rattle.cb_forms.specs.Cuts.{is_too_long}
use Rattle.cb_forms.specs.Internal.Cuts.{cut_readings}
use Rattle.cb_forms.specs.Items.{whole, over}
use Rattle.cb_forms.specs.declared.cut.Cut.{Cut}
use Rattle.cb_session.specs.ItemLines.{all_on}
use Rattle.cb_session.specs.Places.{FaultPlaces, all_places, noted_all, places_so_far}
use Rattle.cb_session.specs.Setups.{Setup}
use Rattle.cb_session.specs.States.{State}
use Rattle.cb_io.specs.Histories.{PastWrites}
use Rattle.cb_io.specs.Output.{OutState, Puts, stop_extent}
use Rattle.cb_session.specs.Transcripts.{Run, begun, after_all, too_long, complete, added_at_end}
use Rattle.cb_session.specs.declared.status.Status.{Status}
use Rattle.cb_io.specs.declared.stop.Stop.{Stop}

-- a run that begins in this state
abbrev pub from : State → Run
from state = record { state = state; written = []; status = None }

-- what a byte that gives this does in this state
abbrev pub cut_run : State → Cut → Run
cut_run state given = if is_too_long given then too_long (from state) else after_all (from state) (cut_readings given)

-- what a byte that gives this adds to the places, where its items begin on this line
abbrev pub cut_noted : State → ℕ → Cut → FaultPlaces → FaultPlaces
cut_noted state line given ps = if is_too_long given then record ps { limit = Some line } else noted_all None state ps (all_on line (cut_readings given))

-- The script goes on after these bytes: the cutter has stepped them, no item is too long, and the state is that after the items
-- that have ended, none of which has ended the script.
pub record IsUnderWay (setup : Setup) (fed : List ℕ) (cutter : Progress) (state : State) : Type 0 where
  pub limit : cutter.limit ≡ setup.max_form
  pub stepped : cutter.stepped ≡ fed
  pub some : 1 ≤ setup.max_form
  pub fine : cutter.failed ≡ false
  pub fits : over setup.max_form fed ≡ false
  pub given : readings_in cutter.given ≡ whole fed
  pub state_is : state ≡ (after_all (begun setup) (whole fed)).state
  pub goes : (after_all (begun setup) (whole fed)).status ≡ None

-- The places that are known after these bytes: of a script that goes on those so far, of one that has ended all.
abbrev pub AreNoted : Setup → List ℕ → Option Status → FaultPlaces → Type 0
AreNoted setup fed None ps = ps ≡ places_so_far setup fed
AreNoted setup fed (Some status) ps = ps ≡ all_places setup fed

-- The end of a script that goes on: what it adds was put.
pub record Ends {K : Type 0} (writes : K → PastWrites) (old new : OutState K) (setup : Setup) (fed : List ℕ) (state : State) (result : Result (Option Status) Stop) : Type 0 where
  pub puts : Puts writes old new (stop_extent result) (added_at_end setup fed)
  pub state_is : OnOk result (state ≡ (complete setup fed).state)
  pub status : IfOk result (λ status. status ≡ (complete setup fed).status)
