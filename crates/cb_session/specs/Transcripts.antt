-- The transcript and the status of a script.
use Rattle.std.specs.Prelude.{ℕ, Bool, true, List, [], ◌∷◌, ◌++◌, Option, Some, None, Result, Ok, Err, length, drop, unwrap_or, if◌then◌else◌}
use Rattle.cb_forms.specs.Items.{whole, over, fitting}
use Rattle.cb_forms.specs.Trees.{Reading}
use Rattle.cb_session.specs.Setups.{Setup}
use Rattle.cb_session.specs.States.{State, first_state}
use Rattle.cb_session.specs.Actions.{acted}
use Rattle.cb_session.specs.Lines.{fault_line, limit_line, too_long_line}
use Rattle.cb_actions.specs.declared.act.EarlyEnd.{EarlyEnd}
use Rattle.cb_actions.specs.declared.act.EarlyEnd.TheVariants as ended
use Rattle.cb_session.specs.declared.status.Ending.TheVariants.{Done, Exit, Limit}
use Rattle.cb_session.specs.declared.status.Status.{Status}

-- how far a script has come: the state, all that was written, and the status if it has ended
pub record Run : Type 0 where
  pub state : State
  pub written : List ℕ
  pub status : Option Status

-- A script before its first item.
abbrev pub begun : Setup → Run
begun setup = record { state = first_state setup; written = []; status = None }

-- A script that ends at a limit has status 4.
abbrev pub limit_status : Status
limit_status = record { code = 4; ending = Limit }

-- the code of a script that asks for none: 1 where a fault line was written, else 0
abbrev pub fault_code : Bool → ℕ
fault_code is_faulted = if is_faulted then 1 else 0

-- how a script ends by `exit`, which may ask for a code
abbrev pub exit_status : Option ℕ → Bool → Status
exit_status code is_faulted = record { code = unwrap_or code (fault_code is_faulted); ending = Exit }

-- An item was done so far: this is the state, this was written, and so it ended. A fault is a line, and the script goes on; a
-- limit is a line, and the script ends; and with `exit` the script ends.
abbrev pub concluded : State → List ℕ → Result (Unit {0}) EarlyEnd → Run
concluded s bytes (Ok _) = record { state = s; written = bytes; status = None }
concluded s bytes (Err (ended.Fault f)) = record { state = record s { is_faulted = true }; written = bytes ++ fault_line f; status = None }
concluded s bytes (Err (ended.FaultIn f id)) = record { state = record s { is_faulted = true }; written = bytes ++ fault_line f; status = None }
concluded s bytes (Err (ended.Limit limit)) = record { state = s; written = bytes ++ limit_line limit; status = Some limit_status }
concluded s bytes (Err (ended.Exit code)) = record { state = s; written = bytes; status = Some (exit_status code s.is_faulted) }

-- what an item does to a script
unfoldable pub executed : State → Reading → Run
executed s r = concluded (acted r s).state (acted r s).written (acted r s).answer

-- A run and what comes after it.
abbrev pub runs_joined : Run → Run → Run
runs_joined run next = record { state = next.state; written = run.written ++ next.written; status = next.status }

-- one more item; after the end nothing counts
abbrev pub after_status : Option Status → Run → Reading → Run
after_status None run item = runs_joined run (executed run.state item)
after_status (Some status) run item = run

-- One more item, unless the script has ended.
abbrev pub after : Run → Reading → Run
after run item = after_status run.status run item

-- these items, one after another
abbrev pub after_all : Run → List Reading → Run
after_all run [] = run
after_all run (item ∷ items) = after_all (after run item) items

-- an item that is too long stands here, unless the script has ended before it
abbrev pub too_long_status : Option Status → Run → Run
too_long_status None run = record { state = run.state; written = run.written ++ too_long_line; status = Some limit_status }
too_long_status (Some status) run = run

-- An item is too long: its line, and status 4, unless the script has ended before.
abbrev pub too_long : Run → Run
too_long run = too_long_status run.status run

-- how a script ends at its end, unless it has ended before
abbrev pub status_at_end : Option Status → Bool → Status
status_at_end None is_faulted = record { code = fault_code is_faulted; ending = Done }
status_at_end (Some status) is_faulted = status

-- The script p, so far: each item that has ended is carried out, up to one that is too long.
unfoldable pub so_far : Setup → List ℕ → Run
so_far setup p = if over setup.max_form p then too_long (after_all (begun setup) (fitting setup.max_form p)) else after_all (begun setup) (whole p)

-- the whole script s
unfoldable pub complete : Setup → List ℕ → Run
complete setup s =
    if over setup.max_form s then too_long (after_all (begun setup) (fitting setup.max_form s)) else after_all (begun setup) (fitting setup.max_form s)

-- what a script writes
abbrev pub transcript : Setup → List ℕ → List ℕ
transcript setup s = (complete setup s).written

-- how it ends
abbrev pub status_of : Setup → List ℕ → Status
status_of setup s = status_at_end (complete setup s).status (complete setup s).state.is_faulted

-- what the bytes q add to what the script p has written so far
unfoldable pub added : Setup → List ℕ → List ℕ → List ℕ
added setup p q = drop (length (so_far setup p).written) (so_far setup (p ++ q)).written

-- what the end of the script p adds to it
unfoldable pub added_at_end : Setup → List ℕ → List ℕ
added_at_end setup p = drop (length (so_far setup p).written) (transcript setup p)
