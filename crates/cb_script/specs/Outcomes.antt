-- How a run ends, and what is said of it.
use Rattle.std.specs.Prelude.{ℕ, List, [], codes}
use Rattle.cb_session.specs.declared.status.Ending.{Ending}
use Rattle.cb_session.specs.declared.status.Ending.TheVariants as ending
use Rattle.cb_session.specs.declared.status.Status.{Status}
use Rattle.cb_io.specs.declared.stop.Stop.{Stop}
use Rattle.cb_io.specs.declared.stop.Stop.TheVariants as stop
use Rattle.cb_script.specs.declared.outcome.Cause.{Cause}
use Rattle.cb_script.specs.declared.outcome.Cause.TheVariants.{Done, Exit, Limit, ReadFault, WriteFault, NoMemory}
use Rattle.cb_script.specs.declared.outcome.Outcome.{Outcome}

-- the cause that a script's own ending is
abbrev pub cause_of : Ending → Cause
cause_of ending.Done = Done
cause_of ending.Exit = Exit
cause_of ending.Limit = Limit

-- a script that has ended
abbrev pub ended_as : Status → Outcome
ended_as status = record { status = status.code; cause = cause_of status.ending }

-- a run that failed
abbrev pub failed_as : Cause → Outcome
failed_as cause = record { status = 3; cause = cause }

-- a script that could not be carried out further
abbrev pub stopped_as : Stop → Outcome
stopped_as stop.NoMemory = failed_as NoMemory
stopped_as stop.WriteFault = failed_as WriteFault

-- the line on standard error
abbrev pub line_of : Cause → List ℕ
line_of Done = []
line_of Exit = []
line_of Limit = []
line_of ReadFault = codes "clipsbatch: read failed"
line_of WriteFault = codes "clipsbatch: write failed"
line_of NoMemory = codes "clipsbatch: out of memory"

-- The script's own ending ended the run.
abbrev pub HasEnded : Cause → Type 0
HasEnded Done = Unit {0}
HasEnded Exit = Unit {0}
HasEnded Limit = Unit {0}
HasEnded ReadFault = ⊥
HasEnded WriteFault = ⊥
HasEnded NoMemory = ⊥

-- The script could not be carried out further.
abbrev pub HasStopped : Cause → Type 0
HasStopped Done = ⊥
HasStopped Exit = ⊥
HasStopped Limit = ⊥
HasStopped ReadFault = ⊥
HasStopped WriteFault = Unit {0}
HasStopped NoMemory = Unit {0}

-- The run ended before the script did.
abbrev pub HasFailed : Cause → Type 0
HasFailed Done = ⊥
HasFailed Exit = ⊥
HasFailed Limit = ⊥
HasFailed ReadFault = Unit {0}
HasFailed WriteFault = Unit {0}
HasFailed NoMemory = Unit {0}
