-- How the program ends, by its words and its run.
use Rattle.std.specs.Prelude.{◌≡◌, ◌≢◌, ◌⊎◌, ℕ, List, [], Option}
use Rattle.clap.specs.Words.{IsAmong, Text, fault_of}
use Rattle.clap.specs.declared.error.kind.ErrorKind.{ErrorKind}
use Rattle.clap.specs.declared.error.kind.ErrorKind.TheVariants as kind
use Rattle.cb_io.specs.Histories.{PastReads, PastWrites}
use Rattle.cb_command_line.specs.Commands.{limits_app}
use Rattle.cb_command_line.specs.RanBy.{RanBy}
use Rattle.cb_script.specs.declared.outcome.Outcome.{Outcome}
use Rattle.cb_session.specs.Places.{FaultPlaces}

-- The exit status for an error of this kind: memory was refused; help was asked for, and could be written or could not; or the
-- words are wrong. The options have no version to ask for.
pub record IsStatusFor (k : ErrorKind) (status : ℕ) : Type 0 where
  pub memory : k ≡ kind.OutOfMemory → status ≡ 3
  pub help : k ≡ kind.DisplayHelp → (status ≡ 0) ⊎ (status ≡ 3)
  pub wrong : k ≢ kind.OutOfMemory → k ≢ kind.DisplayHelp → k ≢ kind.DisplayVersion → status ≡ 2

-- The script was carried out by these words, which `clap` takes, and the status is that of the run.
pub record EndedByRun (words : List Text) (status : ℕ) (left left' : Option (List ℕ)) (reads reads' : PastReads) (writes writes' : PastWrites) : Type 0 where
  pub faultless : fault_of limits_app words ≡ []
  pub outcome : Outcome
  pub places : FaultPlaces
  pub ran : RanBy words outcome places left left' reads reads' writes writes'
  pub status_is : status ≡ outcome.status

-- Nothing was read of the script and nothing written: `clap` refuses the words, and this is the status for that, or memory
-- was refused.
pub record EndedBefore (words : List Text) (status : ℕ) (left left' : Option (List ℕ)) (reads reads' : PastReads) (writes writes' : PastWrites) : Type 0 where
  pub left_is : left' ≡ left
  pub reads_are : reads' ≡ reads
  pub writes_are : writes' ≡ writes
  pub status_is : (status ≡ 3) ⊎ ((k : ErrorKind) × IsAmong k (fault_of limits_app words) × IsStatusFor k status)

-- Nothing was read of the script and nothing written: the program's words could not be had. One isn't UTF-8, or memory was refused.
pub record HadNoWords (status : ℕ) (left left' : Option (List ℕ)) (reads reads' : PastReads) (writes writes' : PastWrites) : Type 0 where
  pub left_is : left' ≡ left
  pub reads_are : reads' ≡ reads
  pub writes_are : writes' ≡ writes
  pub status_is : (status ≡ 2) ⊎ (status ≡ 3)
