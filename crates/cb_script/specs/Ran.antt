-- All that is promised of a run, in one record.
use Rattle.std.specs.Prelude.{◌≡◌, ◌≢◌, ◌<◌, ◌-◌, ◌^◌, ◌++◌, ℕ, List, [], length, Option, IfSome}
use Rattle.cb_forms.specs.Laws.{BeginsWith}
use Rattle.cb_io.specs.Histories.{PastReads, PastWrites}
use Rattle.cb_io.specs.Moved.{Gave}
use Rattle.cb_script.specs.Outcomes.{ended_as, HasEnded, HasStopped, HasFailed}
use Rattle.cb_script.specs.Runs.{IsPrompt}
use Rattle.cb_script.specs.declared.outcome.Cause.TheVariants.{Done, ReadFault, WriteFault}
use Rattle.cb_script.specs.declared.outcome.Outcome.{Outcome}
use Rattle.cb_session.specs.Places.{FaultPlaces, all_places, places_so_far}
use Rattle.cb_session.specs.Setups.{Setup, fresh_setup}
use Rattle.cb_session.specs.Transcripts.{so_far, transcript, status_of}
use Rattle.cb_session.specs.declared.limits.Limits.{Limits}

-- the script has written all of its transcript and ended so, and these are the places of its faults and of its limit
abbrev pub IsTranscript : Setup → Outcome → FaultPlaces → List ℕ → List ℕ → Type 0
IsTranscript setup result places script wrote = (wrote ≡ transcript setup script) × (result ≡ ended_as (status_of setup script)) × (places ≡ all_places setup script)

-- A run from this setup with this outcome, which reports these places. The source had `left` left when the run began and has `left'` now, if it says so; its
-- reads had given `reads` and have given `reads'`; the writes of the sink had taken `writes` and have taken `writes'`.
pub record RanFrom (setup : Setup) (result : Outcome) (places : FaultPlaces) (left left' : Option (List ℕ)) (reads reads' : PastReads) (writes writes' : PastWrites) : Type 0 where
  -- what the run read and what it wrote
  pub read : List ℕ
  pub wrote : List ℕ
  pub read_is : reads'.bytes ≡ reads.bytes ++ read
  pub wrote_is : writes'.bytes ≡ writes.bytes ++ wrote
  -- However it went.
  pub prompt : IsPrompt setup read wrote
  -- The script has ended: by its end only where a read reported it; else so, however the script goes on.
  pub ended : HasEnded result.cause → IsTranscript setup result places read wrote
  pub ended_however : HasEnded result.cause → reads'.ends ≡ reads.ends → (rest : List ℕ) → IsTranscript setup result places (read ++ rest) wrote
  pub end_was_read : result.cause ≡ Done → reads.ends < reads'.ends
  -- The run failed.
  pub after_read_fault : result.cause ≡ ReadFault → wrote ≡ (so_far setup read).written
  pub places_at_read_fault : result.cause ≡ ReadFault → places ≡ places_so_far setup read
  pub after_stop : HasStopped result.cause → BeginsWith wrote (transcript setup read)
  pub after_stop_however : HasStopped result.cause → reads'.ends ≡ reads.ends → (rest : List ℕ) → BeginsWith wrote (transcript setup (read ++ rest))
  pub read_failed : result.cause ≡ ReadFault → length read < 2 ^ 64 - 1 → reads.failures < reads'.failures
  pub no_read_failed : (result.cause ≢ ReadFault) → reads'.failures ≡ reads.failures
  pub write_failed : result.cause ≡ WriteFault → writes.failures < writes'.failures
  pub no_write_failed : (result.cause ≢ WriteFault) → writes'.failures ≡ writes.failures
  pub status_of_failure : HasFailed result.cause → result.status ≡ 3
  -- A source that says which bytes it has: of all of them, read or not. Where some are unread, it doesn't matter which.
  pub gave : Gave left left' read
  pub whole_transcript : HasEnded result.cause → IfSome left (λ s. IsTranscript setup result places s wrote)
  pub after_stop_of_all : HasStopped result.cause → IfSome left (λ s. BeginsWith wrote (transcript setup s))
  pub after_stop_with_more : HasStopped result.cause → IfSome left' (λ unread. unread ≢ [] → (rest : List ℕ) → BeginsWith wrote (transcript setup (read ++ rest)))

-- A run of the program with these limits, this outcome and these places: no number was given before.
abbrev pub Ran : Limits → Outcome → FaultPlaces → Option (List ℕ) → Option (List ℕ) → PastReads → PastReads → PastWrites → PastWrites → Type 0
Ran limits result places left left' reads reads' writes writes' = RanFrom (fresh_setup limits) result places left left' reads reads' writes writes'
