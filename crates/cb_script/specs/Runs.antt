-- How far a run is ahead of what it wrote.
use Rattle.std.specs.Prelude.{◌≡◌, ◌≤◌, ℕ, List, ◌++◌, length, None}
use Rattle.cb_session.specs.Setups.{Setup}
use Rattle.cb_session.specs.Transcripts.{so_far}

-- The run that read and wrote these bytes is at most 4096 bytes ahead of what it wrote: before the last `piece` of what it read, which
-- is no longer, the script had not ended, and all that its items wrote by then was written.
pub record IsPrompt (setup : Setup) (read wrote : List ℕ) : Type 0 where
  pub before : List ℕ
  pub piece : List ℕ
  pub more : List ℕ
  pub read_is : read ≡ before ++ piece
  pub is_short : length piece ≤ 4096
  pub goes_on : (so_far setup before).status ≡ None
  pub wrote_is : wrote ≡ (so_far setup before).written ++ more
