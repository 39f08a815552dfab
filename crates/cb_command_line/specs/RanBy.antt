-- What is promised of a run with the limits that the program's words give.
use Rattle.std.specs.Prelude.{◌≡◌, ℕ, List, Option, codes}
use Rattle.clap.specs.Words.{Text}
use Rattle.cb_io.specs.Histories.{PastReads, PastWrites}
use Rattle.cb_command_line.specs.Commands.{limit_of}
use Rattle.cb_script.specs.Ran.{Ran}
use Rattle.cb_script.specs.declared.outcome.Outcome.{Outcome}
use Rattle.cb_session.specs.Places.{FaultPlaces}
use Rattle.cb_session.specs.declared.limits.Limits.{Limits}

-- each limit is the number that its option has among the words, or the default
pub record AreLimitsOf (words : List Text) (limits : Limits) : Type 0 where
  pub max_form : limits.max_form ≡ limit_of (codes "max-form") 1048576 words
  pub max_firings : limits.max_firings ≡ limit_of (codes "max-firings") 1000000 words
  pub max_turns : limits.max_turns ≡ limit_of (codes "max-turns") 10000000 words

-- a run with these limits
pub record RanBy (words : List Text) (result : Outcome) (places : FaultPlaces) (left left' : Option (List ℕ)) (reads reads' : PastReads) (writes writes' : PastWrites) : Type 0 where
  pub limits : Limits
  pub are_limits : AreLimitsOf words limits
  pub ran : Ran limits result places left left' reads reads' writes writes'
