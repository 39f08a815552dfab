-- What contracts see of a matcher.
use Rattle.std.specs.Prelude.{Bool, [], false}
use Rattle.cb_matches.specs.Changes.{Numbers}
use Rattle.cb_matches.specs.Networks.{Network, empty_network}

-- its rules and facts, the numbers of the matches, and whether a call that changes them was refused
pub record MatcherValue : Type 0 where
  pub network : Network
  pub numbers : Numbers
  pub is_failed : Bool

-- one without rules and facts
abbrev pub new_matcher : MatcherValue
new_matcher = record { network = empty_network; numbers = []; is_failed = false }
