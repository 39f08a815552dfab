-- What only the code needs.
use Rattle.std.specs.Prelude.{◌≡◌, ℕ, Some, codes, option_map, unwrap_or}
use Rattle.clap.specs.Built.{IsParsedFrom}
use Rattle.clap.specs.Words.{IsUnsignedIn, Text, app_of, found_of, one_text}
use Rattle.clap.specs.declared.builder.command.Command.{Command}
use Rattle.clap.specs.declared.parser.matches.ArgMatches.{ArgMatches}
use Rattle.clap.specs.declared.parser.matches.Found.{Found}
use Rattle.cb_command_line.specs.Commands.{limits_app, number_in}
use Rattle.cb_session.specs.declared.limits.Limits.{Limits}

-- where the option has a text, that is a number from `min` to `max`
abbrev pub IsNumberOption : Found → Text → ℕ → ℕ → Type 0
IsNumberOption found id min max = (text : Text) → one_text found id ≡ Some text → IsUnsignedIn min max text

-- the number that the option has, or the default
abbrev pub option_or : Found → Text → ℕ → ℕ
option_or found id default = unwrap_or (option_map number_in (one_text found id)) default

-- each option that is given has a number in its range
pub record HaveNumbers (found : Found) : Type 0 where
  pub form : IsNumberOption found (codes "max-form") 1 16777216
  pub firings : IsNumberOption found (codes "max-firings") 0 1000000000000
  pub turns : IsNumberOption found (codes "max-turns") 0 1000000000000

-- the command is the one of the definitions, and what it reads of words has these numbers
pub record TakesTheLimits (command : Command) : Type 0 where
  pub app : app_of command ≡ limits_app
  pub numbers : (matches : ArgMatches) → IsParsedFrom command matches → HaveNumbers (found_of matches)

-- each limit is the number of its option, or the default
pub record AreLimitsIn (found : Found) (limits : Limits) : Type 0 where
  pub max_form : limits.max_form ≡ option_or found (codes "max-form") 1048576
  pub max_firings : limits.max_firings ≡ option_or found (codes "max-firings") 1000000
  pub max_turns : limits.max_turns ≡ option_or found (codes "max-turns") 10000000
