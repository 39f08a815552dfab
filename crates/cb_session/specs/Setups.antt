-- How a session is set up.
use Rattle.std.specs.Prelude.{ℕ}
use Rattle.cb_actions.specs.declared.numbers.Numbers.{Numbers}
use Rattle.cb_session.specs.declared.limits.Limits.{Limits}

-- The limits of a script, and the numbers that count as given last before it: the index of a fact, the number of a rule, and the
-- stamp of an activation.
pub record Setup : Type 0 where
  pub max_form : ℕ
  pub max_firings : ℕ
  pub max_turns : ℕ
  pub index : ℕ
  pub rule : ℕ
  pub stamp : ℕ

-- these limits and these numbers
abbrev pub setup_of : Limits → Numbers → Setup
setup_of limits numbers = record { max_form = limits.max_form; max_firings = limits.max_firings; max_turns = limits.max_turns; index = numbers.index; rule = numbers.rule; stamp = numbers.stamp }

-- these limits, where no number was given yet, as in a run of the program
abbrev pub fresh_setup : Limits → Setup
fresh_setup limits = record { max_form = limits.max_form; max_firings = limits.max_firings; max_turns = limits.max_turns; index = 0; rule = 0; stamp = 0 }
