use Rattle.std.proofs.Common.{ap₂, refl, codes, ◌∙◌}
use Rattle.clap.specs.Words.{takes}
use Rattle.cb_command_line.proofs.Options.{from_words, no_fault, has_kind}
use Rattle.cb_command_line.proofs.words.read_words.Goals as goal

pub found_limits-requires : goal.found_limits-requires
found_limits-requires c = c.in_ok-command.ensures.numbers _ c.in-Ok.ensures.parsed

pub returns-in-Ok-clause-max_form : goal.returns-in-Ok-clause-max_form
returns-in-Ok-clause-max_form c = c.found_limits.ensures.max_form ∙ from_words _ _ _ (codes "max-form") 1048576 c.in_ok-command.ensures.app c.in-Ok.ensures.matches

pub returns-in-Ok-clause-max_firings : goal.returns-in-Ok-clause-max_firings
returns-in-Ok-clause-max_firings c = c.found_limits.ensures.max_firings ∙ from_words _ _ _ (codes "max-firings") 1000000 c.in_ok-command.ensures.app c.in-Ok.ensures.matches

pub returns-in-Ok-clause-max_turns : goal.returns-in-Ok-clause-max_turns
returns-in-Ok-clause-max_turns c = c.found_limits.ensures.max_turns ∙ from_words _ _ _ (codes "max-turns") 10000000 c.in_ok-command.ensures.app c.in-Ok.ensures.matches

pub returns-in-Ok-clause-kinds : goal.returns-in-Ok-clause-kinds
returns-in-Ok-clause-kinds c = no_fault _ _ c.in_ok-command.ensures.app c.in-Ok.ensures.kinds

pub returns-in-Err-clause-refused : goal.returns-in-Err-clause-refused
returns-in-Err-clause-refused c = λ taken. c.in-Err.ensures.passes (ap₂ takes c.in_ok-command.ensures.app refl ∙ taken)

pub returns-in-Err-clause-kinds : goal.returns-in-Err-clause-kinds
returns-in-Err-clause-kinds c = has_kind _ _ c.in-Err.error c.in_ok-command.ensures.app c.in-Err.ensures.kinds
