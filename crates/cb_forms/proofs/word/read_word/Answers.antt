use Rattle.std.proofs.Common.{rules, arith}
use Rattle.std.proofs.lemmas.Grind.{common_steps}
use Rattle.cb_forms.specs.Words.{token_of}
use Rattle.cb_forms.proofs.WordLemmas.{token_of-variable, token_of-multivariable}
use Rattle.cb_forms.proofs.word.read_word.Goals as goal

pub returns-in_ok-read_multivariable-in-36 : goal.returns-in_ok-read_multivariable-in-36
returns-in_ok-read_multivariable-in-36 c = grind (arith, common_steps, token_of-multivariable)

pub returns-in_ok-read_variable-in-63 : goal.returns-in_ok-read_variable-in-63
returns-in_ok-read_variable-in-63 c = grind (arith, common_steps, token_of-variable)

pub returns-in_default : goal.returns-in_default
unfolding token_of
returns-in_default c = search rules
