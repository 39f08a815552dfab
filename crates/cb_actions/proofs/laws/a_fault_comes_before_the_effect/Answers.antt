use Rattle.std.proofs.Common.{[], None}
use Rattle.cb_actions.specs.Actions.{carried_values}
use Rattle.cb_actions.specs.Effects.{effected}
use Rattle.cb_actions.proofs.ActLaws.{follow-err}
use Rattle.cb_actions.proofs.laws.a_fault_comes_before_the_effect.Goals as goal

pub returns : goal.returns
returns c = λ e ts s end is. follow-err (carried_values None [] ts s) end (effected e) is
