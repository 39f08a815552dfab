use Rattle.cb_laws.proofs.DueLaws.{expression_matches, fires_match, moved_matches, taken_matches}
use Rattle.cb_laws.proofs.ScriptLaws.{so_far_matches}
use Rattle.cb_laws.proofs.firing.what_is_due_is_a_match.Goals as goal

pub returns-clause-fires : goal.returns-clause-fires
returns-clause-fires c = fires_match

pub returns-clause-taken_out : goal.returns-clause-taken_out
returns-clause-taken_out c = taken_matches

pub returns-clause-change : goal.returns-clause-change
returns-clause-change c = moved_matches

pub returns-clause-expression : goal.returns-clause-expression
returns-clause-expression c = expression_matches

pub returns-clause-so_far : goal.returns-clause-so_far
returns-clause-so_far c = so_far_matches
