use Rattle.cb_session.proofs.TurnLaws.{item_falls, script_falls}
use Rattle.cb_session.proofs.laws.no_turn_comes_back.Goals as goal

pub returns-clause-item : goal.returns-clause-item
returns-clause-item c = item_falls

pub returns-clause-script : goal.returns-clause-script
returns-clause-script c = script_falls
