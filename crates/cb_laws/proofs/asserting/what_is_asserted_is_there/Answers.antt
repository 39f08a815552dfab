use Rattle.cb_laws.proofs.AssertLaws.{added_stays, several_sound, several_stay, there_where}
use Rattle.cb_laws.proofs.asserting.what_is_asserted_is_there.Goals as goal

pub returns-clause-there : goal.returns-clause-there
returns-clause-there c = there_where

pub returns-clause-stays : goal.returns-clause-stays
returns-clause-stays c = several_stay

pub returns-clause-sound : goal.returns-clause-sound
returns-clause-sound c = several_sound

pub returns-clause-none_lost : goal.returns-clause-none_lost
returns-clause-none_lost c = λ asserted fact s ix sound. (added_stays asserted s sound).stays ix fact

pub returns-clause-still_sound : goal.returns-clause-still_sound
returns-clause-still_sound c = λ asserted s sound. (added_stays asserted s sound).sound
