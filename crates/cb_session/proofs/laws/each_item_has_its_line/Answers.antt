use Rattle.cb_session.proofs.CutOffLaws.{placed-cut, placed-end}
use Rattle.cb_session.proofs.ItemLineLaws.{fitting-readings, placed-push, whole-readings}
use Rattle.cb_session.proofs.laws.each_item_has_its_line.Goals as goal

pub returns-clause-whole : goal.returns-clause-whole
returns-clause-whole c = λ p. whole-readings p

pub returns-clause-fitting : goal.returns-clause-fitting
returns-clause-fitting c = λ limit s. fitting-readings limit s

pub returns-clause-completed : goal.returns-clause-completed
returns-clause-completed c = λ p b rs is. placed-push p b rs is

pub returns-clause-at_the_end : goal.returns-clause-at_the_end
returns-clause-at_the_end c = λ limit p rs fits is. placed-end limit p rs fits is

pub returns-clause-too_long : goal.returns-clause-too_long
returns-clause-too_long c = λ limit p b some fits long. (placed-cut limit p b some fits long).1
