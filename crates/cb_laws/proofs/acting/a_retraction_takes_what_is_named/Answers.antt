use Rattle.cb_laws.proofs.ActLaws.{index_taken, named_taken}
use Rattle.cb_laws.proofs.RetractedLaws.{fine_left, missing_left, retract_answers, retracted_takes, wrong_first, wrong_stays}
use Rattle.cb_laws.proofs.acting.a_retraction_takes_what_is_named.Goals as goal

pub returns-clause-fine : goal.returns-clause-fine
returns-clause-fine c = fine_left

pub returns-clause-missing : goal.returns-clause-missing
returns-clause-missing c = missing_left

pub returns-clause-wrong_type : goal.returns-clause-wrong_type
returns-clause-wrong_type c = wrong_stays

pub returns-clause-first : goal.returns-clause-first
returns-clause-first c = wrong_first

pub returns-clause-named : goal.returns-clause-named
returns-clause-named c = named_taken

pub returns-clause-index : goal.returns-clause-index
returns-clause-index c = index_taken

pub returns-clause-ends : goal.returns-clause-ends
returns-clause-ends c = retract_answers

pub returns-clause-only : goal.returns-clause-only
returns-clause-only c = λ vs s. (retracted_takes vs s).changes

pub returns-clause-quiet : goal.returns-clause-quiet
returns-clause-quiet c = λ vs s. (retracted_takes vs s).quiet
