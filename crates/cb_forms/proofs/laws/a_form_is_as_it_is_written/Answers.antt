use Rattle.cb_forms.specs.Pieces.{lexemes}
use Rattle.cb_forms.proofs.DepthLaws.{reads-written, reads-deep}
use Rattle.cb_forms.proofs.ReadingLaws.{levels-written, written-alike}
use Rattle.cb_forms.proofs.laws.a_form_is_as_it_is_written.Goals as goal

pub returns-clause-first : goal.returns-clause-first
returns-clause-first c = levels-written

pub returns-clause-read : goal.returns-clause-read
returns-clause-read c = λ t s. reads-written (lexemes s) t

pub returns-clause-deep : goal.returns-clause-deep
returns-clause-deep c = λ t s. reads-deep (lexemes s) t

pub returns-clause-unique : goal.returns-clause-unique
returns-clause-unique c = written-alike
