use Rattle.cb_forms.proofs.FormLaws.{forms-read}
use Rattle.cb_forms.proofs.TextLaws.{text-written}
use Rattle.cb_forms.proofs.laws.a_text_is_its_forms_as_written.Goals as goal

pub returns-clause-written : goal.returns-clause-written
returns-clause-written c = text-written

pub returns-clause-read : goal.returns-clause-read
returns-clause-read c = forms-read
