use Rattle.std.proofs.Common.{refl}
use Rattle.cb_forms.proofs.OpenPartLaws.{kept-start}
use Rattle.cb_forms.proofs.open_part.OpenPart.new.Goals as goal

pub returns-clause-kept : goal.returns-clause-kept
returns-clause-kept c = kept-start _ c.new-2.ensures c.new.ensures refl refl
