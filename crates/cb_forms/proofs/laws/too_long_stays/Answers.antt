use Rattle.cb_forms.proofs.ReadingLaws.{over-stays}
use Rattle.cb_forms.proofs.laws.too_long_stays.Goals as goal

pub returns : goal.returns
returns c = over-stays
