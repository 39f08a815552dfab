use Rattle.cb_laws.proofs.ItemLaws.{retracts}
use Rattle.cb_laws.proofs.items.a_retract_retracts_what_is_written.Goals as goal

pub returns : goal.returns
returns c = retracts
