use Rattle.cb_session.proofs.SoFarLaws.{so_far-early}
use Rattle.cb_session.proofs.laws.what_ends_early_is_not_done.Goals as goal

pub returns : goal.returns
returns c = so_far-early
