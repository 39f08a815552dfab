use Rattle.cb_token_lists.proofs.Down.{stays}
use Rattle.cb_token_lists.proofs.laws.what_can_be_read_stays.Goals as goal

pub returns : goal.returns
returns c sources lists lists' closed more k i t there = stays sources lists lists' closed more k i t there
