use Rattle.cb_token_lists.proofs.Down.{goes_on}
use Rattle.cb_token_lists.proofs.laws.a_token_goes_on_from_its_parent.Goals as goal

pub returns : goal.returns
returns c sources lists below k i s is = goes_on sources lists below k i s is
