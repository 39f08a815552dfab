use Rattle.cb_token_lists.proofs.Ancestors.{goes_on_from}
use Rattle.cb_token_lists.proofs.laws.a_token_goes_on_from_all_that_are_met.Goals as goal

pub returns : goal.returns
returns c = goes_on_from
