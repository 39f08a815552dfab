use Rattle.cb_scopes.proofs.Decided.{agree_where}
use Rattle.cb_scopes.proofs.laws.facts_agree_by_the_values_of_known_fields.Goals as goal

pub returns : goal.returns
returns c env names scope js content = agree_where env content names scope js
