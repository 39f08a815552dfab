use Rattle.cb_branch.proofs.MatchNumbers.{numbered_once}
use Rattle.cb_branch.proofs.laws.a_match_has_one_number.Goals as goal

pub returns : goal.returns
returns g c facts fs b rule number k m n over = numbered_once rule number b facts fs over k m n
