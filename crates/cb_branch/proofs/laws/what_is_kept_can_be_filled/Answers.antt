use Rattle.cb_branch.proofs.laws.what_is_kept_can_be_filled.Goals as goal

pub returns : goal.returns
returns g c facts fs b over = over.planned
