use Rattle.cb_matches.specs.Matches.{next}
use Rattle.cb_scopes.proofs.Decided.{holds_where, opposite}
use Rattle.cb_scopes.proofs.laws.a_group_of_a_decided_pattern_holds_by_values.Goals as goal
use Rattle.std.specs.Prelude.{[], ◌∷◌, None}

pub returns-clause-holds : goal.returns-clause-holds
returns-clause-holds c = holds_where c.a_pattern_is_decided_by_values.ensures.fits

pub returns-clause-negated : goal.returns-clause-negated
returns-clause-negated c p fs m = opposite (next None p fs (m ∷ []))
