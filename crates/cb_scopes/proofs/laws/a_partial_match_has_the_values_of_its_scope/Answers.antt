use Rattle.cb_scopes.proofs.Scoped.{branch_scoped}
use Rattle.cb_scopes.proofs.laws.a_partial_match_has_the_values_of_its_scope.Goals as goal

pub returns : goal.returns
returns c = branch_scoped c.a_way_gives_values_to_the_bound_names.ensures.have
