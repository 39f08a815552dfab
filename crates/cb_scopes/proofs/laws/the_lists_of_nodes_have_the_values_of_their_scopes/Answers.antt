use Rattle.cb_scopes.proofs.Scoped.{lists_scoped}
use Rattle.cb_scopes.proofs.laws.the_lists_of_nodes_have_the_values_of_their_scopes.Goals as goal

pub returns : goal.returns
returns c ns ws fs first ls widths are unbound k l = lists_scoped c.a_way_gives_values_to_the_bound_names.ensures.have ns ws fs first ls widths are unbound k l
