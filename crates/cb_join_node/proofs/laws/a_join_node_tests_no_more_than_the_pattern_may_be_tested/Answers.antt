use Rattle.std.proofs.Common.{◌*◌, None, Some, arith, cond, filter, length}
use Rattle.cb_fit.specs.Shapes.{has_shape}
use Rattle.cb_join_node.proofs.Bounds.{added_within, with_shape, without_shape}
use Rattle.cb_join_node.proofs.laws.a_join_node_tests_no_more_than_the_pattern_may_be_tested.Goals as goal
use Rattle.cb_matches.specs.Probes.{is_candidate, partials_come, partials_kept}

pub returns-clause-added : goal.returns-clause-added
returns-clause-added c p alpha added fs fs' old new turns is =
    let within = added_within p alpha fs fs' turns (length (partials_kept old new)) added is in
    omega (arith, within)

pub returns-clause-whole : goal.returns-clause-whole
returns-clause-whole c p None fs' old new = without_shape (length (partials_come old new) * length (filter (is_candidate p) fs'))
returns-clause-whole c p (Some f) fs' old new = with_shape (length (partials_come old new) * length (filter (is_candidate p) fs')) (cond (has_shape p f) (length (partials_kept old new)) 0)
