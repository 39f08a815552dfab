use Rattle.cb_flat.proofs.Untaken.{lists_with, lists_without}
use Rattle.cb_flat.proofs.laws.a_fact_that_none_takes_changes_nothing.Goals as goal

pub returns-clause-added : goal.returns-clause-added
returns-clause-added c ns fs ix f none absent k = lists_with c.a_fact_that_fits_is_selected.ensures ix f fs ns none absent k

pub returns-clause-taken : goal.returns-clause-taken
returns-clause-taken c ns fs ix f none there k = lists_without c.a_fact_that_fits_is_selected.ensures ix f fs ns none there k
