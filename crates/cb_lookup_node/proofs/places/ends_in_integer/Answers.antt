use Rattle.std.proofs.Common.{◌∙◌, None, Some, ap, sym}
use Rattle.cb_lookup_node.proofs.InOrder.{last_ends}
use Rattle.cb_lookup_node.proofs.places.ends_in_integer.Goals as goal
use Rattle.cb_lookup_node.specs.LookupNodes.{ends_in_integer}

pub returns-in-Some : goal.returns-in-Some
returns-in-Some c = c.is_integer.ensures ∙ (sym (last_ends c.as_slice.result.now (Some c.in-Some.last.now) c.in-Some.ensures.value) ∙ ap ends_in_integer c.as_slice.ensures)

pub returns-in-None : goal.returns-in-None
returns-in-None c = sym (last_ends c.as_slice.result.now None c.in-None.ensures.value) ∙ ap ends_in_integer c.as_slice.ensures
