use Rattle.std.proofs.Common.{◌≡◌, ◌≤◌, ◌+◌, ◌*◌, length, map}
use Rattle.cb_expr_forms.specs.Internal.Sizes.{trees_size}
use Rattle.cb_forms.specs.Members.{members}
use Rattle.cb_rule_forms.specs.Internal.{before, next_size, written_seen}
use Rattle.cb_rule_forms.specs.WrittenElements.{written_in}
use Rattle.cb_rule_forms.proofs.written.+writing.Given as goal

abbrev pub decreases-write_next : goal.decreases-write_next
decreases-write_next l = 2 * next_size l.next

abbrev pub decreases-write_elements : goal.decreases-write_elements
decreases-write_elements l = 2 * trees_size (members l.forms.now) + 1

abbrev pub decreases-write_list : goal.decreases-write_list
decreases-write_list l = 2 * trees_size (members l.forms.now) + 2

abbrev pub invariant-write_elements-loop-next : goal.invariant-write_elements-loop-next
invariant-write_elements-loop-next l =
    (before (map written_seen l.elements.items) (written_in l.inside (members l.rest)) ≡ written_in l.inside (members l.forms))
    × (trees_size (members l.rest) ≤ trees_size (members l.forms))

abbrev pub decreases-write_elements-loop-next : goal.decreases-write_elements-loop-next
decreases-write_elements-loop-next l = length l.rest
