-- Which values the names in a tree have.
use Rattle.std.specs.Prelude.{[], ◌∷◌, ◌++◌}
use Rattle.std.specs.Cmp.Lexicographic.{slice_cmp}
use Rattle.std.specs.List.Sorted.{IsStrictlySortedBy}
use Rattle.std.specs.Map.{keys_of}
use Rattle.std.specs.Ordering.{nat_cmp}
use Rattle.cb_exprs.specs.Bindings.{Values}
use Rattle.cb_exprs.specs.declared.tree.Node.{Node}
use Rattle.cb_exprs.specs.declared.tree.Tree.{Tree, Empty, Node'}

-- the names with their values, from left to right
abbrev pub pairs_of : Tree → Values
pairs_of Empty = []
pairs_of (Node' p left name value right height) = pairs_of left ++ (name, value) ∷ pairs_of right

-- those of a node and of what is at its sides
abbrev pub pairs_under : Node → Values
pairs_under node = pairs_of node.left ++ (node.name, node.value) ∷ pairs_of node.right

-- each name is less than those after it
abbrev pub IsOrdered : Values → Type 0
IsOrdered values = IsStrictlySortedBy (slice_cmp nat_cmp) (keys_of values)
