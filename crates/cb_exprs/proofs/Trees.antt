-- The pairs of a tree that was made.
use Rattle.std.proofs.Common.{◌≡◌, ◌∙◌, IfOk, OnOk, OnErr, Result, Ok, Err, subst, sym}
use Rattle.cb_exprs.specs.Bindings.{Values}
use Rattle.cb_exprs.specs.Internal.Trees.{IsOrdered, pairs_of}
use Rattle.cb_exprs.specs.declared.tree.Tree.{Tree}

-- the tree has the pairs of one list, which is another where the pairs that were there are in order
pub made_in_order : {E : Type 0} (r : Result Tree E) (old made new : Values) → IfOk r (λ tree. pairs_of tree ≡ made) → (IsOrdered old → made ≡ new) → IfOk r (λ tree. IsOrdered old → pairs_of tree ≡ new)
made_in_order (Ok tree) old made new h is = λ s. h ∙ is s
made_in_order (Err e) old made new h is = h

-- what follows from what an answer says
pub on_ok_then : {A E : Type 0} (r : Result A E) (P Q : Type 0) → OnOk r P → (P → Q) → OnOk r Q
on_ok_then (Ok a) P Q h then = then h
on_ok_then (Err e) P Q h then = h

-- what is written in a tree, or left as it was, is in order
pub written_in_order : {E : Type 0} (r : Result Unit E) (old put new : Values) → OnOk r (IsOrdered old → new ≡ put) → OnErr r (new ≡ old) → IsOrdered old → IsOrdered put → IsOrdered new
written_in_order (Ok u) old put new ok err s t = subst IsOrdered (sym (ok s)) t
written_in_order (Err e) old put new ok err s t = subst IsOrdered (sym err) s
