use Rattle.std.proofs.Common.{◌≡◌, ◌∷◌, ◌++◌, rules}
use Rattle.cb_exprs.specs.Bindings.{with_value}
use Rattle.cb_exprs.specs.Internal.Trees.{IsOrdered, pairs_of}
use Rattle.cb_exprs.proofs.Ordered.{ordered_front, ordered_right, with_left, with_here, with_right}
use Rattle.cb_exprs.proofs.Trees.{on_ok_then}
use Rattle.cb_exprs.proofs.tree.Tree.+write.Goals as goal

pub returns-in-Less-clause-ok : goal.returns-in-Less-clause-ok
returns-in-Less-clause-ok t c =
    let name = c.args.name.now in
    let node = c.in-Some.node.now in
    let old = pairs_of c.args.self.now in
    let part = pairs_of node.left in
    let put = pairs_of c.write.new.self in
    on_ok_then c.write.result
    (IsOrdered part → put ≡ with_value name c.args.value part)
    (IsOrdered old → put ++ (node.name, node.value) ∷ pairs_of node.right ≡ with_value name c.args.value old)
    c.write.ensures.ok (λ is s. search (rules, ordered_front, with_left))

pub returns-in-Equal-clause-ok : goal.returns-in-Equal-clause-ok
returns-in-Equal-clause-ok t c = λ s. search (rules, with_here)

pub returns-in-Greater-clause-ok : goal.returns-in-Greater-clause-ok
returns-in-Greater-clause-ok t c =
    let name = c.args.name.now in
    let node = c.in-Some.node.now in
    let old = pairs_of c.args.self.now in
    let part = pairs_of node.right in
    let put = pairs_of c.write-in-Greater.new.self in
    on_ok_then c.write-in-Greater.result
    (IsOrdered part → put ≡ with_value name c.args.value part)
    (IsOrdered old → pairs_of node.left ++ (node.name, node.value) ∷ put ≡ with_value name c.args.value old)
    c.write-in-Greater.ensures.ok (λ is s. search (rules, ordered_right, with_right))
