use Rattle.std.proofs.Common.{rules}
use Rattle.cb_exprs.proofs.Ordered.{ordered_front, ordered_right, with_left, with_here, with_right}
use Rattle.cb_exprs.proofs.Trees.{made_in_order}
use Rattle.cb_exprs.proofs.tree.Tree.+with.Goals as goal

pub returns-in_ok-clone-in-Less : goal.returns-in_ok-clone-in-Less
returns-in_ok-clone-in-Less t c = made_in_order _ _ _ _ c.balance.ensures (λ s. search (rules, ordered_front, with_left))

pub returns-in_ok-clone-in-Equal-3 : goal.returns-in_ok-clone-in-Equal-3
returns-in_ok-clone-in-Equal-3 t c = made_in_order _ _ _ _ c.join-in-Equal.ensures (λ s. search (rules, with_here))

pub returns-in_ok-clone-in-Greater : goal.returns-in_ok-clone-in-Greater
returns-in_ok-clone-in-Greater t c = made_in_order _ _ _ _ c.balance-in-Greater.ensures (λ s. search (rules, ordered_right, with_right))
