use Rattle.std.proofs.Common.{rules}
use Rattle.cb_exprs.proofs.Ordered.{ordered_front, ordered_right, without_left, without_here, without_right}
use Rattle.cb_exprs.proofs.Trees.{made_in_order}
use Rattle.cb_exprs.proofs.tree.Tree.+without.Goals as goal

pub returns-in_ok-clone-in-Less : goal.returns-in_ok-clone-in-Less
returns-in_ok-clone-in-Less t c = made_in_order _ _ _ _ c.balance.ensures (λ s. search (rules, ordered_front, without_left))

pub returns-in_ok-clone-in-Greater : goal.returns-in_ok-clone-in-Greater
returns-in_ok-clone-in-Greater t c = made_in_order _ _ _ _ c.balance-in-Greater.ensures (λ s. search (rules, ordered_right, without_right))

pub returns-in-Equal : goal.returns-in-Equal
returns-in-Equal t c = made_in_order _ _ _ _ c.append.ensures (λ s. search (rules, without_here))
