use Rattle.std.proofs.Common.{subst, sym}
use Rattle.cb_branch.proofs.Numbers.{join_renumbered, lookup_renumbered}
use Rattle.cb_branch.proofs.entering.enter_node.Goals as goal
use Rattle.cb_branch.specs.Entries.{IsRenumbered}
use Rattle.cb_branch.specs.declared.node.Node.{Node}
use Rattle.cb_branch.specs.declared.node.Node.TheVariants as kept

pub returns-in_ok-alpha-in-Join-clause-node : goal.returns-in_ok-alpha-in-Join-clause-node
returns-in_ok-alpha-in-Join-clause-node g c =
    subst (λ (n : Node g.row.T.Denot). IsRenumbered n (kept.Join c.in_ok-alpha-in-Join.field-0 c.enter_join.new.node)) (sym c.in-Join.is)
    (join_renumbered c.in-Join.alpha c.in_ok-alpha-in-Join.field-0 c.in-Join.node c.enter_join.new.node c.in_ok-alpha-in-Join.ensures.node)

pub returns-in_ok-alpha-in-Lookup-clause-node : goal.returns-in_ok-alpha-in-Lookup-clause-node
returns-in_ok-alpha-in-Lookup-clause-node g c =
    subst (λ (n : Node g.row.T.Denot). IsRenumbered n (kept.Lookup c.in_ok-alpha-in-Lookup.field-0 c.enter_lookup.new.node)) (sym c.in-Lookup.is)
    (lookup_renumbered c.in-Lookup.alpha c.in_ok-alpha-in-Lookup.field-0 c.in-Lookup.node c.enter_lookup.new.node c.in_ok-alpha-in-Lookup.ensures.node)
