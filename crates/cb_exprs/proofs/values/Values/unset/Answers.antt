use Rattle.std.proofs.Common.{◌≡◌, ◌∙◌, None, ap, rules, subst, sym}
use Rattle.cb_exprs.specs.Bindings.{value_at}
use Rattle.cb_exprs.specs.Internal.Trees.{IsOrdered, pairs_of}
use Rattle.cb_exprs.proofs.Ordered.{ordered_without, value_gone, without_absent}
use Rattle.cb_exprs.proofs.values.Values.unset.Goals as goal

pub invariant_of-self : goal.invariant_of-self
invariant_of-self c = subst IsOrdered (sym (c.in_ok-by_name.ensures c.self.invariant)) (ordered_without _ _ c.self.invariant)

pub returns-then-is_none-clause-taken : goal.returns-then-is_none-clause-taken
returns-then-is_none-clause-taken c =
    let none : value_at c.args.name.now c.args.self.now ≡ None = search rules in
    sym (without_absent c.args.self.now c.args.name.now none)

pub returns-clause-gone : goal.returns-clause-gone
returns-clause-gone c =
    ap (value_at c.args.name.now) (c.in_ok-by_name.ensures c.self.invariant) ∙ value_gone (pairs_of c.self.inside.by_name) c.args.name.now c.self.invariant
