use Rattle.std.proofs.Common.{◌≡◌, None, rules, sym}
use Rattle.cb_exprs.specs.Bindings.{value_at}
use Rattle.cb_exprs.proofs.Ordered.{without_absent}
use Rattle.cb_exprs.proofs.assignment.Assignment.unset.Goals as goal

pub returns-then-is_none-clause-taken : goal.returns-then-is_none-clause-taken
returns-then-is_none-clause-taken c =
    let none : value_at c.args.name.now c.args.self.now ≡ None = search rules in
    sym (without_absent c.args.self.now c.args.name.now none)
