use Rattle.std.proofs.Common.{◌∙◌, Some, ap}
use Rattle.cb_constraints.specs.Binders.{constraints_in}
use Rattle.cb_constraints.specs.Holding.{tested_value}
use Rattle.cb_constraints.specs.Internal.Values.{values}
use Rattle.cb_constraints.proofs.KnownLaws.{first_at_place}
use Rattle.cb_constraints.proofs.known.Known.takes_first.Goals as goal

pub returns : goal.returns
returns g c is =
    first_at_place c.args.name.now (constraints_in c.args.self.now.body.now) (values c.args.self.now.took.now) (tested_value c.args.self.now.tested) (g.L.Lookup.bindings c.args.self.now.before.now) c.args.check
    (c.is_first.ensures is ∙ ap (λ n. Some (record { constraint = n; check = c.args.check })) c.count.ensures)
