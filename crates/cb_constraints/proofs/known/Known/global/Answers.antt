use Rattle.std.proofs.Common.{◌∙◌, ap, sym}
use Rattle.std.proofs.lemmas.Result.{IfOk-weaker}
use Rattle.cb_constraints.specs.Binders.{constraints_in}
use Rattle.cb_constraints.specs.Holding.{tested_value}
use Rattle.cb_constraints.specs.Internal.Values.{values}
use Rattle.cb_constraints.proofs.KnownLaws.{globals_stay}
use Rattle.cb_constraints.proofs.known.Known.global.Goals as goal
use Rattle.cb_exprs.specs.Bindings.{value_at}

pub returns : goal.returns
returns g c =
    IfOk-weaker c.global_variable.result _ _
    (λ found is. is ∙ ap (value_at c.args.name.now) (sym (globals_stay (constraints_in c.args.self.now.body.now) (values c.args.self.now.took.now) (tested_value c.args.self.now.tested) (g.L.Lookup.bindings c.args.self.now.before.now) c.args.check)))
    c.global_variable.ensures
