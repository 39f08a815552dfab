use Rattle.std.proofs.Common.{◌∙◌, subst}
use Rattle.std.proofs.lemmas.Result.{IfOk-weaker}
use Rattle.cb_join_node.proofs.known_values.compare_known.Goals as goal
use Rattle.cb_join_node.specs.KnownValues.{IsRead}

pub returns-in-Some : goal.returns-in-Some
returns-in-Some g c =
    let env = g.L.Lookup.bindings c.args.known.now in
    let all = subst (IsRead c.args.fields.now env) c.in-Some.is c.requires in
    IfOk-weaker c.compare_read.result _ _ (λ so same. same env (c.as_slice.ensures ∙ all)) c.compare_read.ensures
