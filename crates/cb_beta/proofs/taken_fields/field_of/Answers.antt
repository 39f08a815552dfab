use Rattle.std.proofs.Common.{◌∙◌, None, Some, ap, option_map, sym}
use Rattle.cb_constraints.specs.Holding.{tested_value}
use Rattle.cb_beta.proofs.Values.{last_field}
use Rattle.cb_beta.proofs.taken_fields.field_of.Goals as goal

pub returns-in-Some-own_field : goal.returns-in-Some-own_field
returns-in-Some-own_field c =
    sym (last_field c.args.name.now c.loop-last.left.now c.in-Some.others.now c.in-Some.last.now c.args.fact.now.content (Some (tested_value c.in-Some-own_field.field)) c.in-Some.ensures.cases (ap (option_map tested_value) (sym c.in-Some-own_field.is) ∙ c.own_field.ensures))
    ∙ c.loop-last.invariant

pub loop-last-preserved : goal.loop-last-preserved
loop-last-preserved c =
    sym (last_field c.args.name.now c.loop-last.left.now c.in-Some.others.now c.in-Some.last.now c.args.fact.now.content None c.in-Some.ensures.cases (ap (option_map tested_value) (sym c.in_default-own_field.is) ∙ c.own_field.ensures))
    ∙ c.loop-last.invariant
