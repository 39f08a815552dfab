use Rattle.std.proofs.Common.{◌≡◌, IfOk, List, arith, subst, sym}
use Rattle.cb_alpha.proofs.ValuesFound.{three_fields, two_fields}
use Rattle.cb_alpha.specs.JoinValues.{variable_values}
use Rattle.cb_fit.specs.declared.join_fields.JoinField.{JoinField}
use Rattle.cb_alpha.proofs.variable_values.values_of_variables.Goals as goal

pub returns-in-len2 : goal.returns-in-len2
returns-in-len2 g c =
    subst (λ (it : List JoinField). IfOk c.values_of_two.result (λ found. found ≡ variable_values it (g.L.Lookup.bindings c.args.known.now)))
    (sym (two_fields c.args.fields.now c.first-item.result c.second-item.result (omega (arith, c.in-len2.len_at_least, c.in-len2.len_below)) c.first-item.is c.second-item.is))
    c.values_of_two.ensures

pub returns-in-len3 : goal.returns-in-len3
returns-in-len3 g c =
    subst (λ (it : List JoinField). IfOk c.values_of_three.result (λ found. found ≡ variable_values it (g.L.Lookup.bindings c.args.known.now)))
    (sym (three_fields c.args.fields.now c.first-item-then-fields-lt4.result c.second-item-then-fields-lt4.result c.third-item.result (omega (arith, c.in-len3.len_at_least, c.in-len3.len_below))
    c.first-item-then-fields-lt4.is c.second-item-then-fields-lt4.is c.third-item.is))
    c.values_of_three.ensures
