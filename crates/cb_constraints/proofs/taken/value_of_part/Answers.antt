use Rattle.std.proofs.Common.{arith, ◌≡◌, ◌∙◌, ◌+◌, ◌≤◌, ap, drop, length, min, rules, sym, take}
use Rattle.std.proofs.lemmas.Result.{IfOk-weaker}
use Rattle.cb_constraints.specs.Holding.{tested_value}
use Rattle.cb_constraints.proofs.PartLaws.{one_taken}
use Rattle.cb_constraints.specs.Internal.RowFields.{row_fields}
use Rattle.cb_constraints.specs.Internal.Values.{value_taken}
use Rattle.cb_constraints.proofs.taken.value_of_part.Goals as goal

pub returns-in-Some : goal.returns-in-Some
returns-in-Some c =
    let count : c.len-len.result ≡ length (row_fields c.args.fields) = search rules in
    let begun : c.at_most-from.result ≡ min c.args.span.from c.len-len.result = search rules in
    let ended : c.at_most-to.result ≡ min c.saturating_add.result c.len-len.result = search rules in
    let at : c.at_most-from.result ≡ min c.args.span.from (length (row_fields c.args.fields)) = omega (arith, count, begun) in
    let within : c.at_most-to.result ≤ length (row_fields c.args.fields) = omega (arith, count, ended) in
    let sum : c.saturating_add.result ≤ c.args.span.from + c.args.span.length = omega (arith, c.saturating_add.ensures) in
    let few : c.at_most-to.result ≤ c.args.span.from + c.args.span.length = omega (arith, ended, sum) in
    IfOk-weaker c.to_value.result _ _
    (λ v is. is
    ∙ (one_taken (row_fields c.args.fields) c.at_most-from.result c.args.span.from c.args.span.length c.at_most-to.result (tested_value c.in-Some.tested) at c.if-from-to.true within few c.in-Some.ensures.first
    ∙ ap (λ b. value_taken b (take c.args.span.length (drop c.args.span.from (row_fields c.args.fields)))) (sym c.if-takes_segment.false)))
    c.to_value.ensures
