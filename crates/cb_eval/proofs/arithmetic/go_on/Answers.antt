use Rattle.std.proofs.Common.{◌≡◌, ℤ, Err, FitsSigned, map, ap, subst, ◌∙◌, rules, to_z, w64}
use Rattle.std.proofs.lemmas.Int.{to_z-of_z}
use Rattle.cb_eval.proofs.Steps.{step_off}
use Rattle.cb_eval.proofs.arithmetic.go_on.Goals as goal
use Rattle.cb_eval.specs.Arithmetic.{with_others}
use Rattle.cb_eval.specs.Internal.Operations.{operator_of}
use Rattle.cb_eval.specs.Internal.{as_number}
use Rattle.cb_facts.specs.Results.{Reports}

pub returns-in_err-total : goal.returns-in_err-total
returns-in_err-total c =
    let op = operator_of c.args.operation in
    let why = c.in_err-total.field-0.0 in
    let vs = c.args.others.now in
    let total = to_z w64 c.loop-value.total-bits in
    let r : c.from_residual.result ≡ Err why = search rules in
    let fits : FitsSigned w64 c.number.result = search rules in
    let number_is = to_z-of_z w64 c.number.result fits ∙ c.number.ensures in
    let first_is = to_z-of_z w64 c.args.first c.ranges.first in
    let goes = c.loop-value.invariant ∙ ap (λ n. with_others op n (map as_number vs)) first_is in
    let told = subst (λ (m : ℤ). Reports why (λ f. op total m ≡ Err f)) number_is c.in_err-total.ensures in
    let off = step_off op total vs c.loop-value.value-index c.value-item.result (with_others op c.args.first (map as_number vs)) why c.loop-value-test.true c.value-item.is goes told in
    rw r off
