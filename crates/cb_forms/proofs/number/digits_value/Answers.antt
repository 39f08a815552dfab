use Rattle.std.proofs.Common.{arith}
use Rattle.std.proofs.lemmas.Grind.{common_steps}
use Rattle.std.proofs.lemmas.List.{at_drop_all}
use Rattle.cb_forms.proofs.NumberLemmas.{more_digits, more_digits-more}
use Rattle.cb_forms.proofs.number.digits_value.Goals as goal

pub returns-in_err-checked_mul : goal.returns-in_err-checked_mul
returns-in_err-checked_mul c =
    let h = more_digits-more c.args.digits.now c.loop-digit.digit-index c.loop-digit.value c.loop-digit-test.true in
    grind (arith, common_steps)

pub returns-in_err-value : goal.returns-in_err-value
returns-in_err-value c =
    let h = more_digits-more c.args.digits.now c.loop-digit.digit-index c.loop-digit.value c.loop-digit-test.true in
    grind (arith, common_steps)

pub returns : goal.returns
returns c =
    let h = at_drop_all (more_digits c.loop-digit.value) c.args.digits.now c.loop-digit.digit-index c.loop-digit-test.false in
    grind (arith, common_steps)
