use Rattle.std.proofs.Common.{◌≡◌, ◌<◌, ◌^◌, drop}
use Rattle.cb_forms.specs.Words as spec
use Rattle.cb_forms.proofs.NumberLemmas.{more_digits}
use Rattle.cb_forms.proofs.number.digits_value.Given as goal

abbrev pub invariant-loop-digit : goal.invariant-loop-digit
invariant-loop-digit l = record {
  fits : l.value < 2 ^ 64;
  counts : more_digits l.value (drop l.digit-index l.digits) ≡ spec.digits_value l.digits;
}
