use Rattle.std.proofs.Common.{◌≡◌, length}
use Rattle.cb_forms.specs.Words as spec
use Rattle.cb_forms.proofs.number.after_digits.Given as goal

abbrev pub invariant-loop-rest : goal.invariant-loop-rest
invariant-loop-rest l = spec.after_digits l.rest ≡ spec.after_digits l.text

abbrev pub decreases-loop-rest : goal.decreases-loop-rest
decreases-loop-rest l = length l.rest
