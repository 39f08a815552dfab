-- The law of the quotient and the remainder.
use Rattle.std.proofs.Common.{◌≡◌, ◌==◌, ℤ, ◌*ℤ◌, ◌+ℤ◌, Bool, true, false, Result, Ok, Err, ap₂, ◌∙◌, if◌then◌else◌, int_div, int_rem, unsigned_abs}
use Rattle.std.proofs.lemmas.Int.{quot-rem}
use Rattle.cb_eval.specs.Arithmetic.{fits_64_bits, or_overflow, quotient, remainder}
use Rattle.cb_forms.specs.declared.fault.Fault.{Fault}
use Rattle.cb_forms.specs.declared.fault.Fault.TheVariants.{DivisionByZero, IntegerOverflow}

-- what fits is itself
abbrev Number : Type 0
Number = Result ℤ Fault

fitted : (z q : ℤ) (b : Bool) → (let it : Number = if b then Ok z else Err IntegerOverflow in it) ≡ Ok q → q ≡ z
fitted z q true h = (cc)
fitted z q false h = absurd (cc)

by_zero : (n d q r : ℤ) (zero : Bool) → (let it : Number = if zero then Err DivisionByZero else or_overflow (int_div n d) in it) ≡ Ok q
    → (let it : Number = if zero then Err DivisionByZero else Ok (int_rem n d) in it) ≡ Ok r → q *ℤ d +ℤ r ≡ n
by_zero n d q r true h k = absurd (cc)
by_zero n d q r false h k =
    let q_is : q ≡ int_div n d = fitted (int_div n d) q (fits_64_bits (int_div n d)) h in
    let r_is : r ≡ int_rem n d = (cc) in
    ap₂ (λ (a b : ℤ). a *ℤ d +ℤ b) q_is r_is ∙ quot-rem n d

pub quotient_and_remainder : (n d q r : ℤ) → quotient n d ≡ Ok q → remainder n d ≡ Ok r → q *ℤ d +ℤ r ≡ n
quotient_and_remainder n d q r h k = by_zero n d q r (unsigned_abs d == 0) h k
