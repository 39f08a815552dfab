-- The law of values that are neither all equal nor different from the first.
use Rattle.std.proofs.Common.{◌≡◌, ◌&&◌, Bool, true, false, not, [], ◌∷◌, Ok, refl, ap}
use Rattle.cb_eval.specs.Applied.{applied}
use Rattle.cb_eval.specs.Comparison.{same}
use Rattle.cb_eval.specs.Constants.{true_symbol, false_symbol, truth}
use Rattle.cb_facts.proofs.Equality.{value-Decides}
use Rattle.cb_facts.specs.declared.value.Value.{Value}
use Rattle.cb_words.specs.declared.words.Function.TheVariants as function

-- a value equals itself
itself : (v : Value) → same v v ≡ true
itself v = (value-Decides v v).1 refl

-- by the answer of the second value's test, and by that of the first with itself
by_tests : (other own : Bool) → own ≡ true → truth (not other && true) ≡ true_symbol
    → (truth (other && (own && true)) ≡ false_symbol) × (truth (not other && (not own && true)) ≡ false_symbol)
by_tests true own e h = absurd (cc)
by_tests false true e h = (refl, refl)
by_tests false false e h = absurd (cc)

pub neither : (v w : Value) → applied function.Neq (v ∷ w ∷ []) ≡ Ok true_symbol
    → (applied function.Eq (v ∷ w ∷ v ∷ []) ≡ Ok false_symbol) × (applied function.Neq (v ∷ w ∷ v ∷ []) ≡ Ok false_symbol)
neither v w h =
    let both = by_tests (same w v) (same v v) (itself v) (cc) in
    (ap Ok both.0, ap Ok both.1)
