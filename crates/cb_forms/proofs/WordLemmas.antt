-- The class of a word by its first bytes.
use Rattle.std.proofs.Common.{◌≡◌, ℕ, ◌<◌, List, [], ◌∷◌, length, get_or, drop, Ok, arith, refl}
use Rattle.cb_forms.specs.Words.{token_of, variable_token, multivariable_token}

pub token_of-variable : (w : List ℕ) → 0 < length w → get_or w 0 0 ≡ 63 → token_of w ≡ Ok (variable_token (drop 1 w))
unfolding token_of
token_of-variable [] h e = absurd (omega arith)
token_of-variable (b ∷ bs) h e = rw e refl

pub token_of-multivariable : (w : List ℕ) → 1 < length w → get_or w 0 0 ≡ 36 → get_or w 1 0 ≡ 63 → token_of w ≡ Ok (multivariable_token (drop 2 w))
unfolding token_of
token_of-multivariable [] h e f = absurd (omega arith)
token_of-multivariable (a ∷ []) h e f = absurd (omega arith)
token_of-multivariable (a ∷ b ∷ bs) h e f = rw (e, f) refl
