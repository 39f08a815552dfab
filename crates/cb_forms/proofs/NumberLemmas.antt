-- What digits stand for, one digit after another.
use Rattle.std.proofs.Common.{◌≡◌, ℕ, ◌+◌, ◌-◌, ◌*◌, ◌<◌, ◌≤◌, List, [], ◌∷◌, length, get_or, drop, fold, arith, refl, rules, Bool, if◌then◌else◌, IsTrue, true, false}
use Rattle.std.proofs.lemmas.List.{at_drop_more}
use Rattle.std.specs.List.{All}
use Rattle.std.proofs.lemmas.List.Elements.{All-nil, All-cons}
use Rattle.cb_forms.specs.Bytes.{is_digit}
use Rattle.cb_forms.specs.Words as spec

-- the number, where n stands before the digits
abbrev pub more_digits : ℕ → List ℕ → ℕ
more_digits n ds = fold (λ n d. 10 * n + (d - 48)) n ds

pub more_digits-grows : (ds : List ℕ) (n : ℕ) → n ≤ more_digits n ds
more_digits-grows [] n = omega arith
more_digits-grows (d ∷ ds) n = omega (arith, more_digits-grows ds (10 * n + (d - 48)))

pub more_digits-drop : (ds : List ℕ) (i n : ℕ) → i < length ds → more_digits n (drop i ds) ≡ more_digits (10 * n + (get_or ds i 0 - 48)) (drop (i + 1) ds)
more_digits-drop ds i n h = at_drop_more (more_digits n) ds i _ h

pub more_digits-more : (ds : List ℕ) (i n : ℕ) → i < length ds → 10 * n + (get_or ds i 0 - 48) ≤ more_digits n (drop i ds)
more_digits-more ds i n h = omega (arith, more_digits-drop ds i n h, more_digits-grows (drop (i + 1) ds) (10 * n + (get_or ds i 0 - 48)))

All-digit : (d : ℕ) (ds : List ℕ) (b : Bool) → is_digit d ≡ b → IsTrue (spec.is_empty (if b then spec.after_digits ds else d ∷ ds))
    → (IsTrue (spec.is_empty (spec.after_digits ds)) → All (λ b. IsTrue (is_digit b)) ds) → All (λ b. IsTrue (is_digit b)) (d ∷ ds)
All-digit d ds true e h more =
    let here : IsTrue (is_digit d) = search rules in
    All-cons (λ b. IsTrue (is_digit b)) d ds here (more h)
All-digit d ds false e h more = absurd (search rules)

-- A text with no byte after its digits has digits alone.
pub All-digits : (ds : List ℕ) → IsTrue (spec.is_empty (spec.after_digits ds)) → All (λ b. IsTrue (is_digit b)) ds
All-digits [] h = All-nil (λ b. IsTrue (is_digit b))
All-digits (d ∷ ds) h = All-digit d ds (is_digit d) refl h (All-digits ds)

-- an integer has digits alone after its sign
pub All-integer : (w : List ℕ) → IsTrue (spec.spells_integer w) → All (λ b. IsTrue (is_digit b)) (spec.without_sign w)
All-integer w h = All-digits (spec.without_sign w) (search rules)
