-- Short names are told apart by their numbers alone.
use Rattle.std.proofs.Common.{◌≡◌, List, [], ◌∷◌, ◌++◌, ◌+◌, ◌*◌, ◌<◌, ◌≤◌, ◌^◌, zero, suc, Bool, true, false, ◌&&◌, ℕ, ap, ap₂, refl, nat_eq, arith, get_or, length, cond, nat_le, nat_lt, sym, ◌∙◌}
use Rattle.std.proofs.Math.Nat.{pow-suc}
use Rattle.std.proofs.lemmas.Bool.{lt-ltb, ltb-true, le-leb, lt-leb, eqb-true, false≢true, eq-eqb}
use Rattle.std.specs.List.{list_all, IsLastAndRest}
use Rattle.std.specs.Cmp.Lexicographic.{pointwise, bytes_decides}
use Rattle.cb_facts.proofs.Hashes.{not-true}
use Rattle.cb_facts.specs.Internal.ShortNames.{number_of, is_short, short_number}

-- ---- the number of bytes, read from the last to the first

-- the number of these bytes and of those after them, which have this number
abbrev pub with_more : List ℕ → ℕ → ℕ
with_more [] n = n
with_more (x ∷ xs) n = x + 256 * with_more xs n

pub with_none : (xs : List ℕ) → with_more xs 1 ≡ number_of xs
with_none [] = refl
with_none (x ∷ xs) = ap (λ n. x + 256 * n) (with_none xs)

-- the last byte joins those after it
joined : (xs : List ℕ) (x n : ℕ) → with_more (xs ++ x ∷ []) n ≡ with_more xs (x + 256 * n)
joined [] x n = refl
joined (y ∷ ys) x n = ap (λ n. y + 256 * n) (joined ys x n)

pub last_joins : (xs others : List ℕ) (x n : ℕ) → IsLastAndRest xs x others → with_more others (n * 256 + x) ≡ with_more xs n
last_joins xs others x n is =
    let turned : n * 256 + x ≡ x + 256 * n = omega arith in
    ap (with_more others) turned ∙ (sym (joined others x n) ∙ ap (λ it. with_more it n) (sym is.0))

-- the number grows with each byte
is_least : (xs : List ℕ) (n : ℕ) → n ≤ with_more xs n
is_least [] n = omega arith
is_least (x ∷ xs) n = omega (arith, is_least xs n)

-- ---- it is small if they are few

are_bytes : List ℕ → Bool
are_bytes = list_all (λ x. nat_lt x 256)

power : (k : ℕ) → 1 ≤ 256 ^ k
power zero = omega arith
power (suc k) = omega (arith, pow-suc 256 k, power k)

both : (a b : Bool) → (a && b) ≡ true → (a ≡ true) × (b ≡ true)
both true b is = (refl, is)
both false b is = absurd (false≢true is)

is_bounded : (k : ℕ) (xs : List ℕ) → length xs ≤ k → are_bytes xs ≡ true → number_of xs < 2 * 256 ^ k
unfolding are_bytes
is_bounded k [] s b = omega (arith, power k)
is_bounded zero (x ∷ xs) s b = omega (arith, s)
is_bounded (suc k) (x ∷ xs) s b =
    let parts = both (nat_lt x 256) (are_bytes xs) b in
    omega (arith, pow-suc 256 k, ltb-true x 256 parts.0, is_bounded k xs (omega (arith, s)) parts.1)

all_bytes : (xs : List ℕ) → ((i : ℕ) → get_or xs i 0 < 256) → are_bytes xs ≡ true
unfolding are_bytes
all_bytes [] h = refl
all_bytes (x ∷ xs) h = ap₂ (λ (a b : Bool). a && b) (lt-ltb x 256 (omega (arith, h 0))) (all_bytes xs (λ i. h (suc i)))

-- the number of the last of few bytes, with one more
pub fits : (xs left others : List ℕ) (x n : ℕ) → ((i : ℕ) → get_or xs i 0 < 256) → length xs ≤ 7 → IsLastAndRest left x others → with_more left n ≡ number_of xs
    → n * 256 + x < 2 ^ 64
fits xs left others x n h s is e = omega (arith, is_least others (n * 256 + x), last_joins left others x n is, e, is_bounded 7 xs s (all_bytes xs h))

-- ---- what the numbers of names are

-- where no byte is left to be read
pub of_few : (xs left : List ℕ) (n : ℕ) → ((i : ℕ) → get_or xs i 0 < 256) → length xs ≤ 7 → length left ≡ 0 → with_more left n ≡ number_of xs
    → n ≡ short_number xs
unfolding are_bytes short_number
of_few xs (x ∷ left) n h s none e = absurd (omega (arith, none))
of_few xs [] n h s none e = e ∙ sym (ap₂ (λ (a b : Bool). cond (a && b) (number_of xs) 0) (le-leb (length xs) 7 s) (all_bytes xs h))

pub of_many : (xs : List ℕ) → 7 < length xs → 0 ≡ short_number xs
unfolding short_number
of_many xs s = sym (ap (λ (a : Bool). cond (a && list_all (λ x. nat_lt x 256) xs) (number_of xs) 0) (lt-leb (length xs) 7 s))

-- ---- short names with one number are the same

is_some : (xs : List ℕ) → 1 ≤ number_of xs
is_some [] = omega arith
is_some (x ∷ xs) = omega (arith, is_some xs)

same_bytes : (xs ys : List ℕ) → are_bytes xs ≡ true → are_bytes ys ≡ true → number_of xs ≡ number_of ys → xs ≡ ys
unfolding are_bytes
same_bytes [] [] b c e = refl
same_bytes [] (y ∷ ys) b c e = absurd (omega (arith, e, is_some ys))
same_bytes (x ∷ xs) [] b c e = absurd (omega (arith, e, is_some xs))
same_bytes (x ∷ xs) (y ∷ ys) b c e =
    let p = both (nat_lt x 256) (are_bytes xs) b in
    let q = both (nat_lt y 256) (are_bytes ys) c in
    let firsts : x ≡ y = omega (arith, e, ltb-true x 256 p.0, ltb-true y 256 q.0) in
    let rests : number_of xs ≡ number_of ys = omega (arith, e, ltb-true x 256 p.0, ltb-true y 256 q.0) in
    ap₂ (λ (z : ℕ) (zs : List ℕ). z ∷ zs) firsts (same_bytes xs ys p.1 q.1 rests)

chosen : (t : Bool) (n : ℕ) → (cond t n 0 ≡ 0 → ⊥) → t ≡ true
chosen true n some = refl
chosen false n some = absurd (some refl)

short : (xs : List ℕ) → (short_number xs ≡ 0 → ⊥) → is_short xs ≡ true
unfolding short_number
short xs some = chosen (is_short xs) (number_of xs) some

number_is : (xs : List ℕ) → is_short xs ≡ true → short_number xs ≡ number_of xs
unfolding short_number
number_is xs s = ap (λ (t : Bool). cond t (number_of xs) 0) s

are_all : (xs : List ℕ) → is_short xs ≡ true → are_bytes xs ≡ true
unfolding are_bytes
are_all xs s = (both (nat_le (length xs) 7) (list_all (λ x. nat_lt x 256) xs) s).1

one_name : (xs ys : List ℕ) → (short_number xs ≡ 0 → ⊥) → short_number xs ≡ short_number ys → xs ≡ ys
one_name xs ys some e =
    let s = short xs some in
    let t = short ys (λ none. some (e ∙ none)) in
    same_bytes xs ys (are_all xs s) (are_all ys t) (sym (number_is xs s) ∙ (e ∙ number_is ys t))

by_answer : (xs ys : List ℕ) (t : Bool) → (short_number xs ≡ 0 → ⊥) → nat_eq (short_number xs) (short_number ys) ≡ t → t ≡ pointwise nat_eq xs ys
by_answer xs ys true some e = sym ((bytes_decides xs ys).1 (one_name xs ys some (eqb-true (short_number xs) (short_number ys) e)))
by_answer xs ys false some e =
    not-true (pointwise nat_eq xs ys) (λ same. false≢true (sym e ∙ eq-eqb (short_number xs) (short_number ys) (ap short_number ((bytes_decides xs ys).0 same))))

-- the number of a short name tells it from each other name
pub told : (xs ys : List ℕ) → (short_number xs ≡ 0 → ⊥) → nat_eq (short_number xs) (short_number ys) ≡ pointwise nat_eq xs ys
told xs ys some = by_answer xs ys (nat_eq (short_number xs) (short_number ys)) some refl
