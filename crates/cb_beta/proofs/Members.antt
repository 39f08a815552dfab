-- Members of lists of numbers.
use Rattle.std.proofs.Common.{◌≡◌, ◌≢◌, ◌∙◌, ◌++◌, ◌+◌, ◌-◌, ◌⊎◌, ◌<◌, ◌||◌, ℕ, zero, suc, Bool, true, false, List, [], ◌∷◌, ap, arith, drop, get_or, inl, inr, length, nat_eq, refl, subst, sym, take}
use Rattle.std.proofs.Math.Seq.{drop-append_seam, take-length}
use Rattle.std.proofs.lemmas.Bool.{cases_eq}
use Rattle.std.proofs.lemmas.List.{length-append, take_more}
use Rattle.std.proofs.lemmas.Map.Keys.{IsDistinct-head, IsDistinct-tail}
use Rattle.std.specs.List.{AllByRecursion, Contains, IsDistinct, list_any}
use Rattle.cb_matches.specs.Chains.{Chain, In}

pub by_in : (i : ℕ) (xs : List ℕ) → In i xs ⊎ (In i xs → ⊥)
by_in i [] = inr (λ h. h)
by_in i (x ∷ xs) = elim (cases_eq i x) as (λ _. In i (x ∷ xs) ⊎ (In i (x ∷ xs) → ⊥)) [
  | inl e ↦ inl (inl e)
  | inr d ↦ elim (by_in i xs) as (λ _. In i (x ∷ xs) ⊎ (In i (x ∷ xs) → ⊥)) [
    | inl h ↦ inl (inr h)
    | inr n ↦ inr (λ k. elim k as (λ _. ⊥) [ inl e ↦ d e | inr h ↦ n h ])
  ]
]

same_number : (x y : ℕ) → x ≡ y → nat_eq x y ≡ true
same_number x y e = grind arith

other_number : (x y : ℕ) → x ≢ y → nat_eq x y ≡ false
other_number x y d = grind arith

pub any_of : (i : ℕ) (xs : List ℕ) → In i xs → list_any (nat_eq i) xs ≡ true
any_of i [] h = absurd h
any_of i (x ∷ xs) (inl e) = ap (λ b. b || list_any (nat_eq i) xs) (same_number i x e)
any_of i (x ∷ xs) (inr h) = or_true (nat_eq i x) (list_any (nat_eq i) xs) (any_of i xs h)
  where
    or_true : (a b : Bool) → b ≡ true → (a || b) ≡ true
    or_true true b e = refl
    or_true false b e = e

pub none_of : (i : ℕ) (xs : List ℕ) → (In i xs → ⊥) → list_any (nat_eq i) xs ≡ false
none_of i [] h = refl
none_of i (x ∷ xs) h = ap (λ b. b || list_any (nat_eq i) xs) (other_number i x (λ e. h (inl e))) ∙ none_of i xs (λ k. h (inr k))

pub in_left : (i : ℕ) (xs ys : List ℕ) → In i xs → In i (xs ++ ys)
in_left i [] ys h = absurd h
in_left i (x ∷ xs) ys (inl e) = inl e
in_left i (x ∷ xs) ys (inr h) = inr (in_left i xs ys h)

pub in_right : (i : ℕ) (xs ys : List ℕ) → In i ys → In i (xs ++ ys)
in_right i [] ys h = h
in_right i (x ∷ xs) ys h = inr (in_right i xs ys h)

pub in_either : (i : ℕ) (xs ys : List ℕ) → In i (xs ++ ys) → In i xs ⊎ In i ys
in_either i [] ys h = inr h
in_either i (x ∷ xs) ys (inl e) = inl (inl e)
in_either i (x ∷ xs) ys (inr h) = elim (in_either i xs ys h) as (λ _. In i (x ∷ xs ++ ys) → In i (x ∷ xs) ⊎ In i ys) [ inl k ↦ λ _. inl (inr k) | inr k ↦ λ _. inr k ] (inr h)

-- one number more of a list
pub in_more : (xs : List ℕ) (i n : ℕ) → i < length xs → In n (take i xs) ⊎ (n ≡ get_or xs i 0) → In n (take (i + 1) xs)
in_more xs i n l h = subst (In n) (sym (take_more xs i 0 l)) (elim h as (λ _. In n (take i xs ++ get_or xs i 0 ∷ [])) [
  | inl k ↦ in_left n (take i xs) (get_or xs i 0 ∷ []) k
  | inr e ↦ in_right n (take i xs) (get_or xs i 0 ∷ []) (inl e)
])

pub more_in : (xs : List ℕ) (i n : ℕ) → i < length xs → In n (take (i + 1) xs) → In n (take i xs) ⊎ (n ≡ get_or xs i 0)
more_in xs i n l h = elim (in_either n (take i xs) (get_or xs i 0 ∷ []) (subst (In n) (take_more xs i 0 l) h)) as (λ _. In n (take i xs) ⊎ (n ≡ get_or xs i 0)) [
  | inl k ↦ inl k
  | inr k ↦ elim k as (λ _. In n (take i xs) ⊎ (n ≡ get_or xs i 0)) [ inl e ↦ inr e | inr none ↦ absurd none ]
]

-- the same members by their positions
pub in_contains : (xs : List ℕ) (m : ℕ) → In m xs → Contains xs m
in_contains [] m h = absurd h
in_contains (x ∷ xs) m (inl e) = (0, omega arith, sym e)
in_contains (x ∷ xs) m (inr h) = let k = in_contains xs m h in (suc k.0, let l = k.1 in omega (arith, l), k.2)

pub contains_in : (xs : List ℕ) (m : ℕ) → Contains xs m → In m xs
contains_in xs m h = at xs m h.0 h.1 h.2
  where
    at : (xs : List ℕ) (m k : ℕ) → k < length xs → get_or xs k m ≡ m → In m xs
    at [] m k l e = absurd (omega (arith, l))
    at (x ∷ xs) m zero l e = inl (sym e)
    at (x ∷ xs) m (suc k) l e = inr (at xs m k (omega (arith, l)) e)

apart_from_all : (x : ℕ) (xs : List ℕ) → AllByRecursion (λ y. nat_eq x y ≡ false) xs → (z : ℕ) → In z xs → x ≢ z
apart_from_all x [] all z h = absurd h
apart_from_all x (y ∷ xs) all z (inl e) = λ same. absurd (let no : true ≡ false = sym (same_number x y (same ∙ e)) ∙ all.0 in cc)
apart_from_all x (y ∷ xs) all z (inr h) = apart_from_all x xs all.1 z h

pub apart_of : (xs : List ℕ) → IsDistinct nat_eq xs → Chain (λ (i : ℕ) (j : ℕ). i ≢ j) xs
apart_of [] once = tt
apart_of (x ∷ xs) once = (apart_from_all x xs (IsDistinct-head nat_eq x xs once), apart_of xs (IsDistinct-tail nat_eq x xs once))

pub once_append : (xs ys : List ℕ) → Chain (λ (i : ℕ) (j : ℕ). i ≢ j) xs → Chain (λ (i : ℕ) (j : ℕ). i ≢ j) ys → ((i : ℕ) → In i xs → In i ys → ⊥)
    → Chain (λ (i : ℕ) (j : ℕ). i ≢ j) (xs ++ ys)
once_append [] ys once more apart = more
once_append (x ∷ xs) ys once more apart = (
  λ z h e. elim (in_either z xs ys h) as (λ _. ⊥) [ inl k ↦ once.0 z k e | inr k ↦ apart x (inl refl) (subst (λ it. In it ys) (sym e) k) ],
  once_append xs ys once.1 more (λ i h k. apart i (inr h) k),
)

-- what stands in a list behind what was there
pub behind_is : (xs more all given : List ℕ) (start : ℕ) → all ≡ xs ++ more → start ≡ length xs → given ≡ all → take (length given - start) (drop start given) ≡ more
behind_is xs more all given start is e same =
    ap (λ it. take (length it - start) (drop start it)) (same ∙ is)
    ∙ (ap (λ n. take (length (xs ++ more) - n) (drop n (xs ++ more))) e
    ∙ (ap (take (length (xs ++ more) - length xs)) (drop-append_seam xs more)
    ∙ (ap (λ n. take n more) (count xs more) ∙ take-length more)))
  where
    count : (ys zs : List ℕ) → length (ys ++ zs) - length ys ≡ length zs
    count ys zs = omega (arith, length-append ys zs)
