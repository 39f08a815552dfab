-- What stands in a list in which one place is written.
use Rattle.std.proofs.Common.{◌≡◌, ◌≢◌, ◌∙◌, ◌++◌, ◌<◌, ◌≤◌, ℕ, zero, suc, List, [], ◌∷◌, Some, ap, arith, inl, inr, length, refl, set, slice_get, sym}
use Rattle.std.proofs.Math.ListN.{length-set}
use Rattle.std.proofs.lemmas.Bool.{cases_order}
use Rattle.std.proofs.lemmas.List.{get_or-set_other, get_or-set_same}
use Rattle.std.proofs.lemmas.Option.{slice_get-get_or, slice_get_past}
use Rattle.cb_beta.specs.BetaMemories.{BetaMemoryValue}
use Rattle.cb_list_changes.specs.Resting.{IsPut}

by_place : {A P : Type 0} (xs : List A) (j : ℕ) → (j < length xs → P) → (length xs ≤ j → P) → P
by_place {A} {P} xs j in_it behind = elim (cases_order j (length xs)) as (λ _. P) [
  | inl e ↦ behind (omega (arith, e))
  | inr d ↦ elim d as (λ _. P) [ inl l ↦ in_it l | inr g ↦ behind (omega (arith, g)) ]
]

pub set_there : {A : Type 0} (xs : List A) (k : ℕ) (x : A) → k < length xs → slice_get (set xs k x) k ≡ Some x
set_there xs k x l = slice_get-get_or (set xs k x) k x (omega (arith, l, length-set xs k x)) ∙ ap Some (get_or-set_same xs k x x l)

pub set_others : {A : Type 0} (xs : List A) (k : ℕ) (x : A) (j : ℕ) → j ≢ k → slice_get (set xs k x) j ≡ slice_get xs j
set_others xs k x j n =
    by_place xs j
    (λ l. slice_get-get_or (set xs k x) j x (omega (arith, l, length-set xs k x)) ∙ (ap Some (get_or-set_other xs k j x x n) ∙ sym (slice_get-get_or xs j x l)))
    (λ g. slice_get_past (set xs k x) j (omega (arith, g, length-set xs k x)) ∙ sym (slice_get_past xs j g))

pub set_put : (lists : List BetaMemoryValue) (k : ℕ) (m : BetaMemoryValue) → k < length lists → IsPut lists (set lists k m) k m
set_put lists k m l = record { long = length-set lists k m; there = set_there lists k m l; others = λ j n. set_others lists k m j n }

-- the place of the first of the second part of a list
pub set_second : {A : Type 0} (xs ys : List A) (n : ℕ) (x : A) → length xs ≡ n → xs ++ set ys 0 x ≡ set (xs ++ ys) n x
set_second [] ys zero x e = refl
set_second [] ys (suc n) x e = absurd (omega (arith, e))
set_second (y ∷ xs) ys zero x e = absurd (omega (arith, e))
set_second (y ∷ xs) ys (suc n) x e = ap (λ it. y ∷ it) (set_second xs ys n x (omega (arith, e)))

-- the first part has what the whole has there
pub in_front : {A : Type 0} (xs ys : List A) (j : ℕ) → j < length xs → slice_get xs j ≡ slice_get (xs ++ ys) j
in_front [] ys j l = absurd (omega (arith, l))
in_front (x ∷ xs) ys zero l = refl
in_front (x ∷ xs) ys (suc j) l = in_front xs ys j (omega (arith, l))

pub in_second : {A : Type 0} (xs ys : List A) (n : ℕ) → length xs ≡ n → slice_get (xs ++ ys) n ≡ slice_get ys 0
in_second [] ys zero e = refl
in_second [] ys (suc n) e = absurd (omega (arith, e))
in_second (x ∷ xs) ys zero e = absurd (omega (arith, e))
in_second (x ∷ xs) ys (suc n) e = in_second xs ys n (omega (arith, e))
