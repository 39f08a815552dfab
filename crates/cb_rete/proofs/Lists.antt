-- Lists of which one after another is changed.
use Rattle.std.proofs.Common.{◌≡◌, ◌≢◌, ◌<◌, ◌≤◌, ◌+◌, ◌∙◌, ℕ, zero, suc, Bor, List, [], ◌∷◌, Option, Some, None, ap, arith, get_or, inl, inr, length, set, subst, sym}
use Rattle.std.proofs.lemmas.Bool.{cases_eq}
use Rattle.std.proofs.lemmas.Option.{slice_get-get_or, slice_get_past}
use Rattle.std.specs.List.{All, HoldsAt, slice_get}
use Rattle.std.specs.Option.{MatchOption, option_copied}
use Rattle.cb_rule_keys.proofs.Branches.{got_set_other, got_set_same, got_within}

pub some_is : {A : Type 0} (x y : A) → Some x ≡ Some y → x ≡ y
some_is x y h = cc

module _ {A : Type 0} (P : ℕ → A → Type 0) (xs : List A) (i : ℕ) (old new : A) (got : slice_get xs i ≡ Some old) (now : P i new) where
  at_set : (k : ℕ) (x : A) → k ≡ i → slice_get (set xs i new) k ≡ Some x → P k x
  at_set k x e h =
      let same : new ≡ x = some_is new x (sym (got_set_same xs i old new got) ∙ (ap (slice_get (set xs i new)) (sym e) ∙ h)) in
      subst (P k) same (subst (λ n. P n new) (sym e) now)

  -- what holds of those before a place, of the one there too
  pub set_more : ((k : ℕ) (x : A) → k < i → slice_get xs k ≡ Some x → P k x) → (k : ℕ) (x : A) → k < i + 1 → slice_get (set xs i new) k ≡ Some x → P k x
  set_more done k x l h = elim (cases_eq k i) as (λ _. P k x) [
    | inl e ↦ at_set k x e h
    | inr ne ↦ done k x (omega (arith, l, ne)) (sym (got_set_other xs i k new ne) ∙ h)
  ]

  -- what holds of all
  pub set_each : ((k : ℕ) (x : A) → slice_get xs k ≡ Some x → P k x) → (k : ℕ) (x : A) → slice_get (set xs i new) k ≡ Some x → P k x
  set_each each k x h = elim (cases_eq k i) as (λ _. P k x) [
    | inl e ↦ at_set k x e h
    | inr ne ↦ each k x (sym (got_set_other xs i k new ne) ∙ h)
  ]

-- what holds of those behind
pub set_left : {A : Type 0} (P : ℕ → A → Type 0) (xs : List A) (i : ℕ) (new : A) → ((k : ℕ) (x : A) → i ≤ k → slice_get xs k ≡ Some x → P k x)
    → (k : ℕ) (x : A) → i + 1 ≤ k → slice_get (set xs i new) k ≡ Some x → P k x
set_left P xs i new left k x l h = let ne : k ≢ i = omega (arith, l) in left k x (omega (arith, l)) (sym (got_set_other xs i k new ne) ∙ h)

-- what holds of all of a list, place by place
pub all_got : {A : Type 0} (P : A → Type 0) (xs : List A) → All P xs → (k : ℕ) (x : A) → slice_get xs k ≡ Some x → P x
all_got P xs all k x h = let at = got_within xs k x h in subst P (at.1 x) (all k x at.0)

pub got_all : {A : Type 0} (P : A → Type 0) (xs : List A) → ((k : ℕ) (x : A) → slice_get xs k ≡ Some x → P x) → All P xs
got_all P xs each k d l = each k (get_or xs k d) (slice_get-get_or xs k d l)

pub all_set : {A : Type 0} (P : A → Type 0) (xs : List A) (i : ℕ) (old new : A) → slice_get xs i ≡ Some old → All P xs → P new → All P (set xs i new)
all_set P xs i old new got all now = got_all P (set xs i new) (set_each (λ k x. P x) xs i old new got now (all_got P xs all))

-- what stands at a place stands before the end
pub got_before : {A : Type 0} (xs : List A) (n k : ℕ) (x : A) → length xs ≤ n → slice_get xs k ≡ Some x → k < n
got_before xs n k x end h = let at = got_within xs k x h in let l = at.0 in omega (arith, l, end)

pub only_of : {X : Type 0} (P : X → Type 0) (x : X) → P x → All P (x ∷ [])
only_of P x p zero d h = p
only_of P x p (suc k) d h = absurd (omega (arith, h))

-- what is got at a place of a list is what stands there
pub copied_is : {A : Type 0} (xs : List A) (n : ℕ) (o : Option (Bor A)) → MatchOption o (length xs ≤ n) (λ x. (n < length xs) × HoldsAt (λ y. x.now ≡ y) xs n)
    → option_copied o ≡ slice_get xs n
copied_is xs n None h = sym (slice_get_past xs n h)
copied_is xs n (Some x) h = sym (slice_get-get_or xs n x.now h.0 ∙ ap (λ y. Some y) (sym (h.1 x.now)))
