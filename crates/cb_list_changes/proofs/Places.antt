-- What stands at a place of a list.
use Rattle.std.proofs.Common.{◌≡◌, ◌∙◌, ◌<◌, ℕ, zero, suc, List, [], ◌∷◌, Option, Some, None, ap, arith, length, refl, slice_get, sym}
use Rattle.std.specs.Option.{option_map_or}
use Rattle.cb_beta.proofs.Live.{some_none}
use Rattle.cb_beta.specs.BetaMemories.{BetaMemoryValue}
use Rattle.cb_beta.specs.Tokens.{TokenValue, token_at}
use Rattle.cb_token_lists.specs.Partials.{tokens_in}

pub by_option : {A P : Type 0} (o : Option A) → (o ≡ None → P) → ((a : A) → o ≡ Some a → P) → P
by_option None none some = none refl
by_option (Some a) none some = some a refl

pub one_some : {A : Type 0} {a b : A} → Some a ≡ Some b → a ≡ b
one_some {A} {a} {b} e = cc

-- one thing alone stands there
pub one_at : {A : Type 0} (xs : List A) (k : ℕ) (a b : A) → slice_get xs k ≡ Some a → slice_get xs k ≡ Some b → a ≡ b
one_at xs k a b e d = one_some (sym e ∙ d)

pub within : {A : Type 0} (xs : List A) (k : ℕ) (a : A) → slice_get xs k ≡ Some a → k < length xs
within [] k a e = absurd (let no : None ≡ Some a = e in cc)
within (x ∷ xs) zero a e = omega arith
within (x ∷ xs) (suc k) a e = let l = within xs k a e in omega (arith, l)

pub at_place : {A : Type 0} (xs : List A) (k : ℕ) → k < length xs → (a : A) × (slice_get xs k ≡ Some a)
at_place [] k l = absurd (omega (arith, l))
at_place (x ∷ xs) zero l = (x, refl)
at_place (x ∷ xs) (suc k) l = at_place xs k (omega (arith, l))

-- where two lists are as long, something stands in the one wherever something does in the other
pub at_same : {A B : Type 0} (xs : List A) (ys : List B) (k : ℕ) (a : A) → length ys ≡ length xs → slice_get xs k ≡ Some a → (b : B) × (slice_get ys k ≡ Some b)
at_same xs ys k a long e = let l = within xs k a e in at_place ys k (omega (arith, long, l))

-- the tokens that can be read in a list
pub tokens_is : (lists : List BetaMemoryValue) (k : ℕ) (m : BetaMemoryValue) → slice_get lists k ≡ Some m → tokens_in lists k ≡ m.tokens
tokens_is lists k m e = ap (λ o. option_map_or (λ (it : BetaMemoryValue). it.tokens) o []) e

pub token_is : (lists : List BetaMemoryValue) (k i : ℕ) (m : BetaMemoryValue) (t : TokenValue) → slice_get lists k ≡ Some m → token_at m.tokens i ≡ Some t → token_at (tokens_in lists k) i ≡ Some t
token_is lists k i m t e there = ap (λ it. token_at it i) (tokens_is lists k m e) ∙ there

pub token_of : (lists : List BetaMemoryValue) (k i : ℕ) (m : BetaMemoryValue) (t : TokenValue) → slice_get lists k ≡ Some m → token_at (tokens_in lists k) i ≡ Some t → token_at m.tokens i ≡ Some t
token_of lists k i m t e there = sym (ap (λ it. token_at it i) (tokens_is lists k m e)) ∙ there

-- where a token can be read there is a list
pub list_of : (lists : List BetaMemoryValue) (k i : ℕ) (t : TokenValue) → token_at (tokens_in lists k) i ≡ Some t → (m : BetaMemoryValue) × (slice_get lists k ≡ Some m) × (token_at m.tokens i ≡ Some t)
list_of lists k i t e =
    by_option (slice_get lists k)
    (λ none. some_none (token_at (tokens_in lists k) i) e (ap (λ o. token_at (option_map_or (λ (it : BetaMemoryValue). it.tokens) o []) i) none))
    (λ m is. (m, is, token_of lists k i m t is e))

-- the same tokens can be read where the list is the same
pub same_tokens : (lists lists' : List BetaMemoryValue) (k : ℕ) → slice_get lists' k ≡ slice_get lists k → tokens_in lists' k ≡ tokens_in lists k
same_tokens lists lists' k e = ap (λ o. option_map_or (λ (it : BetaMemoryValue). it.tokens) o []) e
