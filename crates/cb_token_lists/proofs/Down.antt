-- The partial match of a number, by going down the lists.
use Rattle.std.proofs.Common.{◌≡◌, ◌∙◌, ◌<◌, ℕ, zero, suc, List, [], ◌∷◌, Option, Some, None, ap, arith, get_or, length, refl, slice_get, sym}
use Rattle.std.specs.Option.{option_map_or}
use Rattle.cb_beta.specs.BetaMemories.{BetaMemoryValue}
use Rattle.cb_beta.specs.Tokens.{TokenValue, Tokens, partial_after, token_at, with_taken}
use Rattle.cb_matches.specs.Matches.{Partial, no_parts}
use Rattle.cb_token_lists.specs.Partials.{AreBelow, AreClosed, Extends, SourceValue, partial_at, partial_in, tokens_in}

by_option : {A P : Type 0} (o : Option A) → (o ≡ None → P) → ((a : A) → o ≡ Some a → P) → P
by_option None none some = none refl
by_option (Some a) none some = some a refl

-- what a number stands for where its token is this
pub of_token : (x : Option (List ℕ)) (ts : Tokens) (before : ℕ → Partial) (i : ℕ) (t : TokenValue) → token_at ts i ≡ Some t → partial_after x ts before i ≡ with_taken x t.taken (before t.parent)
of_token x ts before i t e = ap (λ o. option_map_or (λ (it : TokenValue). with_taken x it.taken (before it.parent)) o no_parts) e

-- what is read by a source, and of a token
abbrev by_source : List BetaMemoryValue → ℕ → ℕ → (ℕ → ℕ → Partial) → Option SourceValue → Partial
by_source lists k i before o = option_map_or (λ (s : SourceValue). partial_after s.address (tokens_in lists (suc k)) (before s.from) i) o no_parts

abbrev by_token : Option (List ℕ) → (ℕ → Partial) → Option TokenValue → Partial
by_token x before o = option_map_or (λ (t : TokenValue). with_taken x t.taken (before t.parent)) o no_parts

-- what stands at a place
pub got : {A : Type 0} (xs : List A) (k : ℕ) (a : A) → k < length xs → a ≡ get_or xs k a → slice_get xs k ≡ Some a
got [] k a l e = absurd (omega (arith, l))
got (x ∷ xs) zero a l e = ap Some (sym e)
got (x ∷ xs) (suc k) a l e = got xs k a (omega (arith, l)) e

pub token_in : (lists : List BetaMemoryValue) (k i : ℕ) (m : BetaMemoryValue) (t : TokenValue) → slice_get lists k ≡ Some m → Some t ≡ token_at m.tokens i → token_at (tokens_in lists k) i ≡ Some t
token_in lists k i m t is there = ap (λ o. token_at (option_map_or (λ (it : BetaMemoryValue). it.tokens) o []) i) is ∙ sym there

module _ (sources : List SourceValue) where
  -- the same where the lists before say the same of what is named
  step_alike : (lists lists' : List BetaMemoryValue) (n m k i : ℕ)
      → ((s : SourceValue) (t : TokenValue) → slice_get sources k ≡ Some s → token_at (tokens_in lists (suc k)) i ≡ Some t
      → partial_in sources lists n s.from t.parent ≡ partial_in sources lists' m s.from t.parent)
      → token_at (tokens_in lists' (suc k)) i ≡ token_at (tokens_in lists (suc k)) i → partial_in sources lists (suc n) (suc k) i ≡ partial_in sources lists' (suc m) (suc k) i
  step_alike lists lists' n m k i same tokens =
      by_option (slice_get sources k)
      (λ none. ap (by_source lists k i (partial_in sources lists n)) none ∙ sym (ap (by_source lists' k i (partial_in sources lists' m)) none))
      (λ s is. ap (by_source lists k i (partial_in sources lists n)) is
      ∙ (by_option (token_at (tokens_in lists (suc k)) i)
      (λ none. ap (by_token s.address (partial_in sources lists n s.from)) none ∙ sym (ap (by_token s.address (partial_in sources lists' m s.from)) (tokens ∙ none)))
      (λ t there. ap (by_token s.address (partial_in sources lists n s.from)) there
      ∙ (ap (with_taken s.address t.taken) (same s t is there) ∙ sym (ap (by_token s.address (partial_in sources lists' m s.from)) (tokens ∙ there))))
      ∙ sym (ap (by_source lists' k i (partial_in sources lists' m)) is)))

  -- how much more n is than k says nothing
  pub enough : (lists : List BetaMemoryValue) → AreBelow sources → (n m k i : ℕ) → k < n → k < m → partial_in sources lists n k i ≡ partial_in sources lists m k i
  enough lists below zero m k i h l = absurd (omega (arith, h))
  enough lists below (suc n) zero k i h l = absurd (omega (arith, l))
  enough lists below (suc n) (suc m) zero i h l = refl
  enough lists below (suc n) (suc m) (suc k) i h l =
      step_alike lists lists n m k i
      (λ s t is there. let b = below k s is in enough lists below n m s.from t.parent (omega (arith, b, h)) (omega (arith, b, l)))
      refl

  -- so a partial match is that of the list before, and what its token took
  pub goes_on : (lists : List BetaMemoryValue) → AreBelow sources → (k i : ℕ) (s : SourceValue) → slice_get sources k ≡ Some s
      → partial_at sources lists (suc k) i ≡ partial_after s.address (tokens_in lists (suc k)) (partial_at sources lists s.from) i
  goes_on lists below k i s is =
      let b = below k s is in
      ap (by_source lists k i (partial_in sources lists (suc k))) is
      ∙ by_option (token_at (tokens_in lists (suc k)) i)
      (λ none. ap (by_token s.address (partial_in sources lists (suc k) s.from)) none ∙ sym (ap (by_token s.address (partial_at sources lists s.from)) none))
      (λ t there. ap (by_token s.address (partial_in sources lists (suc k) s.from)) there
      ∙ (ap (with_taken s.address t.taken) (enough lists below (suc k) (suc s.from) s.from t.parent b (omega arith)) ∙ sym (ap (by_token s.address (partial_at sources lists s.from)) there)))

  -- a token that can still be read stands for the same partial match
  stays_in : (lists lists' : List BetaMemoryValue) → AreClosed sources lists → Extends lists lists' → (n k i : ℕ) (t : TokenValue) → token_at (tokens_in lists k) i ≡ Some t
      → partial_in sources lists n k i ≡ partial_in sources lists' n k i
  stays_in lists lists' closed more zero k i t there = refl
  stays_in lists lists' closed more (suc n) zero i t there = refl
  stays_in lists lists' closed more (suc n) (suc k) i t there =
      step_alike lists lists' n n k i
      (λ s u is at. by_place (λ j v w there'. stays_in lists lists' closed more n j v w there') s.from s u refl is at)
      (more (suc k) i t there ∙ sym there)
    where
      first_is : (all : List BetaMemoryValue) (m j : ℕ) → partial_in sources all m zero j ≡ no_parts
      first_is all zero j = refl
      first_is all (suc m) j = refl

      by_place : ((j v : ℕ) (w : TokenValue) → token_at (tokens_in lists j) v ≡ Some w → partial_in sources lists n j v ≡ partial_in sources lists' n j v)
          → (from : ℕ) (s : SourceValue) (u : TokenValue) → from ≡ s.from → slice_get sources k ≡ Some s → token_at (tokens_in lists (suc k)) i ≡ Some u
          → partial_in sources lists n from u.parent ≡ partial_in sources lists' n from u.parent
      by_place below zero s u e is at = first_is lists n u.parent ∙ sym (first_is lists' n u.parent)
      by_place below (suc j) s u e is at =
          let named = closed.there k j i s u is (sym e) at in
          below (suc j) u.parent named.0 named.1

  pub stays : (lists lists' : List BetaMemoryValue) → AreClosed sources lists → Extends lists lists' → (k i : ℕ) (t : TokenValue) → token_at (tokens_in lists k) i ≡ Some t
      → partial_at sources lists k i ≡ partial_at sources lists' k i
  stays lists lists' closed more k i t there = stays_in lists lists' closed more (suc k) k i t there
