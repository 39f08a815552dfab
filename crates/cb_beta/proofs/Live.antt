-- The tokens that are there, and those that are gone.
use Rattle.std.proofs.Common.{◌≡◌, ◌∙◌, ◌++◌, ℕ, List, Option, Some, None, ap, cond, inl, inr, sym}
use Rattle.cb_beta.proofs.Members.{any_of, by_in, in_either, in_left, none_of}
use Rattle.cb_beta.specs.BetaMemories.{live_in}
use Rattle.cb_beta.specs.Tokens.{TokenValue, Tokens, token_at}
use Rattle.cb_matches.specs.Chains.{In}

pub some_none : {A P : Type 0} {a : A} (o : Option A) → o ≡ Some a → o ≡ None → P
some_none {A} {P} {a} o e f = absurd (let no : Some a ≡ None = sym e ∙ f in cc)

module _ (ts : Tokens) where
  pub gone_is : (gone : List ℕ) (i : ℕ) → In i gone → live_in ts gone i ≡ None
  gone_is gone i h = ap (λ b. cond b None (token_at ts i)) (any_of i gone h)

  pub there_is : (gone : List ℕ) (i : ℕ) → (In i gone → ⊥) → live_in ts gone i ≡ token_at ts i
  there_is gone i h = ap (λ b. cond b None (token_at ts i)) (none_of i gone h)

  pub live_token : (gone : List ℕ) (i : ℕ) (t : TokenValue) → live_in ts gone i ≡ Some t → (In i gone → ⊥) × (token_at ts i ≡ Some t)
  live_token gone i t e = elim (by_in i gone) as (λ _. (In i gone → ⊥) × (token_at ts i ≡ Some t)) [
    | inl h ↦ some_none (live_in ts gone i) e (gone_is gone i h)
    | inr n ↦ (n, sym (there_is gone i n) ∙ e)
  ]

  -- of what is there more went
  pub live_more : (gone more : List ℕ) (i : ℕ) → (In i more → ⊥) → live_in ts (gone ++ more) i ≡ live_in ts gone i
  live_more gone more i n = elim (by_in i gone) as (λ _. live_in ts (gone ++ more) i ≡ live_in ts gone i) [
    | inl h ↦ gone_is (gone ++ more) i (in_left i gone more h) ∙ sym (gone_is gone i h)
    | inr m ↦ there_is (gone ++ more) i (λ k. elim (in_either i gone more k) as (λ _. ⊥) [ inl h ↦ m h | inr h ↦ n h ]) ∙ sym (there_is gone i m)
  ]
