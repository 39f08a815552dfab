-- What is there before a group: what stays, and what came.
use Rattle.std.proofs.Common.{◌∙◌, ◌⊎◌, ℕ, inl, inr}
use Rattle.cb_beta.proofs.Live.{live_token, there_is}
use Rattle.cb_beta.proofs.Members.{by_in}
use Rattle.cb_beta.specs.BetaMemories.{BetaMemoryValue}
use Rattle.cb_lookup_node.specs.Internal.{Stays}
use Rattle.cb_matches.specs.Chains.{In}
use Rattle.cb_token_lists.specs.Turns.{IsThere}

module _ (before : BetaMemoryValue) where
  pub there_again : ((n : ℕ) → In n before.come → IsThere before n) → (n : ℕ) → Stays before n ⊎ In n before.come → IsThere before n
  there_again came n (inl h) = (h.0.0.0, there_is before.tokens before.gone n h.1 ∙ h.0.0.1)
  there_again came n (inr h) = came n h

  pub stayed_or_came : (n : ℕ) → IsThere before n → Stays before n ⊎ In n before.come
  stayed_or_came n h = elim (by_in n before.come) as (λ _. Stays before n ⊎ In n before.come) [
    | inl k ↦ inr k
    | inr k ↦ let l = live_token before.tokens before.gone n h.0 h.1 in inl (((h.0, l.1), k), l.0)
  ]
