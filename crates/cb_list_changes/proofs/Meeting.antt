-- What is met by going down from a token stays so as long as it can be read.
use Rattle.std.proofs.Common.{◌≡◌, ◌∙◌, ◌≤◌, ◌⊎◌, ◌↔◌, ℕ, suc, List, Some, ap, arith, inl, inr, refl, slice_get, subst, sym}
use Rattle.cb_beta.specs.BetaMemories.{BetaMemoryValue}
use Rattle.cb_beta.specs.Tokens.{TokenValue, token_at}
use Rattle.cb_list_changes.proofs.Places.{one_some}
use Rattle.cb_list_changes.proofs.Rooted.{goes_down_to}
use Rattle.cb_list_changes.specs.Resting.{AreRooted}
use Rattle.cb_token_lists.specs.Partials.{AreBelow, Extends, LeadsTo, Meets, SourceValue, meets_here, meets_below, tokens_in}

module _ (sources : List SourceValue) (lists : List BetaMemoryValue) where
  -- one step down
  record Goes (j a k i : ℕ) : Type 0 where
    list : ℕ
    source : SourceValue
    token : TokenValue
    behind : k ≡ suc list
    names : slice_get sources list ≡ Some source
    there : token_at (tokens_in lists (suc list)) i ≡ Some token
    more : Meets sources lists j a source.from token.parent

  by_step : (j a k i : ℕ) → Meets sources lists j a k i → ((k ≡ j) × (i ≡ a)) ⊎ Goes j a k i
  by_step j a k i meets_here = inl (refl, refl)
  by_step j a k i (meets_below l n s t is there more) = inr (record { list = l; source = s; token = t; behind = refl; names = is; there = there; more = more })

  -- what is met stands in no later list
  met_before : AreBelow sources → (j a k i : ℕ) → Meets sources lists j a k i → j ≤ k
  met_before below j a k i meets_here = omega arith
  met_before below j a k i (meets_below l n s t is there more) =
      let b = below l s is in
      let h = met_before below j a s.from t.parent more in
      omega (arith, b, h)

  -- in its own list nothing else is met
  met_itself : AreBelow sources → (j a i : ℕ) → Meets sources lists j a j i → i ≡ a
  met_itself below j a i h = elim (by_step j a j i h) as (λ _. i ≡ a) [
    | inl e ↦ e.1
    | inr s ↦
        let b = below s.list s.source s.names in
        let k = met_before below j a s.source.from s.token.parent s.more in
        absurd (omega (arith, b, k, s.behind))
  ]

  -- one alone is met
  met_same : AreBelow sources → (j a b k i : ℕ) → Meets sources lists j a k i → Meets sources lists j b k i → a ≡ b
  met_same below j a b k i meets_here m = met_itself below j b i m
  met_same below j a b k i (meets_below l n s t is there more) m = elim (by_step j b k i m) as (λ _. a ≡ b) [
    | inl e ↦
        let h = met_before below j a s.from t.parent more in
        let c = below l s is in
        absurd (omega (arith, h, c, e.0))
    | inr d ↦
        let place : l ≡ d.list = omega (arith, d.behind) in
        let source : d.source ≡ s = one_some (sym d.names ∙ (ap (slice_get sources) (sym place) ∙ is)) in
        let token : d.token ≡ t = one_some (sym d.there ∙ (sym (ap (λ it. token_at (tokens_in lists it) i) d.behind) ∙ there)) in
        met_same below j a b s.from t.parent more (subst (λ it. Meets sources lists j b it t.parent) (ap (λ (it : SourceValue). it.from) source)
        (subst (λ it. Meets sources lists j b d.source.from it) (ap (λ (it : TokenValue). it.parent) token) d.more))
  ]

still_met : (sources : List SourceValue) (lists lists' : List BetaMemoryValue) → Extends lists lists' → (j a k i : ℕ) → Meets sources lists j a k i → Meets sources lists' j a k i
still_met sources lists lists' more j a k i meets_here = meets_here
still_met sources lists lists' more j a k i (meets_below l n s t is there m) =
    meets_below l i s t is (more (suc l) i t there) (still_met sources lists lists' more j a s.from t.parent m)

-- so what is met from a token of lists that are closed is met as long as more can be read
pub met_on : (sources : List SourceValue) (lists lists' : List BetaMemoryValue) → AreRooted sources lists → Extends lists lists' → (from inner g i : ℕ) (t : TokenValue)
    → LeadsTo sources from inner → token_at (tokens_in lists inner) i ≡ Some t → Meets sources lists from g inner i ↔ Meets sources lists' from g inner i
met_on sources lists lists' rooted more from inner g i t leads there =
    let a = goes_down_to sources lists rooted from inner i t leads there in (
      λ m. still_met sources lists lists' more from g inner i m,
      λ m. subst (λ it. Meets sources lists from it inner i) (met_same sources lists' rooted.below from a.0 g inner i (still_met sources lists lists' more from a.0 inner i a.3) m) a.3,
    )
