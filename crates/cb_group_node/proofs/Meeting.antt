-- What is met by going down from a token.
use Rattle.std.proofs.Common.{◌≡◌, ◌≢◌, ◌∙◌, ◌-◌, ◌<◌, ◌≤◌, ◌⊎◌, ◌↔◌, ℕ, zero, suc, true, List, [], ◌∷◌, Option, Some, None, ap, arith, inl, inr, length, refl, slice_get, subst, sym}
use Rattle.std.specs.Option.{option_map_or}
use Rattle.cb_beta.proofs.Live.{some_none}
use Rattle.cb_beta.specs.BetaMemories.{BetaMemoryValue}
use Rattle.cb_beta.specs.Tokens.{TokenValue, token_at}
use Rattle.cb_group_node.proofs.Beginnings.{begins_to, to_begins}
use Rattle.cb_group_node.specs.Outer.{AreOneByParts, FindsMet}
use Rattle.cb_nodes.proofs.Origins.{same_begin}
use Rattle.cb_nodes.specs.Flat.{begins}
use Rattle.cb_token_lists.proofs.Ancestors.{goes_on_from}
use Rattle.cb_token_lists.specs.Partials.{AreBelow, Extends, Meets, SourceValue, meets_here, meets_below, partial_at, tokens_in}
use Rattle.cb_token_lists.specs.Turns.{IsReadable}

-- behind the last there is nothing
past_none : {A : Type 0} (xs : List A) (k : ℕ) → length xs ≤ k → slice_get xs k ≡ None
past_none [] k l = refl
past_none (x ∷ xs) zero l = absurd (omega (arith, l))
past_none (x ∷ xs) (suc k) l = past_none xs k (omega (arith, l))

pub no_place : {A : Type 0} (xs : List A) (k : ℕ) (a : A) → length xs ≤ k → slice_get xs k ≡ Some a → ⊥
no_place xs k a l e = some_none (slice_get xs k) e (past_none xs k l)

pub no_list : (lists : List BetaMemoryValue) (k i : ℕ) (t : TokenValue) → length lists ≤ k → token_at (tokens_in lists k) i ≡ Some t → ⊥
no_list lists k i t l e =
    some_none (token_at (tokens_in lists k) i) e (ap (λ o. token_at (option_map_or (λ (it : BetaMemoryValue). it.tokens) o []) i) (past_none lists k l))

module _ (sources : List SourceValue) (lists : List BetaMemoryValue) where
  -- one step down
  pub record Steps (j a k i : ℕ) : Type 0 where
    pub list : ℕ
    pub source : SourceValue
    pub token : TokenValue
    pub behind : k ≡ suc list
    pub names : slice_get sources list ≡ Some source
    pub there : token_at (tokens_in lists (suc list)) i ≡ Some token
    pub more : Meets sources lists j a source.from token.parent

  pub by_step : (j a k i : ℕ) → Meets sources lists j a k i → ((k ≡ j) × (i ≡ a)) ⊎ Steps j a k i
  by_step j a k i meets_here = inl (refl, refl)
  by_step j a k i (meets_below l n s t is there more) = inr (record { list = l; source = s; token = t; behind = refl; names = is; there = there; more = more })

  -- what is met stands in no later list
  pub met_before : AreBelow sources → (j a k i : ℕ) → Meets sources lists j a k i → j ≤ k
  met_before below j a k i meets_here = omega arith
  met_before below j a k i (meets_below l n s t is there more) =
      let b = below l s is in
      let h = met_before below j a s.from t.parent more in
      omega (arith, b, h)

  -- in its own list nothing else is met
  pub met_itself : AreBelow sources → (j a i : ℕ) → Meets sources lists j a j i → i ≡ a
  met_itself below j a i h = elim (by_step j a j i h) as (λ _. i ≡ a) [
    | inl e ↦ e.1
    | inr s ↦
        let b = below s.list s.source s.names in
        let k = met_before below j a s.source.from s.token.parent s.more in
        absurd (omega (arith, b, k, s.behind))
  ]

  -- what goes on by its parts is what is met
  pub begins_met : AreBelow sources → (width from inner a g i : ℕ) (before : BetaMemoryValue) → AreOneByParts (partial_at sources lists from) before width
      → IsReadable before a → IsReadable before g → Meets sources lists from a inner i
      → (begins (partial_at sources lists from g).parts (partial_at sources lists inner i) ≡ true) ↔ Meets sources lists from g inner i
  begins_met below width from inner a g i before are h k met = (
    λ b.
        let at = partial_at sources lists from in
        let same = same_begin (at g).parts (at a).parts (partial_at sources lists inner i).parts (are.long g k ∙ sym (are.long a h))
        (begins_to (at g).parts (partial_at sources lists inner i) b) (goes_on_from sources lists below from a inner i met) in
        subst (λ it. Meets sources lists from it inner i) (sym (are.one g a k h same)) met,
    λ m. to_begins (partial_at sources lists from g).parts (partial_at sources lists inner i) (goes_on_from sources lists below from g inner i m),
  )

  -- what is found on the way down: here, nothing, or what is found below
  pub found_here : AreBelow sources → (from list i : ℕ) → list ≡ from → FindsMet (Some i) (λ a. Meets sources lists from a list i)
  found_here below from list i same a = (
    λ e. let one : i ≡ a = cc in subst (λ k. Meets sources lists from a k i) (sym same) (subst (λ n. Meets sources lists from n from i) one meets_here),
    λ m. ap Some (met_itself below from a i (subst (λ k. Meets sources lists from a k i) same m)),
  )

  pub found_none : (from list i : ℕ) → list ≢ from
      → ((s : SourceValue) (t : TokenValue) → list ≢ 0 → slice_get sources (list - 1) ≡ Some s → token_at (tokens_in lists list) i ≡ Some t → ⊥)
      → FindsMet None (λ a. Meets sources lists from a list i)
  found_none from list i apart none a = (
    λ e. absurd (cc),
    λ m. elim (by_step from a list i m) as (λ _. None ≡ Some a) [
      | inl e ↦ absurd (apart e.0)
      | inr s ↦
          let n : list ≢ 0 = λ e. absurd (omega (arith, e, s.behind)) in
          let place : list - 1 ≡ s.list = omega (arith, s.behind) in
          absurd (none s.source s.token n (ap (slice_get sources) place ∙ s.names) (ap (λ k. token_at (tokens_in lists k) i) s.behind ∙ s.there))
    ],
  )

  pub found_past : AreBelow sources → (from list i : ℕ) → list < from → FindsMet None (λ a. Meets sources lists from a list i)
  found_past below from list i l a = (
    λ e. absurd (cc),
    λ m. let h = met_before below from a list i m in absurd (omega (arith, h, l)),
  )

  pub found_below : (from list i : ℕ) (s : SourceValue) (t : TokenValue) (found : Option ℕ) → list ≢ from → list ≢ 0 → slice_get sources (list - 1) ≡ Some s
      → token_at (tokens_in lists list) i ≡ Some t → FindsMet found (λ a. Meets sources lists from a s.from t.parent) → FindsMet found (λ a. Meets sources lists from a list i)
  found_below from list i s t found apart n is there finds a = (
    λ e.
        let behind : list ≡ suc (list - 1) = omega (arith, n) in
        subst (λ k. Meets sources lists from a k i) (sym behind)
        (meets_below (list - 1) i s t is (ap (λ k. token_at (tokens_in lists k) i) (sym behind) ∙ there) ((finds a).0 e)),
    λ m. elim (by_step from a list i m) as (λ _. found ≡ Some a) [
      | inl e ↦ absurd (apart e.0)
      | inr k ↦
          let place : list - 1 ≡ k.list = omega (arith, k.behind) in
          let source : Some s ≡ Some k.source = sym is ∙ (ap (slice_get sources) place ∙ k.names) in
          let token : Some t ≡ Some k.token = sym there ∙ (ap (λ l. token_at (tokens_in lists l) i) k.behind ∙ k.there) in
          let source' : k.source ≡ s = cc in
          let token' : k.token ≡ t = cc in
          (finds a).1 (subst (λ it. Meets sources lists from a it t.parent) (ap (λ (it : SourceValue). it.from) source')
          (subst (λ it. Meets sources lists from a k.source.from it) (ap (λ (it : TokenValue). it.parent) token') k.more))
    ],
  )

  -- one alone is met
  pub met_same : AreBelow sources → (j a b k i : ℕ) → Meets sources lists j a k i → Meets sources lists j b k i → a ≡ b
  met_same below j a b k i meets_here m = met_itself below j b i m
  met_same below j a b k i (meets_below l n s t is there more) m = elim (by_step j b k i m) as (λ _. a ≡ b) [
    | inl e ↦
        let h = met_before below j a s.from t.parent more in
        let c = below l s is in
        absurd (omega (arith, h, c, e.0))
    | inr d ↦
        let place : l ≡ d.list = omega (arith, d.behind) in
        let source : Some s ≡ Some d.source = sym is ∙ (ap (slice_get sources) place ∙ d.names) in
        let token : Some t ≡ Some d.token = sym there ∙ (ap (λ it. token_at (tokens_in lists it) i) d.behind ∙ d.there) in
        let source' : d.source ≡ s = cc in
        let token' : d.token ≡ t = cc in
        met_same below j a b s.from t.parent more (subst (λ it. Meets sources lists j b it t.parent) (ap (λ (it : SourceValue). it.from) source')
        (subst (λ it. Meets sources lists j b d.source.from it) (ap (λ (it : TokenValue). it.parent) token') d.more))
  ]

-- what is met stays so
still_met : (sources : List SourceValue) (lists lists' : List BetaMemoryValue) → Extends lists lists' → (j a k i : ℕ) → Meets sources lists j a k i → Meets sources lists' j a k i
still_met sources lists lists' more j a k i meets_here = meets_here
still_met sources lists lists' more j a k i (meets_below l n s t is there m) =
    meets_below l i s t is (more (suc l) i t there) (still_met sources lists lists' more j a s.from t.parent m)

pub met_stays : (sources : List SourceValue) (lists lists' : List BetaMemoryValue) → AreBelow sources → Extends lists lists' → (from inner a g i : ℕ) → Meets sources lists from a inner i
    → Meets sources lists' from g inner i ↔ Meets sources lists from g inner i
met_stays sources lists lists' below more from inner a g i m = (
  λ k. subst (λ it. Meets sources lists from it inner i) (met_same sources lists' below from a g inner i (still_met sources lists lists' more from a inner i m) k) m,
  λ k. still_met sources lists lists' more from g inner i k,
)
