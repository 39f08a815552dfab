-- The numbers of the tokens that are there, one after another.
use Rattle.std.proofs.Common.{◌≡◌, ◌∙◌, ◌++◌, ◌+◌, ◌<◌, ◌≤◌, ℕ, true, false, List, [], ◌∷◌, Option, Some, None, ap, arith, inl, inr, is_some, length, refl, subst, sym}
use Rattle.std.proofs.lemmas.Bool.{cases_eq}
use Rattle.std.proofs.lemmas.List.{get_or_past}
use Rattle.cb_beta.proofs.Live.{live_token}
use Rattle.cb_beta.proofs.Members.{in_either, in_left, in_right, once_append}
use Rattle.cb_beta.specs.BetaMemories.{AreLiveNumbers, BetaMemoryValue, live}
use Rattle.cb_beta.specs.Internal.{AreLiveBelow}
use Rattle.cb_beta.specs.Tokens.{TokenValue, Tokens, token_at}
use Rattle.cb_matches.specs.Chains.{In}

pub some_of : {A : Type 0} (o : Option A) → is_some o ≡ true → (a : A) × (o ≡ Some a)
some_of None e = absurd (cc)
some_of (Some a) e = (a, refl)

none_of_it : {A : Type 0} {a : A} (o : Option A) → is_some o ≡ false → o ≡ Some a → ⊥
none_of_it None e h = cc
none_of_it (Some a) e h = cc

-- a token that can be read has a place
pub has_place : (ts : Tokens) (i : ℕ) (t : TokenValue) → token_at ts i ≡ Some t → i < length ts
has_place ts i t e = grind (arith, get_or_past)

module _ (m : BetaMemoryValue) where
  pub none_below : AreLiveBelow m 0 []
  none_below = record { are = λ i h. absurd h; below = λ i h. absurd h; all = λ i t l e. absurd (omega (arith, l)); once = tt }

  module _ (n : ℕ) (ns : List ℕ) (was : AreLiveBelow m n ns) where
    pub one_there : is_some (live m n) ≡ true → AreLiveBelow m (n + 1) (ns ++ n ∷ [])
    one_there there = record {
      are = λ i h. elim (in_either i ns (n ∷ []) h) as (λ _. (t : TokenValue) × (live m i ≡ Some t)) [
        | inl k ↦ was.are i k
        | inr k ↦ elim k as (λ _. (t : TokenValue) × (live m i ≡ Some t)) [
          | inl e ↦ subst (λ j. (t : TokenValue) × (live m j ≡ Some t)) (sym e) (some_of (live m n) there)
          | inr none ↦ absurd none
        ]
      ];
      below = λ i h. elim (in_either i ns (n ∷ []) h) as (λ _. i < n + 1) [
        | inl k ↦ let l = was.below i k in omega (arith, l)
        | inr k ↦ elim k as (λ _. i < n + 1) [ inl e ↦ omega (arith, e) | inr none ↦ absurd none ]
      ];
      all = λ i t l e. elim (cases_eq i n) as (λ _. In i (ns ++ n ∷ [])) [
        | inl same ↦ in_right i ns (n ∷ []) (inl same)
        | inr d ↦ in_left i ns (n ∷ []) (was.all i t (omega (arith, l, d)) e)
      ];
      once = once_append ns (n ∷ []) was.once (λ z h. absurd h, tt) (λ i h k. elim k as (λ _. ⊥) [
        | inl e ↦ let l = was.below i h in absurd (omega (arith, l, e))
        | inr none ↦ none
      ]);
    }

    pub none_there : is_some (live m n) ≡ false → AreLiveBelow m (n + 1) ns
    none_there absent = record {
      are = was.are;
      below = λ i h. let l = was.below i h in omega (arith, l);
      all = λ i t l e. elim (cases_eq i n) as (λ _. In i ns) [
        | inl same ↦ absurd (none_of_it (live m n) absent (ap (live m) (sym same) ∙ e))
        | inr d ↦ was.all i t (omega (arith, l, d)) e
      ];
      once = was.once;
    }

    -- there are no others
    pub all_there : length m.tokens ≤ n → AreLiveNumbers m ns
    all_there end = record {
      are = was.are;
      all = λ i t e. let l = has_place m.tokens i t (live_token m.tokens m.gone i t e).1 in was.all i t (omega (arith, l, end)) e;
      once = was.once;
    }
