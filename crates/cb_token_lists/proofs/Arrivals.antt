-- What comes to a beta memory in several steps.
use Rattle.std.proofs.Common.{◌≡◌, ◌≢◌, ◌∙◌, ◌++◌, ◌+◌, ◌⊎◌, ◌<◌, ℕ, zero, suc, List, [], ◌∷◌, Option, Some, None, ap, append-nil, arith, get_or, inl, inr, length, refl, subst, sym, take}
use Rattle.std.proofs.lemmas.Bool.{cases_eq}
use Rattle.std.proofs.lemmas.List.{append_assoc}
use Rattle.cb_beta.proofs.Live.{some_none}
use Rattle.cb_beta.proofs.Members.{in_either, in_left, in_more, in_right, more_in, once_append}
use Rattle.cb_beta.specs.BetaMemories.{BetaMemoryValue, Gains}
use Rattle.cb_beta.specs.Tokens.{TokenValue, token_at}
use Rattle.cb_matches.proofs.Lists.{in_at}
use Rattle.cb_matches.specs.Chains.{Chain, In}
use Rattle.cb_token_lists.specs.Growth.{Comes}

-- nothing comes
pub none_come : (m : BetaMemoryValue) (Such : TokenValue → Type 0) → ((t : TokenValue) → Such t → ⊥) → Comes m m Such
none_come m Such none = record {
  more = [];
  come = sym (append-nil m.come);
  gone = refl;
  kept = λ i t h. h;
  only = λ i t h. inl h;
  are = λ i h. absurd h;
  all = λ t such. absurd (none t such);
  one = λ i j t h. absurd h;
  once = tt;
}

-- one comes
pub one_comes : (old new : BetaMemoryValue) (number : ℕ) (u : TokenValue) → Gains old new number u → Comes old new (λ t. t ≡ u)
one_comes old new number u is = record {
  more = number ∷ [];
  come = is.come;
  gone = is.gone;
  kept = λ i t h. is.others i (λ e. some_none (token_at old.tokens i) h (ap (token_at old.tokens) e ∙ is.free)) ∙ h;
  only = λ i t h. elim (cases_eq i number) as (λ _. (token_at old.tokens i ≡ Some t) ⊎ In i (number ∷ [])) [
    | inl e ↦ inr (inl e)
    | inr d ↦ inl (sym (is.others i d) ∙ h)
  ];
  are = λ i h. let e = the_one i h in (u, ap (token_at new.tokens) e ∙ is.there, ap (token_at old.tokens) e ∙ is.free, refl);
  all = λ t e. (number, inl refl, is.there ∙ ap Some (sym e));
  one = λ i j t h k _ _. the_one i h ∙ sym (the_one j k);
  once = (λ z h. absurd h, tt);
}
  where
    the_one : (i : ℕ) → In i (number ∷ []) → i ≡ number
    the_one i (inl e) = e
    the_one i (inr h) = absurd h

-- the same by another word
pub come_alike : (old new : BetaMemoryValue) (Such Other : TokenValue → Type 0) → ((t : TokenValue) → Such t → Other t) → ((t : TokenValue) → Other t → Such t) → Comes old new Such → Comes old new Other
come_alike old new Such Other to from is = record {
  more = is.more;
  come = is.come;
  gone = is.gone;
  kept = is.kept;
  only = is.only;
  are = λ i h. let a = is.are i h in (a.0, a.1, a.2, to a.0 a.3);
  all = λ t other. is.all t (from t other);
  one = is.one;
  once = is.once;
}

pub one_token : (m : BetaMemoryValue) (i : ℕ) (t u : TokenValue) → token_at m.tokens i ≡ Some t → token_at m.tokens i ≡ Some u → t ≡ u
one_token m i t u e f = let both : Some t ≡ Some u = sym e ∙ f in cc

-- of a list without doubles the next is not among those before
pub next_apart : (xs : List ℕ) (i : ℕ) → i < length xs → Chain (λ (j : ℕ) (k : ℕ). j ≢ k) xs → In (get_or xs i 0) (take i xs) → ⊥
next_apart [] i l once h = absurd (omega (arith, l))
next_apart (x ∷ xs) zero l once h = absurd h
next_apart (x ∷ xs) (suc i) l once (inl e) = once.0 (get_or xs i 0) (in_at xs i 0 (omega (arith, l))) (sym e)
next_apart (x ∷ xs) (suc i) l once (inr h) = next_apart xs i (omega (arith, l)) once.1 h

-- first such, and then others
module _ (old now new : BetaMemoryValue) (Such Other : TokenValue → Type 0) (first : Comes old now Such) (second : Comes now new Other) where
  first_not_second : (i : ℕ) → In i first.more → In i second.more → ⊥
  first_not_second i h k =
      let a = first.are i h in
      let b = second.are i k in
      some_none (token_at now.tokens i) a.1 b.2

  pub come_then : ((t : TokenValue) → Such t → Other t → ⊥) → Comes old new (λ t. Such t ⊎ Other t)
  come_then apart = record {
    more = first.more ++ second.more;
    come = second.come ∙ (ap (λ it. it ++ second.more) first.come ∙ append_assoc old.come first.more second.more);
    gone = second.gone ∙ first.gone;
    kept = λ i t h. second.kept i t (first.kept i t h);
    only = λ i t h. elim (second.only i t h) as (λ _. (token_at old.tokens i ≡ Some t) ⊎ In i (first.more ++ second.more)) [
      | inr k ↦ inr (in_right i first.more second.more k)
      | inl k ↦ elim (first.only i t k) as (λ _. (token_at old.tokens i ≡ Some t) ⊎ In i (first.more ++ second.more)) [
        | inl l ↦ inl l
        | inr l ↦ inr (in_left i first.more second.more l)
      ]
    ];
    are = λ i h. elim (in_either i first.more second.more h) as (λ _. (t : TokenValue) × (token_at new.tokens i ≡ Some t) × (token_at old.tokens i ≡ None) × (Such t ⊎ Other t)) [
      | inl k ↦ let a = first.are i k in (a.0, second.kept i a.0 a.1, a.2, inl a.3)
      | inr k ↦ let a = second.are i k in (a.0, a.1, free_before i a.2, inr a.3)
    ];
    all = λ t such. elim such as (λ _. (i : ℕ) × In i (first.more ++ second.more) × (token_at new.tokens i ≡ Some t)) [
      | inl k ↦ let a = first.all t k in (a.0, in_left a.0 first.more second.more a.1, second.kept a.0 t a.2)
      | inr k ↦ let a = second.all t k in (a.0, in_right a.0 first.more second.more a.1, a.2)
    ];
    one = λ i j t h k e f. elim (in_either i first.more second.more h) as (λ _. i ≡ j) [
      | inl a ↦ elim (in_either j first.more second.more k) as (λ _. i ≡ j) [
        | inl b ↦ first.one i j t a b (first_is i t a e) (first_is j t b f)
        | inr b ↦ absurd (apart t (first_such i t a e) (second_such j t b f))
      ]
      | inr a ↦ elim (in_either j first.more second.more k) as (λ _. i ≡ j) [
        | inl b ↦ absurd (apart t (first_such j t b f) (second_such i t a e))
        | inr b ↦ second.one i j t a b e f
      ]
    ];
    once = once_append first.more second.more first.once second.once first_not_second;
  }
    where
      first_is : (i : ℕ) (t : TokenValue) → In i first.more → token_at new.tokens i ≡ Some t → token_at now.tokens i ≡ Some t
      first_is i t h e = let a = first.are i h in a.1 ∙ (sym (second.kept i a.0 a.1) ∙ e)

      first_such : (i : ℕ) (t : TokenValue) → In i first.more → token_at new.tokens i ≡ Some t → Such t
      first_such i t h e = let a = first.are i h in subst Such (one_token new i a.0 t (second.kept i a.0 a.1) e) a.3

      second_such : (i : ℕ) (t : TokenValue) → In i second.more → token_at new.tokens i ≡ Some t → Other t
      second_such i t h e = let a = second.are i h in subst Other (one_token new i a.0 t a.1 e) a.3

      free_before : (i : ℕ) → token_at now.tokens i ≡ None → token_at old.tokens i ≡ None
      free_before i none = by_token (token_at old.tokens i) refl
        where
          by_token : (o : Option TokenValue) → token_at old.tokens i ≡ o → token_at old.tokens i ≡ None
          by_token None e = e
          by_token (Some t) e = some_none (token_at now.tokens i) (first.kept i t e) none

-- one of a list of numbers more, where what comes of one says which it is
pub one_more_comes : (old now new : BetaMemoryValue) (P : ℕ → TokenValue → Type 0) → ((j k : ℕ) (t : TokenValue) → P j t → P k t → j ≡ k)
    → (xs : List ℕ) (i : ℕ) → i < length xs → Chain (λ (j : ℕ) (k : ℕ). j ≢ k) xs → Comes old now (λ t. (k : ℕ) × In k (take i xs) × P k t)
    → Comes now new (P (get_or xs i 0)) → Comes old new (λ t. (k : ℕ) × In k (take (i + 1) xs) × P k t)
one_more_comes old now new P differ xs i l once first second =
    come_alike old new (λ t. ((k : ℕ) × In k (take i xs) × P k t) ⊎ P (get_or xs i 0) t) (λ t. (k : ℕ) × In k (take (i + 1) xs) × P k t)
    (λ t h. elim h as (λ _. (k : ℕ) × In k (take (i + 1) xs) × P k t) [
      | inl k ↦ (k.0, in_more xs i k.0 l (inl k.1), k.2)
      | inr k ↦ (get_or xs i 0, in_more xs i (get_or xs i 0) l (inr refl), k)
    ])
    (λ t h. elim (more_in xs i h.0 l h.1) as (λ _. ((k : ℕ) × In k (take i xs) × P k t) ⊎ P (get_or xs i 0) t) [
      | inl k ↦ inl (h.0, k, h.2)
      | inr e ↦ inr (subst (λ it. P it t) e h.2)
    ])
    (come_then old now new (λ t. (k : ℕ) × In k (take i xs) × P k t) (P (get_or xs i 0)) first second
    (λ t h k. next_apart xs i l once (subst (λ it. In it (take i xs)) (differ h.0 (get_or xs i 0) t h.2 k) h.1)))
