-- What a list that turned tells: what it holds, and what went and came.
use Rattle.std.proofs.Common.{◌≡◌, ◌≢◌, ◌∙◌, ◌<◌, ◌⊎◌, ℕ, zero, suc, true, List, [], ◌∷◌, Option, Some, None, ap, arith, inl, inr, is_some, length, map, refl, subst, sym}
use Rattle.std.proofs.lemmas.Bool.{cases_eq}
use Rattle.std.proofs.lemmas.List.{get_or_past}
use Rattle.cb_beta.proofs.Live.{live_token, there_is}
use Rattle.cb_beta.proofs.Members.{by_in}
use Rattle.cb_beta.specs.BetaMemories.{BetaMemoryValue, live}
use Rattle.cb_beta.specs.Tokens.{TokenValue, Tokens, token_at}
use Rattle.cb_matches.proofs.Lists.{chain_filter, filter_in, in_filter, in_map, map_in}
use Rattle.cb_matches.specs.Chains.{Chain, In}
use Rattle.cb_matches.specs.Matches.{Partial}
use Rattle.cb_matches.specs.Order.{IsOnce}
use Rattle.cb_nodes.specs.Changes.{Holds, PartialMoves}
use Rattle.cb_token_lists.specs.Turns.{IsReadable, IsThere, Turns, numbers, up_to}

below : (i n : ℕ) → i < n → In i (up_to n)
below i zero l = absurd (omega (arith, l))
below i (suc n) l = elim (cases_eq i n) as (λ _. In i (n ∷ up_to n)) [
  | inl e ↦ inl e
  | inr d ↦ inr (below i n (omega (arith, l, d)))
]

some_of : {A : Type 0} (o : Option A) → is_some o ≡ true → (a : A) × (o ≡ Some a)
some_of None e = absurd (cc)
some_of (Some a) e = (a, refl)

within : (ts : Tokens) (i : ℕ) (t : TokenValue) → token_at ts i ≡ Some t → i < length ts
within ts i t e = grind (arith, get_or_past)

lower : (n z : ℕ) → In z (up_to n) → z < n
lower zero z h = absurd h
lower (suc n) z (inl e) = omega (arith, e)
lower (suc n) z (inr h) = let l = lower n z h in omega (arith, l)

apart_up_to : (n : ℕ) → Chain (λ (i : ℕ) (j : ℕ). i ≢ j) (up_to n)
apart_up_to zero = tt
apart_up_to (suc n) = (λ z h e. let l = lower n z h in absurd (omega (arith, l, e)), apart_up_to n)

-- the numbers of the tokens that are there, none twice
module _ (m : BetaMemoryValue) where
  pub in_numbers : (i : ℕ) → In i (numbers m) → IsThere m i
  in_numbers i h = some_of (live m i) (in_filter (λ j. is_some (live m j)) i (up_to (length m.tokens)) h).1

  pub numbers_in : (i : ℕ) → IsThere m i → In i (numbers m)
  numbers_in i h =
      filter_in (λ j. is_some (live m j)) i (up_to (length m.tokens))
      (below i (length m.tokens) (within m.tokens i h.0 (live_token m.tokens m.gone i h.0 h.1).1)) (ap is_some h.1)

  pub numbers_apart : Chain (λ (i : ℕ) (j : ℕ). i ≢ j) (numbers m)
  numbers_apart = chain_filter (λ (i : ℕ) (j : ℕ). i ≢ j) (λ i. is_some (live m i)) (up_to (length m.tokens)) (apart_up_to (length m.tokens))

module _ (at : ℕ → Partial) (m : BetaMemoryValue) (old new : List Partial) (turns : Turns at m old new) where
  there_read : (i : ℕ) → IsThere m i → IsReadable m i
  there_read i h = (h.0, (live_token m.tokens m.gone i h.0 h.1).1)

  -- what went and what came
  pub told : PartialMoves old new (map at m.gone) (map at m.come)
  told = record {
    stays = λ z h. let i = turns.was.from z h in elim (by_in i.0 m.gone) as (λ _. In z new ⊎ In z (map at m.gone)) [
      | inl k ↦ inr (subst (λ it. In it (map at m.gone)) (sym i.2) (map_in at m.gone i.0 k))
      | inr k ↦ inl (subst (λ it. In it new) (sym i.2) (turns.is.to i.0 (i.1.0.0, there_is m.tokens m.gone i.0 k ∙ i.1.0.1)))
    ];
    came = λ z h. let i = turns.is.from z h in elim (by_in i.0 m.come) as (λ _. In z old ⊎ In z (map at m.come)) [
      | inl k ↦ inr (subst (λ it. In it (map at m.come)) (sym i.2) (map_in at m.come i.0 k))
      | inr k ↦ inl (subst (λ it. In it old) (sym i.2) (turns.was.to i.0 (there_read i.0 i.1, k)))
    ];
    gone_old = λ z h. let i = in_map at z m.gone h in subst (λ it. In it old) (sym i.2) (turns.was.to i.0 (turns.went i.0 i.1));
    come_new = λ z h. let i = in_map at z m.come h in subst (λ it. In it new) (sym i.2) (turns.is.to i.0 (turns.came i.0 i.1));
    gone_apart = λ z y h k e.
        let i = in_map at z m.gone h in
        let j = turns.is.from y k in
        let same : i.0 ≡ j.0 = turns.one i.0 j.0 (turns.went i.0 i.1).0 (there_read j.0 j.1) (ap (λ it. it.parts) (sym i.2) ∙ (e ∙ ap (λ it. it.parts) j.2)) in
        (live_token m.tokens m.gone j.0 j.1.0 j.1.1).0 (subst (λ n. In n m.gone) same i.1);
    come_apart = λ z y h k e.
        let i = in_map at z m.come h in
        let j = turns.was.from y k in
        let same : i.0 ≡ j.0 = turns.one i.0 j.0 (there_read i.0 (turns.came i.0 i.1)) j.1.0 (ap (λ it. it.parts) (sym i.2) ∙ (e ∙ ap (λ it. it.parts) j.2)) in
        j.1.1 (subst (λ n. In n m.come) same i.1);
  }

  -- numbers none of which is there twice stand for partial matches none of which is there twice
  once_by_number : (xs : List ℕ) → Chain (λ (i : ℕ) (j : ℕ). i ≢ j) xs → ((i : ℕ) → In i xs → IsReadable m i) → IsOnce (map at xs)
  once_by_number [] apart read = tt
  once_by_number (n ∷ ns) apart read = (
    λ z h e. let j = in_map at z ns h in apart.0 j.0 j.1 (turns.one n j.0 (read n (inl refl)) (read j.0 (inr j.1)) (e ∙ ap (λ it. it.parts) j.2)),
    once_by_number ns apart.1 (λ i h. read i (inr h)),
  )

  pub gone_told_once : IsOnce (map at m.gone)
  gone_told_once = once_by_number m.gone turns.gone_once (λ i h. (turns.went i h).0)

  pub come_told_once : IsOnce (map at m.come)
  come_told_once = once_by_number m.come turns.come_once (λ i h. there_read i (turns.came i h))

  -- what it holds
  pub held : Holds (map at (numbers m)) new
  held = record {
    same = (
      λ z h. let i = in_map at z (numbers m) h in subst (λ it. In it new) (sym i.2) (turns.is.to i.0 (in_numbers m i.0 i.1)),
      λ z h. let i = turns.is.from z h in subst (λ it. In it (map at (numbers m))) (sym i.2) (map_in at (numbers m) i.0 (numbers_in m i.0 i.1)),
    );
    once = once_by_number (numbers m) (numbers_apart m) (λ i h. there_read i (in_numbers m i h));
  }
