-- What a change leaves of a list of tokens, and what a list of tokens is between changes.
use Rattle.std.proofs.Common.{◌≡◌, ◌≢◌, ◌∙◌, ◌⊎◌, ℕ, List, [], ap, inl, inr, refl, subst, sym}
use Rattle.cb_beta.proofs.Live.{live_token, some_none, there_is}
use Rattle.cb_beta.proofs.Members.{by_in, in_either, in_left, in_right}
use Rattle.cb_beta.specs.BetaMemories.{BetaMemoryValue, IsEnded, Loses, live}
use Rattle.cb_beta.specs.Tokens.{TokenValue, token_at}
use Rattle.cb_matches.specs.Chains.{Chain, In}
use Rattle.cb_matches.specs.Matches.{Partial}
use Rattle.cb_token_lists.specs.Growth.{AreTokens, Comes}
use Rattle.cb_token_lists.specs.Keeping.{AreAlike, HasSameTokens, KeepsTokens, Rests}
use Rattle.cb_token_lists.specs.Turns.{IsReadable, IsThere, StandFor, Turns, WasThere}

-- what is there can be read
pub there_read : (m : BetaMemoryValue) (i : ℕ) → IsThere m i → IsReadable m i
there_read m i h = (h.0, (live_token m.tokens m.gone i h.0 h.1).1)

-- nothing happened
pub keeps_itself : (m : BetaMemoryValue) → KeepsTokens m m
keeps_itself m = record {
  tokens = λ i t h. h;
  only = λ i h. inl h;
  was = λ i h. h;
  was_only = λ i h. h;
}

-- some went
pub lost_keeps : (old new : BetaMemoryValue) (Such : TokenValue → Type 0) → Loses old new Such → KeepsTokens old new
lost_keeps old new Such is = record {
  tokens = λ i t h. same i ∙ h;
  only = λ i h. inl (h.0, sym (same i) ∙ h.1);
  was = λ i h. ((h.0.0, same i ∙ h.0.1), λ k. h.1 (subst (In i) is.come k));
  was_only = λ i h. ((h.0.0, sym (same i) ∙ h.0.1), λ k. h.1 (subst (In i) (sym is.come) k));
}
  where
    same : (i : ℕ) → token_at new.tokens i ≡ token_at old.tokens i
    same i = ap (λ it. token_at it i) is.tokens

-- some came
pub come_keeps : (old new : BetaMemoryValue) (Such : TokenValue → Type 0) → Comes old new Such → KeepsTokens old new
come_keeps old new Such is = record {
  tokens = is.kept;
  only = λ i h. elim (is.only i h.0 h.1) as (λ _. IsReadable old i ⊎ In i new.come) [
    | inl k ↦ inl (h.0, k)
    | inr k ↦ inr (subst (In i) (sym is.come) (in_right i old.come is.more k))
  ];
  was = λ i h. (
    (h.0.0, is.kept i h.0.0 h.0.1),
    λ k. elim (in_either i old.come is.more (subst (In i) is.come k)) as (λ _. ⊥) [
      | inl l ↦ h.1 l
      | inr l ↦ some_none (token_at old.tokens i) h.0.1 (is.are i l).2
    ],
  );
  was_only = λ i h. elim (is.only i h.0.0 h.0.1) as (λ _. WasThere old i) [
    | inl k ↦ ((h.0.0, k), λ l. h.1 (subst (In i) (sym is.come) (in_left i old.come is.more l)))
    | inr k ↦ absurd (h.1 (subst (In i) (sym is.come) (in_right i old.come is.more k)))
  ];
}

-- one thing after another
pub keeps_then : (first now last : BetaMemoryValue) → KeepsTokens first now → KeepsTokens now last → KeepsTokens first last
keeps_then first now last one other = record {
  tokens = λ i t h. other.tokens i t (one.tokens i t h);
  only = λ i h. elim (by_in i last.come) as (λ _. IsReadable first i ⊎ In i last.come) [
    | inl k ↦ inr k
    | inr n ↦ inl (one.was_only i (other.was_only i (h, n))).0
  ];
  was = λ i h. other.was i (one.was i h);
  was_only = λ i h. one.was_only i (other.was_only i h);
}

-- numbers that are alike
pub alike_itself : (at : ℕ → Partial) (There : ℕ → Type 0) → AreAlike at at There There
alike_itself at There = record { to = λ i h. h; from = λ i h. h; same = λ i h. refl }

pub alike_back : (at at' : ℕ → Partial) (There There' : ℕ → Type 0) → AreAlike at at' There There' → AreAlike at' at There' There
alike_back at at' There There' a = record { to = a.from; from = a.to; same = λ i h. sym (a.same i (a.from i h)) }

pub alike_then : (at at' at'' : ℕ → Partial) (There There' There'' : ℕ → Type 0) → AreAlike at at' There There' → AreAlike at' at'' There' There'' → AreAlike at at'' There There''
alike_then at at' at'' There There' There'' a b = record {
  to = λ i h. b.to i (a.to i h);
  from = λ i h. a.from i (b.from i h);
  same = λ i h. a.same i h ∙ b.same i (a.to i h);
}

-- where nothing went or came, what was there, what is there and what can be read are one
module _ (m : BetaMemoryValue) (none_gone : m.gone ≡ []) (none_come : m.come ≡ []) where
  pub read_is_there : (i : ℕ) → IsReadable m i → IsThere m i
  read_is_there i h = (h.0, there_is m.tokens m.gone i (λ k. subst (In i) none_gone k) ∙ h.1)

  pub read_was_there : (i : ℕ) → IsReadable m i → WasThere m i
  read_was_there i h = (h, λ k. subst (In i) none_come k)

  pub was_is_there : (i : ℕ) → WasThere m i → IsThere m i
  was_is_there i h = read_is_there i h.0

  pub is_was_there : (i : ℕ) → IsThere m i → WasThere m i
  is_was_there i h = read_was_there i (there_read m i h)

-- the numbers stand for the same, by the same or another word
pub stand_alike : (at at' : ℕ → Partial) (There There' : ℕ → Type 0) (ms : List Partial) → AreAlike at at' There There' → StandFor at There ms → StandFor at' There' ms
stand_alike at at' There There' ms a is = record {
  to = λ i h. let k = a.from i h in subst (λ z. In z ms) (a.same i k) (is.to i k);
  from = λ z h. let k = is.from z h in (k.0, a.to k.0 k.1, k.2 ∙ a.same k.0 k.1);
}

-- from rest to a change in which nothing happened yet
pub rests_turns : (at : ℕ → Partial) (m : BetaMemoryValue) (ms : List Partial) → Rests at m ms → Turns at m ms ms
rests_turns at m ms is = record {
  was = stand_alike at at (IsThere m) (WasThere m) ms
      (record { to = is_was_there m is.none_gone is.none_come; from = was_is_there m is.none_gone is.none_come; same = λ i h. refl }) is.is;
  is = is.is;
  one = λ i j h k e. is.one i j (read_is_there m is.none_gone is.none_come i h) (read_is_there m is.none_gone is.none_come j k) e;
  went = λ i h. absurd (subst (In i) is.none_gone h);
  came = λ i h. absurd (subst (In i) is.none_come h);
  gone_once = subst (Chain (λ (i : ℕ) (j : ℕ). i ≢ j)) (sym is.none_gone) tt;
  come_once = subst (Chain (λ (i : ℕ) (j : ℕ). i ≢ j)) (sym is.none_come) tt;
}

-- at its end what is there is the same
module _ (m m' : BetaMemoryValue) (ended : IsEnded m m') where
  pub ended_live : (i : ℕ) → live m' i ≡ live m i
  ended_live i = there_is m'.tokens m'.gone i (λ h. subst (In i) ended.gone h) ∙ ended.tokens i

  pub ended_same : HasSameTokens m m'
  ended_same = record {
    live = ended_live;
    readable = λ i t h. (live_token m.tokens m.gone i t (sym (ended.tokens i) ∙ h)).1;
  }

  pub ended_there : (i : ℕ) → IsThere m i → IsThere m' i
  ended_there i h = (h.0, ended_live i ∙ h.1)

  pub there_ended : (i : ℕ) → IsThere m' i → IsThere m i
  there_ended i h = (h.0, sym (ended_live i) ∙ h.1)

  -- and the list rests
  pub turns_rest : (at : ℕ → Partial) (old new : List Partial) → Turns at m old new → Rests at m' new
  turns_rest at old new turns = record {
    is = stand_alike at at (IsThere m) (IsThere m') new (record { to = ended_there; from = there_ended; same = λ i h. refl }) turns.is;
    one = λ i j h k e. turns.one i j (there_read m i (there_ended i h)) (there_read m j (there_ended j k)) e;
    none_gone = ended.gone;
    none_come = ended.come;
  }

-- the same where the numbers that can be read stand for the same
pub turns_alike : (at at' : ℕ → Partial) (m : BetaMemoryValue) (old new : List Partial) → ((i : ℕ) → IsReadable m i → at i ≡ at' i) → Turns at m old new → Turns at' m old new
turns_alike at at' m old new same is = record {
  was = stand_alike at at' (WasThere m) (WasThere m) old (record { to = λ i h. h; from = λ i h. h; same = λ i h. same i h.0 }) is.was;
  is = stand_alike at at' (IsThere m) (IsThere m) new (record { to = λ i h. h; from = λ i h. h; same = λ i h. same i (there_read m i h) }) is.is;
  one = λ i j h k e. is.one i j h k (ap (λ (it : Partial). it.parts) (same i h) ∙ (e ∙ sym (ap (λ (it : Partial). it.parts) (same j k))));
  went = is.went;
  came = is.came;
  gone_once = is.gone_once;
  come_once = is.come_once;
}

pub rests_alike : (at at' : ℕ → Partial) (m : BetaMemoryValue) (ms : List Partial) → ((i : ℕ) → IsThere m i → at i ≡ at' i) → Rests at m ms → Rests at' m ms
rests_alike at at' m ms same is = record {
  is = stand_alike at at' (IsThere m) (IsThere m) ms (record { to = λ i h. h; from = λ i h. h; same = same }) is.is;
  one = λ i j h k e. is.one i j h k (ap (λ (it : Partial). it.parts) (same i h) ∙ (e ∙ sym (ap (λ (it : Partial). it.parts) (same j k))));
  none_gone = is.none_gone;
  none_come = is.none_come;
}

-- tokens that are just those that are such stay so, where the same are there, by the same or another word
pub tokens_stay : (own own' : BetaMemoryValue) (Such Other : TokenValue → Type 0) → ((t : TokenValue) → Such t → Other t) → ((t : TokenValue) → Other t → Such t) → HasSameTokens own own'
    → AreTokens own Such → AreTokens own' Other
tokens_stay own own' Such Other to from same is = record {
  are = λ i t h. to t (is.are i t (sym (same.live i) ∙ h));
  all = λ t h. let i = is.all t (from t h) in (i.0, same.live i.0 ∙ i.1);
  one = λ i j t e d. is.one i j t (same.readable i t e) (same.readable j t d);
}

-- the same tokens are there
pub same_itself : (m : BetaMemoryValue) → HasSameTokens m m
same_itself m = record { live = λ i. refl; readable = λ i t h. h }

pub same_then : (first now last : BetaMemoryValue) → HasSameTokens first now → HasSameTokens now last → HasSameTokens first last
same_then first now last one other = record {
  live = λ i. other.live i ∙ one.live i;
  readable = λ i t h. one.readable i t (other.readable i t h);
}
