-- How a change of all lists begins.
use Rattle.std.proofs.Common.{◌≡◌, ◌≢◌, ◌∙◌, ◌++◌, ℕ, suc, List, [], ◌∷◌, Some, None, ap, arith, inl, inr, refl, slice_get, subst, sym}
use Rattle.std.proofs.lemmas.Bool.{cases_eq}
use Rattle.cb_beta.proofs.Live.{there_is}
use Rattle.cb_beta.specs.BetaMemories.{BetaMemoryValue, Gains}
use Rattle.cb_beta.specs.Tokens.{TokenValue, token_at}
use Rattle.cb_list_changes.proofs.Places.{list_of, one_at, one_some, same_tokens}
use Rattle.cb_list_changes.proofs.Steps.{put_extends}
use Rattle.cb_list_changes.specs.Halfway.{AreHalfway}
use Rattle.cb_list_changes.specs.Resting.{AreResting, IsPut}
use Rattle.cb_matches.specs.Chains.{Chain, In}
use Rattle.cb_matches.specs.Matches.{Partial, no_parts}
use Rattle.cb_nodes.specs.Flat.{Lists}
use Rattle.cb_token_lists.proofs.Keeping.{keeps_itself, read_is_there, rests_turns}
use Rattle.cb_token_lists.specs.Keeping.{KeepsTokens, Rests}
use Rattle.cb_token_lists.specs.Partials.{AreBelow, SourceValue, partial_at}
use Rattle.cb_token_lists.specs.Turns.{IsReadable, IsThere, Turns}

abbrev empty_memory : BetaMemoryValue
empty_memory = record { tokens = []; gone = []; come = [] }

none_read : (i : ℕ) (t : TokenValue) → token_at [] i ≡ Some t → ⊥
none_read i t e = let no : None ≡ Some t = e in cc

none_there : (i : ℕ) → IsThere empty_memory i → ⊥
none_there i h = let no : None ≡ Some h.0 = h.1 in cc

empty_rests : (at : ℕ → Partial) → Rests at empty_memory []
empty_rests at = record {
  is = record { to = λ i h. absurd (none_there i h); from = λ z h. absurd h };
  one = λ i j h k e. absurd (none_there i h);
  none_gone = refl;
  none_come = refl;
}

-- lists without tokens
pub empty_rest : (sources : List SourceValue) (lists : List BetaMemoryValue) (ls : Lists) → AreBelow sources
    → ((j : ℕ) (m : BetaMemoryValue) → slice_get lists j ≡ Some m → m ≡ empty_memory) → ((j : ℕ) → ls j ≡ []) → AreResting sources lists ls
empty_rest sources lists ls below empty nothing = record {
  each = λ j m is. subst (λ it. Rests (partial_at sources lists j) m it) (sym (nothing j)) (subst (λ it. Rests (partial_at sources lists j) it []) (sym (empty j m is)) (empty_rests (partial_at sources lists j)));
  rooted = record {
    below = below;
    parents = λ k i s t is there.
        let m = list_of lists (suc k) i t there in
        absurd (none_read i t (ap (λ (it : BetaMemoryValue). token_at it.tokens i) (sym (empty (suc k) m.0 m.1)) ∙ m.2));
  };
}

-- a change of facts leaves the list before the first element as it is
pub change_begins : (sources : List SourceValue) (lists : List BetaMemoryValue) (old new : Lists) → AreResting sources lists old → old 0 ≡ new 0 → AreHalfway sources lists lists old new 0
change_begins sources lists old new rest same = record {
  long = refl;
  turned = λ j m l is.
      let none : 0 ≡ j = omega (arith, l) in
      let first : slice_get lists 0 ≡ Some m = ap (slice_get lists) none ∙ is in
      subst (λ n. Turns (partial_at sources lists n) m (old n) (new n)) none
      (subst (λ it. Turns (partial_at sources lists 0) m (old 0) it) same (rests_turns (partial_at sources lists 0) m (old 0) (rest.each 0 m first)));
  keeps = λ j m m' is is'. subst (λ it. KeepsTokens m it) (one_at lists j m m' is is') (keeps_itself m);
  others = λ j l. refl;
  rooted = rest.rooted;
  parents = λ j i s from own t l is from_is own_is there. absurd (omega (arith, l));
}

-- and a filling brings one token to it
module _ (sources : List SourceValue) (before lists : List BetaMemoryValue) (old new : Lists) (m first : BetaMemoryValue) (number : ℕ) (t : TokenValue)
    (rest : AreResting sources before old) (nothing : old 0 ≡ []) (one : new 0 ≡ no_parts ∷ []) (is : slice_get before 0 ≡ Some m) (gains : Gains m first number t)
    (put : IsPut before lists 0 first) where
  rests : Rests (partial_at sources before 0) m []
  rests = subst (λ it. Rests (partial_at sources before 0) m it) nothing (rest.each 0 m is)

  nothing_read : (i : ℕ) → IsReadable m i → ⊥
  nothing_read i h = rests.is.to i (read_is_there m rests.none_gone rests.none_come i h)

  its_number : (i : ℕ) → IsReadable first i → i ≡ number
  its_number i h = elim (cases_eq i number) as (λ _. i ≡ number) [
    | inl e ↦ e
    | inr n ↦ absurd (nothing_read i (h.0, sym (gains.others i n) ∙ h.1))
  ]

  come_is : first.come ≡ number ∷ []
  come_is = gains.come ∙ ap (λ it. it ++ number ∷ []) rests.none_come

  gone_is : first.gone ≡ []
  gone_is = gains.gone ∙ rests.none_gone

  it_came : (i : ℕ) → IsReadable first i → In i first.come
  it_came i h = subst (In i) (sym come_is) (inl (its_number i h))

  it_is_there : IsThere first number
  it_is_there = (t, there_is first.tokens first.gone number (λ k. subst (In number) gone_is k) ∙ gains.there)

  there_number : (i : ℕ) → In i first.come → i ≡ number
  there_number i h = elim (subst (In i) come_is h) as (λ _. i ≡ number) [ inl e ↦ e | inr k ↦ absurd k ]

  first_turned : (at : ℕ → Partial) → ((i : ℕ) → at i ≡ no_parts) → Turns at first [] (no_parts ∷ [])
  first_turned at stands = record {
    was = record { to = λ i h. absurd (h.1 (it_came i h.0)); from = λ z h. absurd h };
    is = record {
      to = λ i h. inl (stands i);
      from = λ z h. elim h as (λ _. (i : ℕ) × IsThere first i × (z ≡ at i)) [ inl e ↦ (number, it_is_there, e ∙ sym (stands number)) | inr k ↦ absurd k ];
    };
    one = λ i j h k e. its_number i h ∙ sym (its_number j k);
    went = λ i h. absurd (subst (In i) gone_is h);
    came = λ i h. subst (IsThere first) (sym (there_number i h)) it_is_there;
    gone_once = subst (Chain (λ (i : ℕ) (j : ℕ). i ≢ j)) (sym gone_is) tt;
    come_once = subst (Chain (λ (i : ℕ) (j : ℕ). i ≢ j)) (sym come_is) (λ z h. absurd h, tt);
  }

  first_keeps : KeepsTokens m first
  first_keeps = record {
    tokens = λ i u e. absurd (nothing_read i (u, e));
    only = λ i h. inr (it_came i h);
    was = λ i h. absurd (nothing_read i h.0);
    was_only = λ i h. absurd (h.1 (it_came i h.0));
  }

  pub filling_begins : AreHalfway sources before lists old new 0
  filling_begins = record {
    long = put.long;
    turned = λ j n l at.
        let none : 0 ≡ j = omega (arith, l) in
        let here : first ≡ n = one_some (sym put.there ∙ (ap (slice_get lists) none ∙ at)) in
        subst (λ i. Turns (partial_at sources lists i) n (old i) (new i)) none
        (subst (λ it. Turns (partial_at sources lists 0) it (old 0) (new 0)) here
        (subst (λ it. Turns (partial_at sources lists 0) first it (new 0)) (sym nothing)
        (subst (λ it. Turns (partial_at sources lists 0) first [] it) (sym one) (first_turned (partial_at sources lists 0) (λ i. refl)))));
    keeps = λ j n n' at at'. elim (cases_eq j 0) as (λ _. KeepsTokens n n') [
      | inl e ↦
          let was : m ≡ n = one_some (sym is ∙ (ap (slice_get before) (sym e) ∙ at)) in
          let here : first ≡ n' = one_some (sym put.there ∙ (ap (slice_get lists) (sym e) ∙ at')) in
          subst (λ it. KeepsTokens it n') was (subst (λ it. KeepsTokens m it) here first_keeps)
      | inr d ↦ subst (λ it. KeepsTokens n it) (one_some (sym at ∙ (sym (put.others j d) ∙ at'))) (keeps_itself n)
    ];
    others = λ j l. put.others j (λ e. absurd (omega (arith, l, e)));
    rooted = record {
      below = rest.rooted.below;
      parents = λ k i s u at there.
          let same = same_tokens before lists (suc k) (put.others (suc k) (λ e. absurd (omega (arith, e)))) in
          let v = rest.rooted.parents k i s u at (ap (λ ts. token_at ts i) (sym same) ∙ there) in
          (v.0, put_extends before lists 0 m first is first_keeps put s.from u.parent v.0 v.1);
    };
    parents = λ j i s from own u l at from_is own_is there. absurd (omega (arith, l));
  }
