-- What goes from a beta memory in two steps.
use Rattle.std.proofs.Common.{◌≡◌, ◌∙◌, ◌++◌, ◌+◌, ◌⊎◌, ◌<◌, ℕ, List, [], Some, Result, Ok, Err, OnOk, ap, append-nil, get_or, inl, inr, length, refl, sym, take}
use Rattle.std.proofs.lemmas.List.{append_assoc}
use Rattle.cb_beta.proofs.Live.{gone_is, live_more, some_none}
use Rattle.cb_beta.proofs.Members.{by_in, in_either, in_left, in_more, in_right, more_in, once_append}
use Rattle.cb_beta.specs.BetaMemories.{BetaMemoryValue, Loses, live, live_in}
use Rattle.cb_beta.specs.Tokens.{TokenValue}
use Rattle.cb_matches.specs.Chains.{In}

-- what is there after such went
module _ (old now : BetaMemoryValue) (Such : TokenValue → Type 0) (first : Loses old now Such) where
  now_is : (i : ℕ) → live now i ≡ live_in old.tokens (old.gone ++ first.more) i
  now_is i = ap (λ s. live_in s now.gone i) first.tokens ∙ ap (λ g. live_in old.tokens g i) first.gone

  pub stayed : (i : ℕ) (t : TokenValue) → live now i ≡ Some t → (live old i ≡ Some t) × (In i first.more → ⊥)
  stayed i t e = elim (by_in i first.more) as (λ _. (live old i ≡ Some t) × (In i first.more → ⊥)) [
    | inl h ↦ some_none (live now i) e (now_is i ∙ gone_is old.tokens (old.gone ++ first.more) i (in_right i old.gone first.more h))
    | inr n ↦ (sym (now_is i ∙ live_more old.tokens old.gone first.more i n) ∙ e, n)
  ]

  pub still_there : (i : ℕ) (t : TokenValue) → live old i ≡ Some t → (In i first.more → ⊥) → live now i ≡ Some t
  still_there i t e n = now_is i ∙ (live_more old.tokens old.gone first.more i n ∙ e)

  pub then : (new : BetaMemoryValue) (Other : TokenValue → Type 0) → Loses now new Other → Loses old new (λ t. Such t ⊎ Other t)
  then new Other second = record {
    more = first.more ++ second.more;
    gone = second.gone ∙ (ap (λ it. it ++ second.more) first.gone ∙ append_assoc old.gone first.more second.more);
    are = λ i h. elim (in_either i first.more second.more h) as (λ _. (t : TokenValue) × (live old i ≡ Some t) × (Such t ⊎ Other t)) [
      | inl k ↦ let a = first.are i k in (a.0, a.1, inl a.2)
      | inr k ↦ let a = second.are i k in (a.0, (stayed i a.0 a.1).0, inr a.2)
    ];
    all = λ i t e such. elim (by_in i first.more) as (λ _. In i (first.more ++ second.more)) [
      | inl h ↦ in_left i first.more second.more h
      | inr n ↦ elim such as (λ _. In i (first.more ++ second.more)) [
        | inl k ↦ absurd (n (first.all i t e k))
        | inr k ↦ in_right i first.more second.more (second.all i t (still_there i t e n) k)
      ]
    ];
    once = once_append first.more second.more first.once second.once (λ i h k. let a = second.are i k in (stayed i a.0 a.1).1 h);
    tokens = second.tokens ∙ first.tokens;
    come = second.come ∙ first.come;
  }

-- what holds where a call succeeds
pub on_ok : {A E P Q : Type 0} (r : Result A E) → (P → Q) → OnOk r P → OnOk r Q
on_ok (Ok a) f h = f h
on_ok (Err e) f h = h

-- the same by another word
pub alike : (old new : BetaMemoryValue) (Such Other : TokenValue → Type 0) → ((t : TokenValue) → Such t → Other t) → ((t : TokenValue) → Other t → Such t) → Loses old new Such → Loses old new Other
alike old new Such Other to from is = record {
  more = is.more;
  gone = is.gone;
  are = λ i h. let a = is.are i h in (a.0, a.1, to a.0 a.2);
  all = λ i t e other. is.all i t e (from t other);
  once = is.once;
  tokens = is.tokens;
  come = is.come;
}

-- nothing goes
pub none_lost : (m : BetaMemoryValue) (Such : TokenValue → Type 0) → ((t : TokenValue) → Such t → ⊥) → Loses m m Such
none_lost m Such none = record {
  more = [];
  gone = sym (append-nil m.gone);
  are = λ i h. absurd h;
  all = λ i t e such. absurd (none t such);
  once = tt;
  tokens = refl;
  come = refl;
}

-- what goes on from one number more
pub one_more : (old now new : BetaMemoryValue) (xs : List ℕ) (i : ℕ) → i < length xs → Loses old now (λ t. In t.parent (take i xs)) → Loses now new (λ t. t.parent ≡ get_or xs i 0)
    → Loses old new (λ t. In t.parent (take (i + 1) xs))
one_more old now new xs i l first second =
    alike old new (λ t. In t.parent (take i xs) ⊎ (t.parent ≡ get_or xs i 0)) (λ t. In t.parent (take (i + 1) xs)) (λ t h. in_more xs i t.parent l h) (λ t h. more_in xs i t.parent l h)
    (then old now (λ t. In t.parent (take i xs)) first new (λ t. t.parent ≡ get_or xs i 0) second)
