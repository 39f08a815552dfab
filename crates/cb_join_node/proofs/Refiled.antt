-- Partial matches filed and taken out, one after another.
use Rattle.std.proofs.Common.{◌≡◌, ◌≢◌, ◌∙◌, ◌+◌, ◌<◌, ◌⊎◌, ℕ, List, None, Some, ap, get_or, inl, inr, length, subst, sym, take}
use Rattle.std.proofs.lemmas.Bool.{cases_eq}
use Rattle.cb_alpha.proofs.ReadFacts.{some_none}
use Rattle.cb_alpha.specs.Buckets.{Filing, Refiles, values_at}
use Rattle.cb_beta.proofs.Members.{by_in, in_more, more_in}
use Rattle.cb_fit.specs.declared.join_fields.JoinField.{JoinField}
use Rattle.cb_groups.specs.Groups.{Membership, Updates, group_of}
use Rattle.cb_join_node.specs.Filings.{ArePartialsFiled, IsFiled, IsNowhere, IsSamePlace}
use Rattle.cb_matches.specs.Chains.{In}
use Rattle.cb_matches.specs.Matches.{Partial}

-- one more of a list is taken out
pub one_forgotten : (f₀ f f' : Filing) (s₀ s s' : Membership) (xs : List ℕ) (i : ℕ) → i < length xs → Refiles f f' (get_or xs i 0) None → Updates s s' (get_or xs i 0) None
    → ((n : ℕ) → In n (take i xs) → IsNowhere f s n) → ((n : ℕ) → (In n (take i xs) → ⊥) → IsSamePlace f₀ s₀ f s n)
    → ((n : ℕ) → In n (take (i + 1) xs) → IsNowhere f' s' n) × ((n : ℕ) → (In n (take (i + 1) xs) → ⊥) → IsSamePlace f₀ s₀ f' s' n)
one_forgotten f₀ f f' s₀ s s' xs i l r u gone others = (
  λ n h. elim (cases_eq n (get_or xs i 0)) as (λ _. IsNowhere f' s' n) [
    | inl e ↦ record { values = ap (values_at f') e ∙ r.changed; stray = ap (group_of s') e ∙ u.changed }
    | inr d ↦ elim (more_in xs i n l h) as (λ _. IsNowhere f' s' n) [
      | inl k ↦ let was = gone n k in record { values = r.others n d ∙ was.values; stray = u.others n d ∙ was.stray }
      | inr e ↦ absurd (d e)
    ]
  ],
  λ n no.
      let d : n ≢ get_or xs i 0 = λ e. no (in_more xs i n l (inr e)) in
      let was = others n (λ k. no (in_more xs i n l (inl k))) in
      record { values = r.others n d ∙ was.values; stray = u.others n d ∙ was.stray },
)

-- where one is put among those that have not all values, the others stay
pub moved_aside : (f f' : Filing) (s s₁ s' : Membership) (n : ℕ) → Refiles f f' n None → Updates s s₁ n None → Updates s₁ s' n (Some 0)
    → (k : ℕ) → (k ≡ n → ⊥) → IsSamePlace f s f' s' k
moved_aside f f' s s₁ s' n r u v k d = record { values = r.others k d; stray = v.others k d ∙ u.others k d }

-- the same partial matches by another word
pub filed_alike : (js : List JoinField) (f : Filing) (s : Membership) (at : ℕ → Partial) (A B : ℕ → Type 0) → ((n : ℕ) → A n → B n) → ((n : ℕ) → B n → A n)
    → ArePartialsFiled js f s at A → ArePartialsFiled js f s at B
filed_alike js f s at A B to from is = record {
  there = λ n h. is.there n (from n h);
  filed = λ n vs e. to n (is.filed n vs e);
  strayed = λ n g e. to n (is.strayed n g e);
}

-- one more of a list is filed
pub one_filed : (js : List JoinField) (f f' : Filing) (s s' : Membership) (at : ℕ → Partial) (There : ℕ → Type 0) (xs : List ℕ) (i : ℕ) → i < length xs
    → IsFiled js f' s' (get_or xs i 0) (at (get_or xs i 0)) → ((n : ℕ) → (n ≡ get_or xs i 0 → ⊥) → IsSamePlace f s f' s' n)
    → ArePartialsFiled js f s at (λ n. There n ⊎ In n (take i xs)) → ArePartialsFiled js f' s' at (λ n. There n ⊎ In n (take (i + 1) xs))
one_filed js f f' s s' at There xs i l here others is = record {
  there = λ n h. elim (cases_eq n x) as (λ _. IsFiled js f' s' n (at n)) [
    | inl e ↦ subst (λ k. IsFiled js f' s' k (at k)) (sym e) here
    | inr d ↦ let same = others n d in let was = is.there n (before n d h) in record { values = same.values ∙ was.values; stray = same.stray ∙ was.stray }
  ];
  filed = λ n vs e. elim (cases_eq n x) as (λ _. There n ⊎ In n (take (i + 1) xs)) [
    | inl same ↦ inr (in_more xs i n l (inr same))
    | inr d ↦ after n (is.filed n vs (sym (others n d).values ∙ e))
  ];
  strayed = λ n g e. elim (cases_eq n x) as (λ _. There n ⊎ In n (take (i + 1) xs)) [
    | inl same ↦ inr (in_more xs i n l (inr same))
    | inr d ↦ after n (is.strayed n g (sym (others n d).stray ∙ e))
  ];
}
  where
    x : ℕ
    x = get_or xs i 0

    before : (n : ℕ) → n ≢ x → There n ⊎ In n (take (i + 1) xs) → There n ⊎ In n (take i xs)
    before n d (inl h) = inl h
    before n d (inr h) = elim (more_in xs i n l h) as (λ _. There n ⊎ In n (take i xs)) [ inl k ↦ inr k | inr e ↦ absurd (d e) ]

    after : (n : ℕ) → There n ⊎ In n (take i xs) → There n ⊎ In n (take (i + 1) xs)
    after n (inl h) = inl h
    after n (inr h) = inr (in_more xs i n l (inl h))

-- what is taken out is not there any more
pub all_forgotten : (js : List JoinField) (f f' : Filing) (s s' : Membership) (at : ℕ → Partial) (There : ℕ → Type 0) (gone : List ℕ)
    → ((n : ℕ) → In n gone → IsNowhere f' s' n) → ((n : ℕ) → (In n gone → ⊥) → IsSamePlace f s f' s' n) → ArePartialsFiled js f s at There
    → ArePartialsFiled js f' s' at (λ n. There n × (In n gone → ⊥))
all_forgotten js f f' s s' at There gone nowhere others is = record {
  there = λ n h. let same = others n h.1 in let was = is.there n h.0 in record { values = same.values ∙ was.values; stray = same.stray ∙ was.stray };
  filed = λ n vs e. elim (by_in n gone) as (λ _. There n × (In n gone → ⊥)) [
    | inl h ↦ some_none (values_at f' n) e (nowhere n h).values
    | inr k ↦ (is.filed n vs (sym (others n k).values ∙ e), k)
  ];
  strayed = λ n g e. elim (by_in n gone) as (λ _. There n × (In n gone → ⊥)) [
    | inl h ↦ some_none (group_of s' n) e (nowhere n h).stray
    | inr k ↦ (is.strayed n g (sym (others n k).stray ∙ e), k)
  ];
}
