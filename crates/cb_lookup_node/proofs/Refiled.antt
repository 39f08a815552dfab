-- Partial matches filed and taken out, one after another.
use Rattle.std.proofs.Common.{◌≡◌, ◌≢◌, ◌∙◌, ◌+◌, ◌<◌, ◌⊎◌, ℕ, List, [], Option, None, ap, get_or, inl, inr, length, refl, subst, sym, take}
use Rattle.std.proofs.lemmas.Bool.{cases_eq}
use Rattle.cb_alpha.proofs.ReadFacts.{some_none}
use Rattle.cb_alpha.specs.Buckets.{Filing, Refiles, values_at}
use Rattle.cb_alpha.specs.JoinValues.{variable_values}
use Rattle.cb_beta.proofs.Members.{by_in, in_more, more_in}
use Rattle.cb_fit.specs.declared.comparison.Comparison.{Comparison}
use Rattle.cb_fit.specs.declared.join_fields.JoinField.{JoinField}
use Rattle.cb_lookup_node.specs.Internal.{AreForgotten}
use Rattle.cb_lookup_node.specs.LookupNodes.{AreFiled, filed_by}
use Rattle.cb_matches.specs.Chains.{In}
use Rattle.cb_matches.specs.Matches.{Partial}

pub none_forgotten : (f : Filing) → AreForgotten f f []
none_forgotten f = record { gone = λ n h. absurd h; others = λ n h. refl }

-- one more of a list is taken out
pub one_forgotten : (f₀ f f' : Filing) (xs : List ℕ) (i : ℕ) → i < length xs → Refiles f f' (get_or xs i 0) None → AreForgotten f₀ f (take i xs) → AreForgotten f₀ f' (take (i + 1) xs)
one_forgotten f₀ f f' xs i l r was = record {
  gone = λ n h. elim (cases_eq n (get_or xs i 0)) as (λ _. values_at f' n ≡ None) [
    | inl e ↦ ap (values_at f') e ∙ r.changed
    | inr d ↦ r.others n d ∙ was.gone n (elim (more_in xs i n l h) as (λ _. In n (take i xs)) [ inl k ↦ k | inr e ↦ absurd (d e) ])
  ];
  others = λ n no. r.others n (λ e. no (in_more xs i n l (inr e))) ∙ was.others n (λ k. no (in_more xs i n l (inl k)));
}

-- the same partial matches by another word
pub filed_alike : (comparison : Option Comparison) (js : List JoinField) (f : Filing) (at : ℕ → Partial) (A B : ℕ → Type 0) → ((n : ℕ) → A n → B n) → ((n : ℕ) → B n → A n) → AreFiled comparison js f at A → AreFiled comparison js f at B
filed_alike comparison js f at A B to from is = record { there = λ n h. is.there n (from n h); only = λ n vs e. to n (is.only n vs e) }

-- what is taken out is not there any more
pub filed_but : (comparison : Option Comparison) (js : List JoinField) (f f' : Filing) (at : ℕ → Partial) (There : ℕ → Type 0) (gone : List ℕ) → AreForgotten f f' gone → AreFiled comparison js f at There
    → AreFiled comparison js f' at (λ n. There n × (In n gone → ⊥))
filed_but comparison js f f' at There gone left is = record {
  there = λ n h. left.others n h.1 ∙ is.there n h.0;
  only = λ n vs e. elim (by_in n gone) as (λ _. There n × (In n gone → ⊥)) [
    | inl h ↦ some_none (values_at f' n) e (left.gone n h)
    | inr k ↦ (is.only n vs (sym (left.others n k) ∙ e), k)
  ];
}

-- one more of a list is filed
pub one_filed : (comparison : Option Comparison) (js : List JoinField) (f f' : Filing) (at : ℕ → Partial) (There : ℕ → Type 0) (xs : List ℕ) (i : ℕ) → i < length xs
    → Refiles f f' (get_or xs i 0) (filed_by comparison (variable_values js (at (get_or xs i 0)).env)) → AreFiled comparison js f at (λ n. There n ⊎ In n (take i xs)) → AreFiled comparison js f' at (λ n. There n ⊎ In n (take (i + 1) xs))
one_filed comparison js f f' at There xs i l r is = record {
  there = λ n h. elim (cases_eq n x) as (λ _. values_at f' n ≡ filed_by comparison (variable_values js (at n).env)) [
    | inl e ↦ subst (λ k. values_at f' k ≡ filed_by comparison (variable_values js (at k).env)) (sym e) r.changed
    | inr d ↦ r.others n d ∙ is.there n (before n d h)
  ];
  only = λ n vs e. elim (cases_eq n x) as (λ _. There n ⊎ In n (take (i + 1) xs)) [
    | inl same ↦ inr (in_more xs i n l (inr same))
    | inr d ↦ after n (is.only n vs (sym (r.others n d) ∙ e))
  ];
}
  where
    x : ℕ
    x = get_or xs i 0

    before : (n : ℕ) → n ≢ x → There n ⊎ In n (take (i + 1) xs) → There n ⊎ In n (take i xs)
    before n d (inl h) = inl h
    before n d (inr h) = elim (more_in xs i n l h) as (λ _. There n ⊎ In n (take i xs)) [ inl k ↦ inr k | inr e ↦ absurd (d e) ]

    after : (n : ℕ) → There n ⊎ In n (take i xs) → There n ⊎ In n (take (i + 1) xs)
    after n (inl h) = inl h
    after n (inr h) = inr (in_more xs i n l (inl h))
