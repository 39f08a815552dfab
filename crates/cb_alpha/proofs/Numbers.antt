-- Facts found by their indices: one more, and one less.
use Rattle.std.proofs.Common.{◌≡◌, ◌≢◌, ◌∙◌, ◌↔◌, ℕ, Option, Some, None, ap, inl, inr, refl, sym}
use Rattle.std.proofs.lemmas.Bool.{cases_eq}
use Rattle.cb_alpha.proofs.ReadFacts.{same_some, some_none}
use Rattle.cb_number_map.specs.Filed.{AreFound, ChangesAt}

-- no number is found by an index that no fact has
pub none_found : (find key : ℕ → Option ℕ) (k : ℕ) → AreFound find key → ((n : ℕ) → key n ≢ Some k) → find k ≡ None
none_found find key k are absent = by_found (find k) (λ n h. absent n ((are k n).0 h))
  where
    by_found : (o : Option ℕ) → ((n : ℕ) → o ≡ Some n → ⊥) → o ≡ None
    by_found None d = refl
    by_found (Some n) d = absurd (d n refl)

module _ (find find' key key' : ℕ → Option ℕ) (k n : ℕ) (was : AreFound find key) (others : (i : ℕ) → i ≢ n → key' i ≡ key i) where
  -- a number more
  pub numbered_more : ((i : ℕ) → key i ≢ Some k) → key n ≡ None → key' n ≡ Some k → ChangesAt find find' k (Some n) → AreFound find' key'
  numbered_more absent free there now q i = elim (cases_eq k q) as (λ _. (find' q ≡ Some i) ↔ (key' i ≡ Some q)) [
    | inl e ↦
        let found : find' q ≡ Some n = ap find' (sym e) ∙ now.here in (
          λ h. ap key' (same_some (find' q) h found) ∙ (there ∙ ap Some e),
          λ h. elim (cases_eq i n) as (λ _. find' q ≡ Some i) [
            | inl same ↦ found ∙ ap Some (sym same)
            | inr d ↦ absurd (absent i (sym (others i d) ∙ (h ∙ ap Some (sym e))))
          ],
        )
    | inr apart ↦
        let found : find' q ≡ find q = now.others q apart in (
          λ h.
              let old = (was q i).0 (sym found ∙ h) in
              others i (λ same. some_none (key i) old (ap key same ∙ free)) ∙ old,
          λ h. elim (cases_eq i n) as (λ _. find' q ≡ Some i) [
            | inl same ↦ absurd (apart (same_some (key' n) there (ap key' (sym same) ∙ h)))
            | inr d ↦ found ∙ (was q i).1 (sym (others i d) ∙ h)
          ],
        )
  ]

  -- and one less
  pub numbered_less : key n ≡ Some k → key' n ≡ None → ChangesAt find find' k None → AreFound find' key'
  numbered_less there gone now q i = elim (cases_eq k q) as (λ _. (find' q ≡ Some i) ↔ (key' i ≡ Some q)) [
    | inl e ↦
        let none : find' q ≡ None = ap find' (sym e) ∙ now.here in (
          λ h. some_none (find' q) h none,
          λ h. elim (cases_eq i n) as (λ _. find' q ≡ Some i) [
            | inl same ↦ some_none (key' i) h (ap key' same ∙ gone)
            | inr d ↦
                let one = (was q i).1 (sym (others i d) ∙ h) in
                let other = (was q n).1 (there ∙ ap Some e) in
                absurd (d (same_some (find q) one other))
          ],
        )
    | inr apart ↦
        let found : find' q ≡ find q = now.others q apart in (
          λ h.
              let old = (was q i).0 (sym found ∙ h) in
              others i (λ same. absurd (apart (same_some (key n) there (ap key (sym same) ∙ old)))) ∙ old,
          λ h. elim (cases_eq i n) as (λ _. find' q ≡ Some i) [
            | inl same ↦ some_none (key' i) h (ap key' same ∙ gone)
            | inr d ↦ found ∙ (was q i).1 (sym (others i d) ∙ h)
          ],
        )
  ]
