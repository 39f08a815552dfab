-- A look-up of values by keys and one of keys by values, which agree, where both change at one key.
use Rattle.std.proofs.Common.{◌≡◌, ◌≢◌, ◌⊎◌, inl, inr, ℕ, Option, Some, None, refl, sym, ap, ◌∙◌}
use Rattle.std.proofs.lemmas.Bool.{cases_eq}
use Rattle.cb_facts.specs.FactLists.{ChangesOnly}
use Rattle.cb_facts.specs.Internal.{Agree}

module _ {V : Type 0} (old new : ℕ → Option V) (find found : V → Option ℕ) (key : ℕ) (v : V) (is_or_not : (w : V) → (v ≡ w) ⊎ (v ≢ w)) (both : Agree find old) where
  -- a value that no key had is put at a key that had none
  module _ (free : old key ≡ None) (absent : (q : ℕ) → old q ≢ Some v) (change : ChangesOnly old new key (Some v)) (find_change : ChangesOnly find found v (Some key)) where
    listed-added_by : (w : V) (q : ℕ) → found w ≡ Some q → (v ≡ w) ⊎ (v ≢ w) → new q ≡ Some w
    listed-added_by w q h (inl same) =
        let key_is : Some key ≡ Some q = sym find_change.here ∙ ap found same ∙ h in
        let is : key ≡ q = cc in
        ap new (sym is) ∙ change.here ∙ ap Some same
    listed-added_by w q h (inr differs) =
        let was : old q ≡ Some w = both.listed w q (sym (find_change.others w differs) ∙ h) in
        let apart : key ≢ q = λ e. let n : None ≡ Some w = sym free ∙ ap old e ∙ was in cc in
        change.others q apart ∙ was

    listed-added : (w : V) (q : ℕ) → found w ≡ Some q → new q ≡ Some w
    listed-added w q h = listed-added_by w q h (is_or_not w)

    known-added_by : (w : V) (q : ℕ) → new q ≡ Some w → (key ≡ q) ⊎ (key ≢ q) → found w ≡ Some q
    known-added_by w q h (inl same) =
        let value_is : Some v ≡ Some w = sym change.here ∙ ap new same ∙ h in
        let is : v ≡ w = cc in
        ap found (sym is) ∙ find_change.here ∙ ap Some same
    known-added_by w q h (inr apart) =
        let was : old q ≡ Some w = sym (change.others q apart) ∙ h in
        let differs : v ≢ w = λ e. absent q (was ∙ ap Some (sym e)) in
        find_change.others w differs ∙ both.known w q was

    known-added : (w : V) (q : ℕ) → new q ≡ Some w → found w ≡ Some q
    known-added w q h = known-added_by w q h (cases_eq key q)

    pub added : Agree found new
    added = record { listed = listed-added; known = known-added }

  -- the value of a key is taken out
  module _ (was_there : old key ≡ Some v) (change : ChangesOnly old new key None) (find_change : ChangesOnly find found v None) where
    listed-removed_by : (w : V) (q : ℕ) → found w ≡ Some q → (v ≡ w) ⊎ (v ≢ w) → new q ≡ Some w
    listed-removed_by w q h (inl same) = let n : None ≡ Some q = sym find_change.here ∙ ap found same ∙ h in cc
    listed-removed_by w q h (inr differs) =
        let was : old q ≡ Some w = both.listed w q (sym (find_change.others w differs) ∙ h) in
        let apart : key ≢ q = λ e. let s : Some v ≡ Some w = sym was_there ∙ ap old e ∙ was in let same : v ≡ w = cc in differs same in
        change.others q apart ∙ was

    listed-removed : (w : V) (q : ℕ) → found w ≡ Some q → new q ≡ Some w
    listed-removed w q h = listed-removed_by w q h (is_or_not w)

    known-removed_by : (w : V) (q : ℕ) → new q ≡ Some w → (key ≡ q) ⊎ (key ≢ q) → found w ≡ Some q
    known-removed_by w q h (inl same) = let n : None ≡ Some w = sym change.here ∙ ap new same ∙ h in cc
    known-removed_by w q h (inr apart) =
        let was : old q ≡ Some w = sym (change.others q apart) ∙ h in
        let differs : v ≢ w = λ e. let s : Some key ≡ Some q = sym (both.known v key was_there) ∙ both.known v q (was ∙ ap Some (sym e)) in let same : key ≡ q = cc in apart same in
        find_change.others w differs ∙ both.known w q was

    known-removed : (w : V) (q : ℕ) → new q ≡ Some w → found w ≡ Some q
    known-removed w q h = known-removed_by w q h (cases_eq key q)

    pub removed : Agree found new
    removed = record { listed = listed-removed; known = known-removed }

-- a value that no key has is noted under a key and taken out again
module _ {V : Type 0} (at : ℕ → Option V) (find found undone : V → Option ℕ) (key : ℕ) (v : V) (is_or_not : (w : V) → (v ≡ w) ⊎ (v ≢ w)) (both : Agree find at)
    (absent : (q : ℕ) → at q ≢ Some v) (added : ChangesOnly find found v (Some key)) (removed : ChangesOnly found undone v None) where
  not_found : (o : Option ℕ) → find v ≡ o → o ≡ None
  not_found None e = refl
  not_found (Some q) e = absurd (absent q (both.listed v q e))

  as_before_by : (w : V) → (v ≡ w) ⊎ (v ≢ w) → undone w ≡ find w
  as_before_by w (inl same) = ap undone (sym same) ∙ removed.here ∙ sym (not_found (find v) refl) ∙ ap find same
  as_before_by w (inr differs) = removed.others w differs ∙ added.others w differs

  as_before : (w : V) → undone w ≡ find w
  as_before w = as_before_by w (is_or_not w)

  pub taken_back : Agree undone at
  taken_back = record { listed = λ w k h. both.listed w k (sym (as_before w) ∙ h); known = λ w k h. as_before w ∙ both.known w k h }
