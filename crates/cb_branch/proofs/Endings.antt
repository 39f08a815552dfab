-- Lists in which a change ends one after another, and lists without tokens.
use Rattle.std.proofs.Common.{◌≡◌, ◌∙◌, ◌++◌, ◌+◌, ◌<◌, ◌≤◌, ◌⊎◌, ℕ, zero, suc, List, [], ◌∷◌, None, Some, ap, arith, get_or, inl, inr, length, refl, set, slice_get, subst, sym}
use Rattle.std.proofs.Math.ListN.{length-set}
use Rattle.std.proofs.lemmas.Bool.{cases_eq}
use Rattle.cb_beta.specs.BetaMemories.{BetaMemoryValue, IsEnded}
use Rattle.cb_branch.proofs.Sets.{set_others, set_there}
use Rattle.cb_list_changes.proofs.Places.{one_some, within}
use Rattle.cb_list_changes.specs.Resting.{AreEnded}
use Rattle.cb_token_lists.proofs.Down.{got}

-- the change ended in the lists below number i, and the others are as they were
pub record AreEndedTo (first lists : List BetaMemoryValue) (i : ℕ) : Type 0 where
  pub long : length lists ≡ length first
  pub done : (j : ℕ) (m m' : BetaMemoryValue) → j < i → slice_get first j ≡ Some m → slice_get lists j ≡ Some m' → IsEnded m m'
  pub left : (j : ℕ) → i ≤ j → slice_get lists j ≡ slice_get first j

pub ended_first : (lists : List BetaMemoryValue) → AreEndedTo lists lists 0
ended_first lists = record { long = refl; done = λ j m m' l is is'. absurd (omega (arith, l)); left = λ j l. refl }

pub ended_step : (first lists : List BetaMemoryValue) (i : ℕ) (own own' : BetaMemoryValue) → i < length lists → own ≡ get_or lists i own → IsEnded own own' → AreEndedTo first lists i
    → AreEndedTo first (set lists i own') (i + 1)
ended_step first lists i own own' l is ends t =
    let there : slice_get lists i ≡ Some own = got lists i own l is in
    record {
      long = length-set lists i own' ∙ t.long;
      done = λ j m m' k at at'. elim (cases_eq j i) as (λ _. IsEnded m m') [
        | inl e ↦
            let m_is : own ≡ m = one_some (sym there ∙ (t.left i (omega arith) ∙ (ap (slice_get first) (sym e) ∙ at))) in
            let m'_is : own' ≡ m' = one_some (sym (set_there lists i own' l) ∙ (ap (slice_get (set lists i own')) (sym e) ∙ at')) in
            subst (λ it. IsEnded it m') m_is (subst (λ it. IsEnded own it) m'_is ends)
        | inr n ↦ t.done j m m' (omega (arith, k, n)) at (sym (set_others lists i own' j n) ∙ at')
      ];
      left = λ j k. set_others lists i own' j (λ e. absurd (omega (arith, k, e))) ∙ t.left j (omega (arith, k));
    }

pub ended_last : (first lists : List BetaMemoryValue) (i : ℕ) → AreEndedTo first lists i → length lists ≤ i → AreEnded first lists
ended_last first lists i t l = record { long = t.long; each = λ j m m' is is'. t.done j m m' (let n = within lists j m' is' in omega (arith, n, l)) is is' }

-- one thing more at the end of a list
pub at_pushed : {A : Type 0} (xs : List A) (x : A) (j : ℕ) (a : A) → slice_get (xs ++ x ∷ []) j ≡ Some a → (slice_get xs j ≡ Some a) ⊎ (a ≡ x)
at_pushed [] x zero a e = inr (one_some (sym e))
at_pushed [] x (suc j) a e = absurd (let no : None ≡ Some a = e in cc)
at_pushed (y ∷ xs) x zero a e = inl e
at_pushed (y ∷ xs) x (suc j) a e = at_pushed xs x j a e
