-- The numbers of the matches of branches that are changed one after another.
use Rattle.std.proofs.Common.{◌≡◌, ◌≢◌, ◌∙◌, ◌<◌, ◌≤◌, ◌+◌, ◌⊎◌, ℕ, List, Some, ap, arith, inl, inr, refl, set, subst, sym}
use Rattle.std.proofs.lemmas.Bool.{cases_eq}
use Rattle.std.specs.List.{slice_get}
use Rattle.cb_branch.specs.Branches.{branch_numbers}
use Rattle.cb_branch.specs.declared.branch.Branch.{Branch}
use Rattle.cb_matches.specs.Changes.{IsNumber, TellsMoreNumbers}
use Rattle.cb_matches.specs.Keys.{KeyValue}
use Rattle.cb_matches.specs.declared.delta.Delta.{Delta}
use Rattle.cb_rete.proofs.Lists.{some_is}
use Rattle.cb_rete.proofs.Numbers.{TellsSoFar, tells_all, tells_done, tells_none, tells_on}
use Rattle.cb_rete.specs.Numbers.{IsNumberInBranches}
use Rattle.cb_rule_keys.proofs.Branches.{got_set_other, got_set_same}

module _ {T : Type 0} (rule : ℕ) where
  -- the match is one of a branch before this place
  pub record IsNumberBelow (below : ℕ) (bs : List (Branch T)) (k : KeyValue) (n : ℕ) : Type 0 where
    pub place : ℕ
    pub branch : Branch T
    pub got : slice_get bs place ≡ Some branch
    pub low : place < below
    pub has : IsNumber (branch_numbers rule place branch) k n

  pub below_in : (below : ℕ) (bs : List (Branch T)) (k : KeyValue) (n : ℕ) → IsNumberBelow below bs k n → IsNumberInBranches rule bs k n
  below_in below bs k n h = record { place = h.place; branch = h.branch; got = h.got; has = h.has }

  pub below_more : (below more : ℕ) (bs : List (Branch T)) → below ≤ more → (k : KeyValue) (n : ℕ) → IsNumberBelow below bs k n → IsNumberBelow more bs k n
  below_more below more bs up k n h = record { place = h.place; branch = h.branch; got = h.got; low = let l = h.low in omega (arith, l, up); has = h.has }

  -- the branch at a place becomes another
  module _ (bs : List (Branch T)) (p : ℕ) (b new : Branch T) (got : slice_get bs p ≡ Some b) where
    pub set_has : (k : KeyValue) (n : ℕ) → IsNumber (branch_numbers rule p new) k n → IsNumberInBranches rule (set bs p new) k n
    set_has k n h = record { place = p; branch = new; got = got_set_same bs p b new got; has = h }

    pub set_here : (k : KeyValue) (n : ℕ) → IsNumber (branch_numbers rule p new) k n → IsNumberBelow (p + 1) (set bs p new) k n
    set_here k n h = record { place = p; branch = new; got = got_set_same bs p b new got; low = omega arith; has = h }

    pub set_below : (below : ℕ) → below ≤ p → (k : KeyValue) (n : ℕ) → IsNumberBelow below bs k n → IsNumberBelow (p + 1) (set bs p new) k n
    set_below below up k n h =
        let l = h.low in
        let ne : h.place ≢ p = omega (arith, l, up) in
        record { place = h.place; branch = h.branch; got = got_set_other bs p h.place new ne ∙ h.got; low = omega (arith, l, up); has = h.has }

    was_here : (k : KeyValue) (n : ℕ) (h : IsNumberInBranches rule bs k n) → h.place ≡ p → IsNumber (branch_numbers rule p b) k n
    was_here k n h e =
        let same : h.branch ≡ b = some_is h.branch b (sym h.got ∙ (ap (slice_get bs) e ∙ got)) in
        subst (λ (it : Branch T). IsNumber (branch_numbers rule p it) k n) same (subst (λ (m : ℕ). IsNumber (branch_numbers rule m h.branch) k n) e h.has)

    pub set_either : (k : KeyValue) (n : ℕ) → IsNumberInBranches rule bs k n → IsNumber (branch_numbers rule p b) k n ⊎ IsNumberInBranches rule (set bs p new) k n
    set_either k n h = elim (cases_eq h.place p) as (λ _. IsNumber (branch_numbers rule p b) k n ⊎ IsNumberInBranches rule (set bs p new) k n) [
      | inl e ↦ inl (was_here k n h e)
      | inr ne ↦ inr (record { place = h.place; branch = h.branch; got = got_set_other bs p h.place new ne ∙ h.got; has = h.has })
    ]

  -- branches are changed up to a place, and the others are as they were
  pub record AreToldTo (below : ℕ) (old bs : List (Branch T)) (delta delta' : Delta) : Type 0 where
    pub same : (j : ℕ) → below ≤ j → slice_get bs j ≡ slice_get old j
    pub told : TellsSoFar (IsNumberInBranches rule old) (IsNumberInBranches rule bs) (IsNumberBelow below bs) delta delta'

  pub told_none : (bs : List (Branch T)) (delta : Delta) → AreToldTo 0 bs bs delta delta
  told_none bs delta = record { same = λ j l. refl; told = tells_none (IsNumberInBranches rule bs) (IsNumberBelow 0 bs) delta }

  module _ (below : ℕ) (old bs : List (Branch T)) (delta delta' : Delta) (was : AreToldTo below old bs delta delta') where
    pub told_further : (more : ℕ) → below ≤ more → AreToldTo more old bs delta delta'
    told_further more up = record {
      same = λ j l. was.same j (omega (arith, l, up));
      told = tells_done (IsNumberInBranches rule old) (IsNumberInBranches rule bs) (IsNumberBelow below bs) (IsNumberBelow more bs) delta delta' (below_more below more bs up) was.told;
    }

    pub told_all : TellsMoreNumbers (IsNumberInBranches rule old) (IsNumberInBranches rule bs) delta delta'
    told_all = tells_all (IsNumberInBranches rule old) (IsNumberInBranches rule bs) (IsNumberBelow below bs) delta delta' (below_in below bs) was.told

    -- one more is changed
    pub told_one : (p : ℕ) (b new : Branch T) (delta'' : Delta) → below ≤ p → slice_get bs p ≡ Some b → TellsMoreNumbers (IsNumber (branch_numbers rule p b)) (IsNumber (branch_numbers rule p new)) delta' delta''
        → AreToldTo (p + 1) old (set bs p new) delta delta''
    told_one p b new delta'' up got step = record {
      same = λ j l. let ne : j ≢ p = omega (arith, l) in got_set_other bs p j new ne ∙ was.same j (omega (arith, l, up));
      told = tells_on (IsNumberInBranches rule old) (IsNumberInBranches rule bs) (IsNumberInBranches rule (set bs p new)) (IsNumberBelow below bs) (IsNumberBelow (p + 1) (set bs p new))
          (IsNumber (branch_numbers rule p b)) (IsNumber (branch_numbers rule p new)) delta delta' delta''
          (λ k n h. record { place = p; branch = b; got = sym (was.same p up) ∙ got; has = h })
          (set_below bs p b new got below up) (set_here bs p b new got) (set_has bs p b new got) (set_either bs p b new got) was.told step;
    }
