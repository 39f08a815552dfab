-- Branches of a rule that are changed one after another, by their places; those that a change doesn't concern are passed over.
use Rattle.std.proofs.Common.{◌≡◌, ◌≢◌, ◌∙◌, ◌+◌, ◌-◌, ◌<◌, ◌≤◌, ◌++◌, ◌∷◌, ℕ, zero, suc, List, [], Option, Some, None, add-one, ap, append_assoc, arith, drop, get_or, inl, inr, length, map, refl, set, subst, sym}
use Rattle.std.proofs.Math.Seq.{map-set_same}
use Rattle.std.proofs.lemmas.Bool.{cases_eq, cases_lt}
use Rattle.std.proofs.lemmas.List.{append-nil, drop_more}
use Rattle.std.proofs.lemmas.Option.{slice_get_past}
use Rattle.std.specs.List.{slice_get}
use Rattle.cb_facts.specs.FactLists.{IndexedFacts}
use Rattle.cb_matches.specs.Changes.{come_of}
use Rattle.cb_matches.specs.Keys.{KeyValue}
use Rattle.cb_matches.specs.declared.delta.Delta.{Delta}
use Rattle.cb_rule_keys.proofs.KeyLists.{none_more}
use Rattle.cb_rule_keys.proofs.Networks.{come_more}
use Rattle.cb_rule_keys.specs.Changing.{IsBranchChanged}
use Rattle.cb_rule_keys.specs.Keys.{branch_keys, keys_in_branch}
use Rattle.cb_rule_keys.specs.Sums.{branches_sum}
use Rattle.cb_rules.specs.Elements.{Elements}

-- what stands at a place
pub got_within : {A : Type 0} (xs : List A) (n : ℕ) (x : A) → slice_get xs n ≡ Some x → (n < length xs) × ((d : A) → get_or xs n d ≡ x)
got_within [] n x h = cc
got_within (y ∷ ys) zero x h = (omega arith, λ d. cc)
got_within (y ∷ ys) (suc n) x h = let more = got_within ys n x h in (let l = more.0 in omega (arith, l), more.1)

pub got_mapped : {A B : Type 0} (f : A → B) (xs : List A) (n : ℕ) (x : A) → slice_get xs n ≡ Some x → slice_get (map f xs) n ≡ Some (f x)
got_mapped f [] n x h = cc
got_mapped f (y ∷ ys) zero x h = let e : y ≡ x = cc in ap (λ it. Some (f it)) e
got_mapped f (y ∷ ys) (suc n) x h = got_mapped f ys n x h

pub none_mapped : {A B : Type 0} (f : A → B) (xs : List A) (n : ℕ) → slice_get xs n ≡ None → slice_get (map f xs) n ≡ None
none_mapped f [] n h = refl
none_mapped f (y ∷ ys) zero h = cc
none_mapped f (y ∷ ys) (suc n) h = none_mapped f ys n h

-- what is left from a place on
pub dropped_at : {A : Type 0} (xs : List A) (n : ℕ) (x : A) → slice_get xs n ≡ Some x → drop n xs ≡ x ∷ drop (n + 1) xs
dropped_at xs n x h = let at = got_within xs n x h in drop_more xs n x at.0 ∙ ap (λ it. it ∷ drop (n + 1) xs) (at.1 x)

pub none_at : {A : Type 0} (xs : List A) (n : ℕ) → slice_get xs n ≡ None → drop n xs ≡ []
none_at [] zero h = refl
none_at [] (suc n) h = refl
none_at (y ∷ ys) zero h = cc
none_at (y ∷ ys) (suc n) h = none_at ys n h

pub none_behind : {A : Type 0} (xs : List A) (n : ℕ) → slice_get xs n ≡ None → drop (n + 1) xs ≡ []
none_behind {A} xs n h = subst (λ m. drop m xs ≡ []) (sym (add-one n)) (next xs n h)
  where
    next : (ys : List A) (m : ℕ) → slice_get ys m ≡ None → drop (suc m) ys ≡ []
    next [] m i = refl
    next (y ∷ ys) zero i = cc
    next (y ∷ ys) (suc m) i = next ys m i

pub got_set_same : {A : Type 0} (xs : List A) (n : ℕ) (x y : A) → slice_get xs n ≡ Some x → slice_get (set xs n y) n ≡ Some y
got_set_same [] n x y h = cc
got_set_same (z ∷ zs) zero x y h = refl
got_set_same (z ∷ zs) (suc n) x y h = got_set_same zs n x y h

pub got_set_other : {A : Type 0} (xs : List A) (n k : ℕ) (y : A) → k ≢ n → slice_get (set xs n y) k ≡ slice_get xs k
got_set_other [] n k y ne = refl
got_set_other (z ∷ zs) zero zero y ne = absurd (ne refl)
got_set_other (z ∷ zs) zero (suc k) y ne = refl
got_set_other (z ∷ zs) (suc n) zero y ne = refl
got_set_other (z ∷ zs) (suc n) (suc k) y ne = got_set_other zs n k y (λ e. ne (ap suc e))

module _ {B : Type 0} (of : B → Elements) (Before After : ℕ → B → Type 0) (fs fs' : IndexedFacts) (cost : Elements → ℕ) (rule : ℕ) where
  -- of branches those before a place are as after the change, and the others as before it: what is told by then and what is told at the
  -- end, and what is paid
  pub record AreBranchesChanged (bs : List Elements) (xs : List B) (at : ℕ) (gone all_gone come all_come : List KeyValue) (meter all : ℕ) : Type 0 where
    pub stays : map of xs ≡ bs
    pub done : (k : ℕ) (x : B) → k < at → slice_get xs k ≡ Some x → After k x
    pub todo : (k : ℕ) (x : B) → at ≤ k → slice_get xs k ≡ Some x → Before k x
    pub lost : gone ++ come_of (branch_keys rule at (drop at bs) fs') (branch_keys rule at (drop at bs) fs) ≡ all_gone
    pub told : come ++ come_of (branch_keys rule at (drop at bs) fs) (branch_keys rule at (drop at bs) fs') ≡ all_come
    pub paid : meter + branches_sum cost (drop at bs) ≤ all

  -- the change doesn't concern a branch
  pub record IsBranchUnconcerned (n : ℕ) (x : B) : Type 0 where
    pub is : After n x
    pub keys : keys_in_branch rule n (of x) fs ≡ keys_in_branch rule n (of x) fs'

  module _ (bs : List Elements) (all_gone all_come : List KeyValue) (all : ℕ) where
    -- what is told at one branch, and what is left to be told
    told_on : (at : ℕ) (es : Elements) (gs gs' : IndexedFacts) (ks ls total : List KeyValue) → drop at bs ≡ es ∷ drop (at + 1) bs
        → ks ++ come_of (branch_keys rule at (drop at bs) gs) (branch_keys rule at (drop at bs) gs') ≡ total
        → ls ≡ ks ++ come_of (keys_in_branch rule at es gs) (keys_in_branch rule at es gs')
        → ls ++ come_of (branch_keys rule (at + 1) (drop (at + 1) bs) gs) (branch_keys rule (at + 1) (drop (at + 1) bs) gs') ≡ total
    told_on at es gs gs' ks ls total d h e =
        let rest = come_of (branch_keys rule (at + 1) (drop (at + 1) bs) gs) (branch_keys rule (at + 1) (drop (at + 1) bs) gs') in
        ap (λ it. it ++ rest) e
        ∙ (append_assoc ks (come_of (keys_in_branch rule at es gs) (keys_in_branch rule at es gs')) rest
        ∙ (ap (λ it. ks ++ it) (sym (ap (λ it. come_of (branch_keys rule at it gs) (branch_keys rule at it gs')) d ∙ come_more rule at es (drop (at + 1) bs) gs gs')) ∙ h))

    paid_on : (at : ℕ) (es : Elements) → drop at bs ≡ es ∷ drop (at + 1) bs → branches_sum cost (drop at bs) ≡ cost es + branches_sum cost (drop (at + 1) bs)
    paid_on at es d = ap (branches_sum cost) d

    -- where the change doesn't concern the branch at a place, it is passed over
    pub pass_one : (xs : List B) (at : ℕ) (gone come : List KeyValue) (meter : ℕ) → ((x : B) → slice_get xs at ≡ Some x → Before at x → IsBranchUnconcerned at x)
        → AreBranchesChanged bs xs at gone all_gone come all_come meter all → AreBranchesChanged bs xs (at + 1) gone all_gone come all_come meter all
    pass_one xs at gone come meter none was = by_branch (slice_get xs at) refl
      where
        by_branch : (o : Option B) → slice_get xs at ≡ o → AreBranchesChanged bs xs (at + 1) gone all_gone come all_come meter all
        by_branch None h =
            let missing : slice_get bs at ≡ None = subst (λ ys. slice_get ys at ≡ None) was.stays (none_mapped of xs at h) in
            let same : drop at bs ≡ drop (at + 1) bs = none_at bs at missing ∙ sym (none_behind bs at missing) in
            record {
              stays = was.stays;
              done = λ k x l i. elim (cases_lt k at) as (λ _. After k x) [
                | inl m ↦ was.done k x m i
                | inr m ↦ (let e : k ≡ at = omega (arith, l, m) in let no : Some x ≡ None = sym i ∙ (ap (slice_get xs) e ∙ h) in absurd cc)
              ];
              todo = λ k x l i. was.todo k x (omega (arith, l)) i;
              lost = ap (λ it. gone ++ it) (empties fs' fs (none_behind bs at missing) (none_at bs at missing)) ∙ was.lost;
              told = ap (λ it. come ++ it) (empties fs fs' (none_behind bs at missing) (none_at bs at missing)) ∙ was.told;
              paid = let e = ap (branches_sum cost) same in let paid = was.paid in omega (arith, e, paid);
            }
          where
            empties : (gs gs' : IndexedFacts) → drop (at + 1) bs ≡ [] → drop at bs ≡ []
                → come_of (branch_keys rule (at + 1) (drop (at + 1) bs) gs) (branch_keys rule (at + 1) (drop (at + 1) bs) gs')
                ≡ come_of (branch_keys rule at (drop at bs) gs) (branch_keys rule at (drop at bs) gs')
            empties gs gs' e f =
                ap (λ it. come_of (branch_keys rule (at + 1) it gs) (branch_keys rule (at + 1) it gs')) e
                ∙ sym (ap (λ it. come_of (branch_keys rule at it gs) (branch_keys rule at it gs')) f)
        by_branch (Some x) h =
            let d : drop at bs ≡ of x ∷ drop (at + 1) bs = dropped_at bs at (of x) (subst (λ ys. slice_get ys at ≡ Some (of x)) was.stays (got_mapped of xs at x h)) in
            let un = none x h (was.todo at x (omega arith) h) in
            record {
              stays = was.stays;
              done = λ k y l i. elim (cases_lt k at) as (λ _. After k y) [
                | inl m ↦ was.done k y m i
                | inr m ↦ (let e : k ≡ at = omega (arith, l, m) in let same : Some y ≡ Some x = sym i ∙ (ap (slice_get xs) e ∙ h) in let is : y ≡ x = cc in
                    subst (λ (it : B). After k it) (sym is) (subst (λ n. After n x) (sym e) un.is))
              ];
              todo = λ k y l i. was.todo k y (omega (arith, l)) i;
              lost = told_on at (of x) fs' fs gone gone all_gone d was.lost (none_more gone (keys_in_branch rule at (of x) fs') (keys_in_branch rule at (of x) fs) (sym un.keys));
              told = told_on at (of x) fs fs' come come all_come d was.told (none_more come (keys_in_branch rule at (of x) fs) (keys_in_branch rule at (of x) fs') un.keys);
              paid = let e = paid_on at (of x) d in let paid = was.paid in omega (arith, e, paid);
            }

    -- so are several
    pass_on : (n : ℕ) (xs : List B) (at : ℕ) (gone come : List KeyValue) (meter : ℕ) → ((k : ℕ) (x : B) → at ≤ k → k < at + n → slice_get xs k ≡ Some x → Before k x → IsBranchUnconcerned k x)
        → AreBranchesChanged bs xs at gone all_gone come all_come meter all → AreBranchesChanged bs xs (at + n) gone all_gone come all_come meter all
    pass_on zero xs at gone come meter none was = let e : at ≡ at + 0 = omega arith in subst (λ it. AreBranchesChanged bs xs it gone all_gone come all_come meter all) e was
    pass_on (suc n) xs at gone come meter none was =
        let e : (at + 1) + n ≡ at + suc n = omega arith in
        subst (λ it. AreBranchesChanged bs xs it gone all_gone come all_come meter all) e
        (pass_on n xs (at + 1) gone come meter (λ k x l m. none k x (omega (arith, l)) (omega (arith, m)))
        (pass_one xs at gone come meter (λ x. none at x (omega arith) (omega arith)) was))

    pub pass_to : (xs : List B) (at to : ℕ) (gone come : List KeyValue) (meter : ℕ) → at ≤ to → ((k : ℕ) (x : B) → at ≤ k → k < to → slice_get xs k ≡ Some x → Before k x → IsBranchUnconcerned k x)
        → AreBranchesChanged bs xs at gone all_gone come all_come meter all → AreBranchesChanged bs xs to gone all_gone come all_come meter all
    pass_to xs at to gone come meter up none was =
        let e : at + (to - at) ≡ to = omega (arith, up) in
        subst (λ it. AreBranchesChanged bs xs it gone all_gone come all_come meter all) e
        (pass_on (to - at) xs at gone come meter (λ k x l m. none k x l (omega (arith, m, up))) was)

    -- the branch at the place is changed
    pub change_one : (xs : List B) (at : ℕ) (old new : B) (delta delta' : Delta) (meter meter' : ℕ) → slice_get xs at ≡ Some old → IsBranchChanged of After fs fs' cost rule at old new delta delta' meter meter'
        → AreBranchesChanged bs xs at delta.gone.items all_gone delta.come.items all_come meter all
        → AreBranchesChanged bs (set xs at new) (at + 1) delta'.gone.items all_gone delta'.come.items all_come meter' all
    change_one xs at old new delta delta' meter meter' h now was =
        let within = got_within xs at old h in
        let d : drop at bs ≡ of old ∷ drop (at + 1) bs = dropped_at bs at (of old) (subst (λ ys. slice_get ys at ≡ Some (of old)) was.stays (got_mapped of xs at old h)) in
        record {
          stays = map-set_same of xs at new old (now.stay ∙ ap of (sym (within.1 old))) ∙ was.stays;
          done = λ k y l i. elim (cases_eq k at) as (λ _. After k y) [
            | inl e ↦ (let same : Some y ≡ Some new = sym i ∙ (ap (slice_get (set xs at new)) e ∙ got_set_same xs at old new h) in let is : y ≡ new = cc in
                subst (λ (it : B). After k it) (sym is) (subst (λ n. After n new) (sym e) now.is))
            | inr ne ↦ was.done k y (omega (arith, l, ne)) (sym (got_set_other xs at k new ne) ∙ i)
          ];
          todo = λ k y l i. let ne : k ≢ at = omega (arith, l) in was.todo k y (omega (arith, l)) (sym (got_set_other xs at k new ne) ∙ i);
          lost = told_on at (of old) fs' fs delta.gone.items delta'.gone.items all_gone d was.lost now.told.gone;
          told = told_on at (of old) fs fs' delta.come.items delta'.come.items all_come d was.told now.told.come;
          paid = let e = paid_on at (of old) d in let paid = was.paid in let more = now.paid in omega (arith, e, paid, more);
        }

    -- at the end
    module _ (xs : List B) (at : ℕ) (gone come : List KeyValue) (meter : ℕ) (past : length xs ≤ at) (was : AreBranchesChanged bs xs at gone all_gone come all_come meter all) where
      none_left : drop at bs ≡ []
      none_left = none_at bs at (subst (λ ys. slice_get ys at ≡ None) was.stays (none_mapped of xs at (slice_get_past xs at past)))

      pub branches_lost : gone ≡ all_gone
      branches_lost = sym (append-nil gone) ∙ (ap (λ it. gone ++ come_of (branch_keys rule at it fs') (branch_keys rule at it fs)) (sym none_left) ∙ was.lost)

      pub branches_told : come ≡ all_come
      branches_told = sym (append-nil come) ∙ (ap (λ it. come ++ come_of (branch_keys rule at it fs) (branch_keys rule at it fs')) (sym none_left) ∙ was.told)

      pub branches_paid : meter ≤ all
      branches_paid = let paid = was.paid in omega (arith, paid)

  -- before all
  pub branches_left : (xs : List B) → ((k : ℕ) (x : B) → slice_get xs k ≡ Some x → Before k x) → (gone come : List KeyValue) (meter : ℕ)
      → AreBranchesChanged (map of xs) xs 0
      gone (gone ++ come_of (branch_keys rule 0 (map of xs) fs') (branch_keys rule 0 (map of xs) fs))
      come (come ++ come_of (branch_keys rule 0 (map of xs) fs) (branch_keys rule 0 (map of xs) fs'))
      meter (meter + branches_sum cost (map of xs))
  branches_left xs are gone come meter = record {
    stays = refl;
    done = λ k x l i. absurd (omega (arith, l));
    todo = λ k x l i. are k x i;
    lost = refl;
    told = refl;
    paid = omega arith;
  }
