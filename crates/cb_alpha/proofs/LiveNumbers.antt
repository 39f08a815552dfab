-- The numbers of the facts that are there, and whether there are any.
use Rattle.std.proofs.Common.{◌≡◌, ◌≢◌, ◌∙◌, ◌+◌, ℕ, zero, suc, pred, List, [], ◌∷◌, Option, Some, None, ap, arith, cond, count_by, inl, inr, is_some, refl, slice_index_or, sym}
use Rattle.std.proofs.lemmas.Bool.{cases_eq}
use Rattle.std.proofs.lemmas.List.Sums.{sum_by-cons}
use Rattle.cb_alpha.proofs.FoundFacts.{gone_is, others_live}
use Rattle.cb_alpha.proofs.Ranges.{once_in}
use Rattle.cb_alpha.proofs.ReadFacts.{gone_test, some_none}
use Rattle.cb_alpha.specs.AlphaMemories.{AlphaMemoryValue, AreLiveNumbers, Candidates, candidate_in, live, live_in}
use Rattle.cb_alpha.specs.Internal.Joined.{AreListed, group_for}
use Rattle.cb_alpha.specs.Turning.{were_in}
use Rattle.cb_facts.specs.Facts.{FactValue}
use Rattle.cb_groups.specs.Groups.{AreMembers, Membership, group_of}
use Rattle.cb_matches.proofs.Lists.{contains_in, in_contains}

-- ---- how many can be read

one_more : {A : Type 0} (a : A) (cs : List (Option A)) → count_by is_some (Some a ∷ cs) ≡ 1 + count_by is_some cs
one_more a cs = sum_by-cons (λ o. cond (is_some o) 1 0) (Some a) cs

-- none can
pub none_counted : {A : Type 0} (cs : List (Option A)) → count_by is_some cs ≡ 0 → (n : ℕ) → slice_index_or cs n None ≡ None
none_counted [] none n = refl
none_counted (None ∷ cs) none zero = refl
none_counted (None ∷ cs) none (suc n) = none_counted cs none n
none_counted (Some a ∷ cs) none n = let more = one_more a cs in absurd (omega (arith, none, more))

pub counted_none : (cs : Candidates) → ((n : ℕ) → candidate_in cs n ≡ None) → count_by is_some cs ≡ 0
counted_none [] none = refl
counted_none (None ∷ cs) none = counted_none cs (λ n. none (suc n))
counted_none (Some f ∷ cs) none = some_none (Some f) refl (none 0)

-- this one alone can
one_counted : (cs : Candidates) (k : ℕ) → candidate_in cs k ≢ None → count_by is_some cs ≡ 1 → (n : ℕ) → n ≢ k → candidate_in cs n ≡ None
one_counted [] k there one n d = refl
one_counted (None ∷ cs) zero there one n d = absurd (there refl)
one_counted (None ∷ cs) (suc k) there one zero d = refl
one_counted (None ∷ cs) (suc k) there one (suc n) d = one_counted cs k there one n (λ e. d (ap suc e))
one_counted (Some f ∷ cs) zero there one zero d = absurd (d refl)
one_counted (Some f ∷ cs) zero there one (suc n) d = let more = one_more f cs in none_counted cs (omega (arith, one, more)) n
one_counted (Some f ∷ cs) (suc k) there one n d = let more = one_more f cs in absurd (there (none_counted cs (omega (arith, one, more)) k))

counted_one : (cs : Candidates) (k : ℕ) → candidate_in cs k ≢ None → ((n : ℕ) → n ≢ k → candidate_in cs n ≡ None) → count_by is_some cs ≡ 1
counted_one [] k there none = absurd (there refl)
counted_one (None ∷ cs) zero there none = absurd (there refl)
counted_one (None ∷ cs) (suc k) there none = counted_one cs k there (λ n d. none (suc n) (λ e. d (ap pred e)))
counted_one (Some f ∷ cs) zero there none = one_more f cs ∙ ap (λ n. 1 + n) (counted_none cs (λ n. none (suc n) (omega arith)))
counted_one (Some f ∷ cs) (suc k) there none = some_none (Some f) refl (none 0 (omega arith))

-- the same of what is there when this one is gone, or was there when it came
pub none_live : (cs : Candidates) (k : ℕ) → candidate_in cs k ≢ None → count_by is_some cs ≡ 1 → (n : ℕ) → live_in cs (Some k) n ≡ None
none_live cs k there one n = elim (cases_eq n k) as (λ _. live_in cs (Some k) n ≡ None) [
  | inl e ↦ gone_is cs k n e
  | inr d ↦ others_live cs k n d ∙ one_counted cs k there one n d
]

pub live_none : (cs : Candidates) (k : ℕ) → candidate_in cs k ≢ None → ((n : ℕ) → live_in cs (Some k) n ≡ None) → count_by is_some cs ≡ 1
live_none cs k there none = counted_one cs k there (λ n d. sym (others_live cs k n d) ∙ none n)

-- what was there when the change began is what can be read but for what came
pub were_is : (m : AlphaMemoryValue) (n : ℕ) → were_in m n ≡ live_in m.candidates m.come n
were_is m n = ap (λ b. cond b None (candidate_in m.candidates n)) (sym (gone_test m n m.come))

-- ---- their numbers

pub no_group : (o : Option (ℕ × FactValue)) → o ≡ None → group_for o ≡ None
no_group o e = ap group_for e

one_there : (o : Option (ℕ × FactValue)) (g : ℕ) → group_for o ≡ Some g → (f : ℕ × FactValue) × (o ≡ Some f)
one_there None g e = absurd (let no : None ≡ Some g = e in cc)
one_there (Some f) g e = (f, refl)

module _ (all : Membership) (found : ℕ → Option (ℕ × FactValue)) (was : AreListed all found) (found' : ℕ → Option (ℕ × FactValue)) where
  pub listed_alike : ((n : ℕ) → found' n ≡ found n) → AreListed all found'
  listed_alike same n = was n ∙ ap group_for (sym (same n))

  -- but for one
  pub listed_then : (all' : Membership) (number : ℕ) → ((n : ℕ) → n ≢ number → group_of all' n ≡ group_of all n) → ((n : ℕ) → n ≢ number → found' n ≡ found n)
      → group_of all' number ≡ group_for (found' number) → AreListed all' found'
  listed_then all' number groups facts here n = elim (cases_eq n number) as (λ _. group_of all' n ≡ group_for (found' n)) [
    | inl e ↦ ap (group_of all') e ∙ (here ∙ ap (λ k. group_for (found' k)) (sym e))
    | inr d ↦ groups n d ∙ (was n ∙ ap group_for (sym (facts n d)))
  ]

-- who is listed is there, and all are
pub are_numbers : (m : AlphaMemoryValue) (all : Membership) → AreListed all (live m) → (ns : List ℕ) → AreMembers all 0 ns → AreLiveNumbers m ns
are_numbers m all listed ns members = record {
  are = λ n h. one_there (live m n) 0 (sym (listed n) ∙ (members.are n).0 (in_contains n ns h));
  all = λ n f e. contains_in n ns ((members.are n).1 (listed n ∙ ap group_for e));
  once = once_in ns members.once;
}
