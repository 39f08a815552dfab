-- The facts of an alpha memory that are there, and how they are found.
use Rattle.std.proofs.Common.{◌≡◌, ◌≢◌, ◌∙◌, ◌<◌, ◌^◌, ℕ, Bool, true, false, List, Option, Some, None, ap, arith, cond, get_or, inl, inr, nat_eq, refl, sym}
use Rattle.std.proofs.lemmas.Bool.{cases_eq}
use Rattle.std.specs.List.{All}
use Rattle.std.specs.Option.{option_map_or}
use Rattle.cb_alpha.proofs.Numbers.{numbered_less, numbered_more}
use Rattle.cb_alpha.specs.AlphaMemories.{Candidates, candidate_in, index_of, live_in, values_in}
use Rattle.cb_alpha.specs.Buckets.{values_at}
use Rattle.cb_alpha.specs.Internal.FactNumbers.{AreSameNumbers}
use Rattle.cb_alpha.specs.Internal.Joined.{IsFiled, IsFiledBut, IsFound, IsInserted, JoinIndexValue}
use Rattle.cb_facts.specs.Facts.{FactValue}
use Rattle.cb_number_map.specs.Filed.{AreFound, ChangesAt}

same_number : (x y : ℕ) → x ≡ y → nat_eq x y ≡ true
same_number x y e = grind arith

other_number : (x y : ℕ) → x ≢ y → nat_eq x y ≡ false
other_number x y d = grind arith

some_none : {A P : Type 0} {a : A} (o : Option A) → o ≡ Some a → o ≡ None → P
some_none {A} {P} {a} o e f = absurd (let no : Some a ≡ None = sym e ∙ f in cc)

module _ (cs : Candidates) where
  -- all that can be read is there, where nothing is gone
  pub all_live : (n : ℕ) → live_in cs None n ≡ candidate_in cs n
  all_live n = refl

  pub gone_is : (number n : ℕ) → n ≡ number → live_in cs (Some number) n ≡ None
  gone_is number n e = ap (λ b. cond b None (candidate_in cs n)) (same_number n number e)

  pub others_live : (number n : ℕ) → n ≢ number → live_in cs (Some number) n ≡ candidate_in cs n
  others_live number n d = ap (λ b. cond b None (candidate_in cs n)) (other_number n number d)

  pub free_live : (gone : Option ℕ) (n : ℕ) → candidate_in cs n ≡ None → live_in cs gone n ≡ None
  free_live gone n none = by_flag (option_map_or (nat_eq n) gone false) (candidate_in cs n) none
    where
      by_flag : (b : Bool) (o : Option (ℕ × FactValue)) → o ≡ None → cond b None o ≡ None
      by_flag true o e = refl
      by_flag false o e = e

  -- where the gone one can be read, a free number is not gone
  pub not_gone : (gone : Option ℕ) (n : ℕ) → ((k : ℕ) → gone ≡ Some k → candidate_in cs k ≢ None) → candidate_in cs n ≡ None → option_map_or (nat_eq n) gone false ≡ false
  not_gone None n readable none = refl
  not_gone (Some k) n readable none = other_number n k (λ e. readable k refl (ap (candidate_in cs) (sym e) ∙ none))

-- facts that are there alike are filed alike
pub filed_alike : (found found' : ℕ → Option (ℕ × FactValue)) → ((n : ℕ) → found' n ≡ found n) → (joins : List JoinIndexValue) → All (IsFiled found) joins → All (IsFiled found') joins
filed_alike found found' same joins all k d l n = all k d l n ∙ ap (values_in (get_or joins k d).fields) (sym (same n))

pub filed_but : (found found' : ℕ → Option (ℕ × FactValue)) (number : ℕ) → ((n : ℕ) → n ≢ number → found' n ≡ found n) → (joins : List JoinIndexValue)
    → All (IsFiled found) joins → All (IsFiledBut number found') joins
filed_but found found' number same joins all k d l n ne = all k d l n ∙ ap (values_in (get_or joins k d).fields) (sym (same n ne))

pub numbers_alike : (find key key' : ℕ → Option ℕ) → ((n : ℕ) → key' n ≡ key n) → AreFound find key → AreFound find key'
numbers_alike find key key' same are k n = (λ h. same n ∙ (are k n).0 h, λ h. (are k n).1 (sym (same n) ∙ h))

numbers_unchanged : (find find' : ℕ → Option ℕ) → AreSameNumbers find find' → (key : ℕ → Option ℕ) → AreFound find key → AreFound find' key
numbers_unchanged find find' same key are k n = (λ h. (are k n).0 (sym (same k) ∙ h), λ h. same k ∙ (are k n).1 h)

module _ (cs : Candidates) (gone : Option ℕ) (numbers : ℕ → Option ℕ) (joins : List JoinIndexValue) (was : IsFound cs gone numbers joins) where
  -- a fact more
  module _ (cs' : Candidates) (number : ℕ) (f : ℕ × FactValue) (is : IsInserted cs cs' number f) (fits : number < 2 ^ 32) where
    pub unfiled : All (λ j. values_at j.facts number ≡ None) joins
    unfiled k d l = was.by_values k d l number ∙ ap (values_in (get_or joins k d).fields) (free_live cs gone number is.free)

    pub others_then : (n : ℕ) → n ≢ number → live_in cs' gone n ≡ live_in cs gone n
    others_then n d = ap (λ o. cond (option_map_or (nat_eq n) gone false) None o) (is.others n d)

    pub there_then : live_in cs' gone number ≡ Some f
    there_then = ap (λ b. cond b None (candidate_in cs' number)) (not_gone cs gone number was.readable is.free) ∙ is.there

    pub but_then : All (IsFiledBut number (live_in cs' gone)) joins
    but_then = filed_but (live_in cs gone) (live_in cs' gone) number others_then joins was.by_values

    pub found_more : (numbers' : ℕ → Option ℕ) (joins' : List JoinIndexValue) → ((n : ℕ) → index_of (live_in cs gone n) ≢ Some f.0) → ChangesAt numbers numbers' f.0 (Some number)
        → All (IsFiled (live_in cs' gone)) joins' → IsFound cs' gone numbers' joins'
    found_more numbers' joins' absent update filed = record {
      by_index = numbered_more numbers numbers' (λ n. index_of (live_in cs gone n)) (λ n. index_of (live_in cs' gone n)) f.0 number was.by_index
          (λ i d. ap index_of (others_then i d)) absent (ap index_of (free_live cs gone number is.free)) (ap index_of there_then) update;
      by_values = filed;
      readable = λ n e none. was.readable n e (sym (is.others n (λ same. was.readable n e (ap (candidate_in cs) same ∙ is.free))) ∙ none);
      small = λ n l. is.others n (λ same. absurd (omega (arith, l, fits, same))) ∙ was.small n l;
    }

    -- and the same taken back
    module _ (cs'' : Candidates) (free : candidate_in cs'' number ≡ None) (others : (n : ℕ) → n ≢ number → candidate_in cs'' n ≡ candidate_in cs' n) where
      pub back : (n : ℕ) → candidate_in cs'' n ≡ candidate_in cs n
      back n = elim (cases_eq n number) as (λ _. candidate_in cs'' n ≡ candidate_in cs n) [
        | inl e ↦ ap (candidate_in cs'') e ∙ (free ∙ sym (ap (candidate_in cs) e ∙ is.free))
        | inr d ↦ others n d ∙ is.others n d
      ]

      pub back_live : (n : ℕ) → live_in cs'' gone n ≡ live_in cs gone n
      back_live n = ap (λ o. cond (option_map_or (nat_eq n) gone false) None o) (back n)

      pub found_back : (numbers' : ℕ → Option ℕ) (joins' joins'' : List JoinIndexValue) → AreSameNumbers numbers numbers' → All (IsFiledBut number (live_in cs' gone)) joins'
          → ((found : ℕ → Option (ℕ × FactValue)) → found number ≡ None → All (IsFiledBut number found) joins' → All (IsFiled found) joins'') → IsFound cs'' gone numbers' joins''
      found_back numbers' joins' joins'' unchanged but taken = record {
        by_index = numbers_unchanged numbers numbers' unchanged (λ n. index_of (live_in cs'' gone n))
            (numbers_alike numbers (λ n. index_of (live_in cs gone n)) (λ n. index_of (live_in cs'' gone n)) (λ n. ap index_of (back_live n)) was.by_index);
        by_values = taken (live_in cs'' gone) (back_live number ∙ free_live cs gone number is.free)
            (λ k d l n ne. but k d l n ne ∙ ap (values_in (get_or joins' k d).fields) (others_then n ne ∙ sym (back_live n)));
        readable = λ n e none. was.readable n e (sym (back n) ∙ none);
        small = λ n l. back n ∙ was.small n l;
      }

-- a fact less
module _ (cs : Candidates) (numbers : ℕ → Option ℕ) (joins : List JoinIndexValue) (was : IsFound cs None numbers joins) (number index : ℕ) (there : index_of (candidate_in cs number) ≡ Some index) where
  pub found_less : (numbers' : ℕ → Option ℕ) (joins' : List JoinIndexValue) → ChangesAt numbers numbers' index None
      → ((found : ℕ → Option (ℕ × FactValue)) → found number ≡ None → All (IsFiledBut number found) joins → All (IsFiled found) joins') → IsFound cs (Some number) numbers' joins'
  found_less numbers' joins' update taken = record {
    by_index = numbered_less numbers numbers' (λ n. index_of (candidate_in cs n)) (λ n. index_of (live_in cs (Some number) n)) index number was.by_index
        (λ i d. ap index_of (others_live cs number i d)) there (ap index_of (gone_is cs number number refl)) update;
    by_values = taken (live_in cs (Some number)) (gone_is cs number number refl)
        (filed_but (live_in cs None) (live_in cs (Some number)) number (λ n d. others_live cs number n d) joins was.by_values);
    readable = λ n e none. readable_there (candidate_in cs number) index there (ap (candidate_in cs) (same_some e) ∙ none);
    small = was.small;
  }
    where
      readable_there : (o : Option (ℕ × FactValue)) (i : ℕ) → index_of o ≡ Some i → o ≡ None → ⊥
      readable_there o i e none = some_none (index_of o) e (ap index_of none)

      same_some : {a b : ℕ} → Some a ≡ Some b → a ≡ b
      same_some {a} {b} e = cc

-- what is gone is freed
module _ (cs : Candidates) (numbers : ℕ → Option ℕ) (joins : List JoinIndexValue) (number : ℕ) (was : IsFound cs (Some number) numbers joins)
    (cs' : Candidates) (free : candidate_in cs' number ≡ None) (others : (n : ℕ) → n ≢ number → candidate_in cs' n ≡ candidate_in cs n) where
  pub ended : (n : ℕ) → candidate_in cs' n ≡ live_in cs (Some number) n
  ended n = elim (cases_eq n number) as (λ _. candidate_in cs' n ≡ live_in cs (Some number) n) [
    | inl e ↦ ap (candidate_in cs') e ∙ (free ∙ sym (gone_is cs number n e))
    | inr d ↦ others n d ∙ sym (others_live cs number n d)
  ]

  pub found_ended : IsFound cs' None numbers joins
  found_ended = record {
    by_index = numbers_alike numbers (λ n. index_of (live_in cs (Some number) n)) (λ n. index_of (candidate_in cs' n)) (λ n. ap index_of (ended n)) was.by_index;
    by_values = filed_alike (live_in cs (Some number)) (live_in cs' None) ended joins was.by_values;
    readable = λ n e. absurd (let no : None ≡ Some n = e in cc);
    small = λ n l. ended n ∙ free_live cs (Some number) n (was.small n l);
  }
