-- How many of some numbers have a shape, and that no more have one than there are numbers.
use Rattle.std.proofs.Common.{◌≡◌, ◌+◌, ◌<◌, ◌≤◌, ℕ, zero, suc, Bool, List, [], ◌∷◌, Option, Some, None, ap, arith, cond, count_by, get_or, inl, inr, is_some, length, nat_cmp, refl, subst, take, take-take}
use Rattle.std.proofs.lemmas.Bool.{cases_lt}
use Rattle.std.proofs.lemmas.List.{get_or_past}
use Rattle.std.proofs.lemmas.List.Sums.{count_by_more_yes, sum_by-cons, sum_by-take-le}
use Rattle.std.proofs.lemmas.Map.Keys.{below_from_sorted}
use Rattle.std.specs.List.Sorted.{IsStrictlySortedBy}
use Rattle.cb_matches.proofs.Lists.{by_test}
use Rattle.cb_matches.specs.Chains.{In}

abbrev pub one_if : Bool → ℕ
one_if b = cond b 1 0

module _ {A : Type 0} (slots : List (Option A)) where
  abbrev pub has : ℕ → Bool
  has n = is_some (get_or slots n None)

  abbrev pub count : ℕ → ℕ
  count n = count_by is_some (take n slots)

  count_within : (b : ℕ) → count b ≤ count_by is_some slots
  count_within b = sum_by-take-le (λ o. cond (is_some o) 1 0) slots b

  count_rises : (b c : ℕ) → b ≤ c → count b ≤ count c
  count_rises b c l = subst (λ it. count_by is_some it ≤ count c) (take-take b c slots l) (sum_by-take-le (λ o. cond (is_some o) 1 0) (take c slots) b)

  one_counted : (b n : ℕ) → b ≤ n → count b + one_if (has n) ≤ count (n + 1)
  one_counted b n l =
      let up = count_rises b n l in
      let far = count_rises b (n + 1) (omega arith) in
      elim (cases_lt n (length slots)) as (λ _. count b + one_if (has n) ≤ count (n + 1)) [
        | inl within ↦ by_test (has n)
            (λ t. let more = count_by_more_yes is_some slots n None within t in let one : one_if (has n) ≡ 1 = ap one_if t in omega (arith, up, more, one))
            (λ t. let none : one_if (has n) ≡ 0 = ap one_if t in omega (arith, far, none))
        | inr beyond ↦ (let none : one_if (has n) ≡ 0 = ap (λ o. one_if (is_some o)) (get_or_past slots n None beyond) in omega (arith, far, none))
      ]

  -- of rising numbers up to one place among them, as many at most have something as there are
  pub record AreCounted (ns : List ℕ) (k start now : ℕ) : Type 0 where
    pub end : ℕ
    pub ahead : (j : ℕ) → k ≤ j → j < length ns → end ≤ get_or ns j 0
    pub most : now ≤ start + count end

  pub none_counted : (ns : List ℕ) (start : ℕ) → AreCounted ns 0 start start
  none_counted ns start = record { end = 0; ahead = λ j l m. omega arith; most = omega arith }

  pub counted_more : (ns : List ℕ) (k : ℕ) → k < length ns → IsStrictlySortedBy nat_cmp ns → (start now new : ℕ) → AreCounted ns k start now
      → new ≤ now + one_if (has (get_or ns k 0)) → AreCounted ns (k + 1) start new
  counted_more ns k l sorted start now new was more =
      let n : ℕ = get_or ns k 0 in
      let one = one_counted was.end n (was.ahead k (omega arith) l) in
      let most = was.most in
      record {
        end = n + 1;
        ahead = λ j m h. let less = below_from_sorted ns k j 0 sorted (omega arith) h in omega (arith, less);
        most = omega (arith, one, most, more);
      }

  pub all_counted : (ns : List ℕ) (k start now : ℕ) → AreCounted ns k start now → now ≤ start + count_by is_some slots
  all_counted ns k start now is = let most = is.most in let within = count_within is.end in omega (arith, most, within)

-- ---- as many numbers at least as there are places with something

-- the numbers but 0, each by one less
abbrev shifted : List ℕ → List ℕ
shifted [] = []
shifted (zero ∷ ns) = shifted ns
shifted (suc n ∷ ns) = n ∷ shifted ns

shifted_short : (ns : List ℕ) → length (shifted ns) ≤ length ns
shifted_short [] = omega arith
shifted_short (zero ∷ ns) = let more = shifted_short ns in omega (arith, more)
shifted_short (suc n ∷ ns) = let more = shifted_short ns in omega (arith, more)

shifted_less : (ns : List ℕ) → In 0 ns → length (shifted ns) + 1 ≤ length ns
shifted_less [] i = absurd i
shifted_less (zero ∷ ns) i = let more = shifted_short ns in omega (arith, more)
shifted_less (suc n ∷ ns) (inl e) = absurd (omega (arith, e))
shifted_less (suc n ∷ ns) (inr i) = let more = shifted_less ns i in omega (arith, more)

shifted_in : (n : ℕ) (ns : List ℕ) → In (suc n) ns → In n (shifted ns)
shifted_in n [] i = absurd i
shifted_in n (zero ∷ ns) (inl e) = absurd (omega (arith, e))
shifted_in n (zero ∷ ns) (inr i) = shifted_in n ns i
shifted_in n (suc m ∷ ns) (inl e) = inl (omega (arith, e))
shifted_in n (suc m ∷ ns) (inr i) = inr (shifted_in n ns i)

abbrev one_there : {A : Type 0} → Option A → ℕ
one_there o = cond (is_some o) 1 0

pub counted_in : {A : Type 0} (slots : List (Option A)) (ns : List ℕ) → ((n : ℕ) (a : A) → get_or slots n None ≡ Some a → In n ns) → count_by is_some slots ≤ length ns
counted_in {A} [] ns there = omega arith
counted_in {A} (None ∷ slots) ns there =
    let more = counted_in slots (shifted ns) (λ n a at. shifted_in n ns (there (suc n) a at)) in
    let short = shifted_short ns in
    let none : Option A = None in
    let same : count_by is_some (none ∷ slots) ≡ 0 + count_by is_some slots = sum_by-cons one_there none slots in
    omega (arith, more, short, same)
counted_in {A} (Some a ∷ slots) ns there =
    let more = counted_in slots (shifted ns) (λ n b at. shifted_in n ns (there (suc n) b at)) in
    let less = shifted_less ns (there 0 a refl) in
    let one : count_by is_some (Some a ∷ slots) ≡ 1 + count_by is_some slots = sum_by-cons one_there (Some a) slots in
    omega (arith, more, less, one)
