-- The first of the lengths.
use Rattle.std.proofs.Common.{arith, ◌≡◌, ◌∙◌, ◌++◌, ◌+◌, ◌-◌, ◌<◌, ◌≤◌, ◌==◌, ℕ, zero, suc, Bool, true, false, List, [], ◌∷◌, ap, drop, get_or, length, refl, replicate, subst, sym, take, if◌then◌else◌}
use Rattle.std.proofs.lemmas.Bool.{eqb-false, eqb-true}
use Rattle.std.proofs.lemmas.List.{append-nil, append_assoc, length-append, length-replicate, length-take}
use Rattle.std.specs.List.{flat_map}
use Rattle.cb_constraints.specs.Internal.Lengths.{BeginsBeyond, HasTotals, IsFront, all_lengths, last_count, last_fields, segment_lengths}
use Rattle.cb_constraints.specs.Internal.NextLengths.{next_length}
use Rattle.cb_constraints.specs.Internal.Values.{fields_taken}
use Rattle.cb_constraints.specs.declared.segments.Segment.{Segment}

parted : (s : Segment) (ss : List Segment) (ones : ℕ) → all_lengths (s ∷ ss) ones ≡ replicate s.ones 1 ++ s.length ∷ all_lengths ss ones
parted s ss ones =
    ap (λ xs. xs ++ replicate ones 1) (append_assoc (replicate s.ones 1) (s.length ∷ []) (flat_map segment_lengths ss))
    ∙ append_assoc (replicate s.ones 1) (s.length ∷ flat_map segment_lengths ss) (replicate ones 1)

ones-first : (m k : ℕ) (xs : List ℕ) → k ≤ m → take k (replicate m 1 ++ xs) ≡ replicate k 1
ones-first m zero xs le = refl
ones-first zero (suc k) xs le = absurd (omega (arith, le))
ones-first (suc m) (suc k) xs le = ap (λ ys. 1 ∷ ys) (ones-first m k xs (omega (arith, le)))

past-ones : (m n k : ℕ) (xs : List ℕ) → take (suc m + k) (replicate m 1 ++ n ∷ xs) ≡ replicate m 1 ++ n ∷ take k xs
past-ones zero n k xs = ap (λ j. take j (n ∷ xs)) one
  where
    one : suc zero + k ≡ suc k
    one = omega arith
past-ones (suc m) n k xs = ap (λ j. take j (1 ∷ (replicate m 1 ++ n ∷ xs))) one ∙ ap (λ ys. 1 ∷ ys) (past-ones m n k xs)
  where
    one : suc (suc m) + k ≡ suc (suc m + k)
    one = omega arith

not-less : (count fields : ℕ) (front others : List Segment) → HasTotals count fields (front ++ others) → count ≤ last_count count front
not-less count fields [] others h = omega arith
not-less count fields (s ∷ ss) others (a, b, more) = omega (arith, a, not-less s.count s.fields ss others more)

kept : (count before fields ones : ℕ) (front others : List Segment) → HasTotals before fields (front ++ others) → BeginsBeyond count others → last_count before front ≤ count → count - before ≤ length (all_lengths (front ++ others) ones)
    → all_lengths front (count - last_count before front) ≡ take (count - before) (all_lengths (front ++ others) ones)
kept count before fields ones [] [] h beyond le within =
    sym (ap (take (count - before)) (sym (append-nil (replicate ones 1))) ∙ ones-first ones (count - before) [] (omega (arith, within, length-replicate ones one)))
  where
    one : ℕ
    one = 1
kept count before fields ones [] (s ∷ ss) (a, b, more) beyond le within =
    sym (ap (take (count - before)) (parted s ss ones) ∙ ones-first s.ones (count - before) (s.length ∷ all_lengths ss ones) (omega (arith, beyond, a, le)))
kept count before fields ones (s ∷ ss) others (a, b, more) beyond le within =
    parted s ss (count - last_count s.count ss)
    ∙ (ap (λ xs. replicate s.ones 1 ++ s.length ∷ xs) (kept count s.count s.fields ones ss others more beyond le (omega (arith, within, longer, enough)))
    ∙ sym (ap (take (count - before)) (parted s (ss ++ others) ones)
    ∙ (ap (λ k. take k (replicate s.ones 1 ++ s.length ∷ all_lengths (ss ++ others) ones)) enough
    ∙ past-ones s.ones s.length (count - s.count) (all_lengths (ss ++ others) ones))))
  where
    low : s.count ≤ count
    low = omega (arith, le, not-less s.count s.fields ss others more)

    enough : count - before ≡ suc s.ones + (count - s.count)
    enough = omega (arith, low, a)

    longer : length (all_lengths (s ∷ (ss ++ others)) ones) ≡ suc s.ones + length (all_lengths (ss ++ others) ones)
    longer = ap length (parted s (ss ++ others) ones) ∙ (length-append (replicate s.ones 1) (s.length ∷ all_lengths (ss ++ others) ones) ∙ (ap (λ k. k + suc (length (all_lengths (ss ++ others) ones))) (length-replicate s.ones 1) ∙ omega arith))

-- the segments that end within the first lengths, and the fields after these, have them
pub cut_short : (count ones : ℕ) (all front : List Segment) → HasTotals 0 0 all → IsFront count all front → last_count 0 front ≤ count → count ≤ length (all_lengths all ones)
    → all_lengths front (count - last_count 0 front) ≡ take count (all_lengths all ones)
cut_short count ones all front h f le within =
    kept count 0 0 ones front f.others (subst (λ ss. HasTotals 0 0 ss) f.parted h) f.beyond le (omega (arith, subst (λ ss. count ≤ length (all_lengths ss ones)) f.parted within))
    ∙ (ap (λ k. take k (all_lengths (front ++ f.others) ones)) none ∙ ap (λ ss. take count (all_lengths ss ones)) (sym f.parted))
  where
    none : count - 0 ≡ count
    none = omega arith

totals-front : (count fields : ℕ) (front others : List Segment) → HasTotals count fields (front ++ others) → HasTotals count fields front
totals-front count fields [] others h = tt
totals-front count fields (s ∷ ss) others (a, b, more) = (a, b, totals-front s.count s.fields ss others more)

pub totals_kept : (count : ℕ) (all front : List Segment) → HasTotals 0 0 all → IsFront count all front → HasTotals 0 0 front
totals_kept count all front h f = totals-front 0 0 front f.others (subst (λ ss. HasTotals 0 0 ss) f.parted h)

pub length_kept : (count ones : ℕ) (all front : List Segment) → HasTotals 0 0 all → IsFront count all front → last_count 0 front ≤ count → count ≤ length (all_lengths all ones)
    → count ≡ length (all_lengths front (count - last_count 0 front))
length_kept count ones all front h f le within = sym (ap length (cut_short count ones all front h f le within) ∙ (length-take count (all_lengths all ones) ∙ omega (arith, within)))

all-ones : (k : ℕ) → fields_taken (replicate k 1) ≡ k
all-ones zero = refl
all-ones (suc k) = ap (λ n. 1 + n) (all-ones k) ∙ omega arith

after-ones : (m n : ℕ) (xs : List ℕ) → fields_taken (replicate m 1 ++ n ∷ xs) ≡ m + n + fields_taken xs
after-ones zero n xs = omega arith
after-ones (suc m) n xs = ap (λ f. 1 + f) (after-ones m n xs) ∙ omega arith

fields-in : (count fields k : ℕ) (ss : List Segment) → HasTotals count fields ss → fields + fields_taken (all_lengths ss k) ≡ last_fields fields ss + k
fields-in count fields k [] h = ap (λ n. fields + n) (all-ones k)
fields-in count fields k (s ∷ ss) (a, b, more) =
    ap (λ n. fields + n) (ap fields_taken (parted s ss k) ∙ after-ones s.ones s.length (all_lengths ss k))
    ∙ (omega (arith, b) ∙ fields-in s.count s.fields k ss more)

-- how many fields the first lengths have together
pub taken_before : (count ones : ℕ) (all front : List Segment) → HasTotals 0 0 all → IsFront count all front → last_count 0 front ≤ count → count ≤ length (all_lengths all ones)
    → fields_taken (take count (all_lengths all ones)) ≡ last_fields 0 front + (count - last_count 0 front)
taken_before count ones all front h f le within =
    sym (ap fields_taken (cut_short count ones all front h f le within))
    ∙ (sym (none (fields_taken (all_lengths front (count - last_count 0 front)))) ∙ fields-in 0 0 (count - last_count 0 front) front (totals_kept count all front h f))
  where
    none : (k : ℕ) → 0 + k ≡ k
    none k = omega arith

-- a length by its number
among-ones : (m k : ℕ) (xs : List ℕ) → k < m → get_or (replicate m 1 ++ xs) k 0 ≡ 1
among-ones zero k xs lt = absurd (omega (arith, lt))
among-ones (suc m) zero xs lt = refl
among-ones (suc m) (suc k) xs lt = among-ones m k xs (omega (arith, lt))

at-end : (m n : ℕ) (xs : List ℕ) → get_or (replicate m 1 ++ n ∷ xs) m 0 ≡ n
at-end zero n xs = refl
at-end (suc m) n xs = at-end m n xs

past-end : (m n k : ℕ) (xs : List ℕ) → get_or (replicate m 1 ++ n ∷ xs) (suc m + k) 0 ≡ get_or xs k 0
past-end zero n k xs = ap (λ j. get_or (n ∷ xs) j 0) one
  where
    one : suc zero + k ≡ suc k
    one = omega arith
past-end (suc m) n k xs = ap (λ j. get_or (1 ∷ (replicate m 1 ++ n ∷ xs)) j 0) one ∙ past-end m n k xs
  where
    one : suc (suc m) + k ≡ suc (suc m + k)
    one = omega arith

length-after : (number before fields ones : ℕ) (front others : List Segment) → HasTotals before fields (front ++ others) → BeginsBeyond number others → last_count before front ≤ number
    → number - before < length (all_lengths (front ++ others) ones) → get_or (all_lengths (front ++ others) ones) (number - before) 0 ≡ next_length number others
length-after number before fields ones [] [] h beyond le within =
    ap (λ xs. get_or xs (number - before) 0) (sym (append-nil (replicate ones 1))) ∙ among-ones ones (number - before) [] (omega (arith, within, length-replicate ones one))
  where
    one : ℕ
    one = 1
length-after number before fields ones [] (s ∷ ss) (a, b, more) beyond le within = ap (λ xs. get_or xs (number - before) 0) (parted s ss ones) ∙ by (s.count - number == 1) refl
  where
    by : (last : Bool) → (s.count - number == 1) ≡ last → get_or (replicate s.ones 1 ++ s.length ∷ all_lengths ss ones) (number - before) 0 ≡ (if last then s.length else 1)
    by true e = ap (λ k. get_or (replicate s.ones 1 ++ s.length ∷ all_lengths ss ones) k 0) there ∙ at-end s.ones s.length (all_lengths ss ones)
      where
        one-left : s.count - number ≡ 1
        one-left = eqb-true (s.count - number) 1 e

        there : number - before ≡ s.ones
        there = omega (arith, one-left, a, le)
    by false e = among-ones s.ones (number - before) (s.length ∷ all_lengths ss ones) (earlier (eqb-false (s.count - number) 1 e))
      where
        earlier : (s.count - number ≡ 1 → ⊥) → number - before < s.ones
        earlier d = omega (arith, d, a, le, beyond)
length-after number before fields ones (s ∷ ss) others (a, b, more) beyond le within =
    ap (λ xs. get_or xs (number - before) 0) (parted s (ss ++ others) ones)
    ∙ (ap (λ k. get_or (replicate s.ones 1 ++ s.length ∷ all_lengths (ss ++ others) ones) k 0) enough
    ∙ (past-end s.ones s.length (number - s.count) (all_lengths (ss ++ others) ones)
    ∙ length-after number s.count s.fields ones ss others more beyond le (omega (arith, within, longer, enough))))
  where
    low : s.count ≤ number
    low = omega (arith, le, not-less s.count s.fields ss others more)

    enough : number - before ≡ suc s.ones + (number - s.count)
    enough = omega (arith, low, a)

    longer : length (all_lengths (s ∷ (ss ++ others)) ones) ≡ suc s.ones + length (all_lengths (ss ++ others) ones)
    longer = ap length (parted s (ss ++ others) ones) ∙ (length-append (replicate s.ones 1) (s.length ∷ all_lengths (ss ++ others) ones) ∙ (ap (λ k. k + suc (length (all_lengths (ss ++ others) ones))) (length-replicate s.ones 1) ∙ omega arith))

dropped : (front others : List Segment) → drop (length front) (front ++ others) ≡ others
dropped [] others = refl
dropped (s ∷ ss) others = dropped ss others

-- that of a constraint is the next one after the segments that end before it
pub length_is : (number ones : ℕ) (all front : List Segment) → HasTotals 0 0 all → IsFront number all front → last_count 0 front ≤ number → number < length (all_lengths all ones)
    → next_length number (drop (length front) all) ≡ get_or (all_lengths all ones) number 0
length_is number ones all front h f le within =
    ap (next_length number) (ap (drop (length front)) f.parted ∙ dropped front f.others)
    ∙ (sym (length-after number 0 0 ones front f.others (subst (λ ss. HasTotals 0 0 ss) f.parted h) f.beyond le (omega (arith, subst (λ ss. number < length (all_lengths ss ones)) f.parted within)))
    ∙ (ap (λ k. get_or (all_lengths (front ++ f.others) ones) k 0) none ∙ ap (λ ss. get_or (all_lengths ss ones) number 0) (sym f.parted)))
  where
    none : number - 0 ≡ number
    none = omega arith
