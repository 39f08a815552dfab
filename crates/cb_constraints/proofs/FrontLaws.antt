-- The segments that end within the first so many constraints.
use Rattle.std.proofs.Common.{arith, ◌≡◌, ◌∙◌, ◌++◌, ◌≤◌, ◌<◌, ℕ, zero, suc, false, true, leb, leb-true, List, [], ◌∷◌, Option, None, Some, ap, drop, length, option_to_list, slice_index_or, subst, sym, take}
use Rattle.std.proofs.lemmas.List.{append-nil, append_assoc, take-append-drop}
use Rattle.std.proofs.lemmas.Bool.{leb-false}
use Rattle.std.specs.List.Sorted.{IsNonDecreasingBy, IsPartitionPoint}
use Rattle.cb_constraints.proofs.LengthLaws.{last_count_of}
use Rattle.cb_constraints.specs.Internal.Lengths.{BeginsBeyond, HasTotals, IsFront, last_count}
use Rattle.cb_constraints.specs.declared.segments.Segment.{Segment}

pub whole_front : (count : ℕ) (all : List Segment) → IsFront count all all
whole_front count all = record { others = []; parted = sym (append-nil all); beyond = tt }

-- one more is left out
pub front_popped : (count : ℕ) (all front rest : List Segment) (last : Option Segment) → IsFront count all front → front ≡ rest ++ option_to_list last → count < last_count 0 front → IsFront count all rest
front_popped count all front rest None f e lt = subst (λ ss. IsFront count all ss) (e ∙ append-nil rest) f
front_popped count all front rest (Some s) f e lt = record {
  others = s ∷ f.others;
  parted = f.parted ∙ (ap (λ ss. ss ++ f.others) e ∙ append_assoc rest (s ∷ []) f.others);
  beyond = subst (λ n. count < n) (ap (last_count 0) e ∙ last_count_of 0 rest s) lt;
}

pub without_last : (count : ℕ) (all front : List Segment) (s : Segment) → all ≡ front ++ s ∷ [] → count < last_count 0 all → IsFront count all front
without_last count all front s e lt = record { others = s ∷ []; parted = e; beyond = subst (λ n. count < n) (ap (last_count 0) e ∙ last_count_of 0 front s) lt }

pub some_left : (count : ℕ) (ss : List Segment) → count < last_count 0 ss → 0 < length ss
some_left count [] lt = absurd (omega (arith, lt))
some_left count (s ∷ ss) lt = omega arith

-- the counts rise
at-least : (count fields : ℕ) (ss : List Segment) (d : Segment) → HasTotals count fields ss → (j : ℕ) → j < length ss → count ≤ (slice_index_or ss j d).count
at-least count fields [] d h j lt = absurd (omega (arith, lt))
at-least count fields (s ∷ ss) d (a, b, more) zero lt = omega (arith, a)
at-least count fields (s ∷ ss) d (a, b, more) (suc j) lt = omega (arith, a, at-least s.count s.fields ss d more j (omega (arith, lt)))

rising : (count fields : ℕ) (ss : List Segment) → HasTotals count fields ss → IsNonDecreasingBy (λ (s : Segment). s.count) ss
rising count fields [] h i j d le lt = absurd (omega (arith, lt))
rising count fields (s ∷ ss) (a, b, more) zero zero d le lt = omega arith
rising count fields (s ∷ ss) (a, b, more) zero (suc j) d le lt = at-least s.count s.fields ss d more j (omega (arith, lt))
rising count fields (s ∷ ss) (a, b, more) (suc i) zero d le lt = absurd (omega (arith, le))
rising count fields (s ∷ ss) (a, b, more) (suc i) (suc j) d le lt = rising s.count s.fields ss more i j d (omega (arith, le)) (omega (arith, lt))

pub counts_rise : (ss : List Segment) → HasTotals 0 0 ss → IsNonDecreasingBy (λ (s : Segment). s.count) ss
counts_rise ss h = rising 0 0 ss h

begins : (count k : ℕ) (ss : List Segment) → ((d : Segment) → k < length ss → count < (slice_index_or ss k d).count) → BeginsBeyond count (drop k ss)
begins count zero [] f = tt
begins count zero (s ∷ ss) f = f s (omega arith)
begins count (suc k) [] f = tt
begins count (suc k) (s ∷ ss) f = begins count k ss (λ d lt. f d (omega (arith, lt)))

ends : (count before k : ℕ) (ss : List Segment) → before ≤ count → ((i : ℕ) (d : Segment) → i < k → i < length ss → (slice_index_or ss i d).count ≤ count) → last_count before (take k ss) ≤ count
ends count before zero ss le f = le
ends count before (suc k) [] le f = le
ends count before (suc k) (s ∷ ss) le f = ends count s.count k ss (f zero s (omega arith) (omega arith)) (λ i d lt in_it. f (suc i) d (omega (arith, lt)) (omega (arith, in_it)))

-- those before a place that parts the counts
pub front_before : (count k : ℕ) (all : List Segment) → IsPartitionPoint (λ (s : Segment). leb s.count count ≡ true) (λ (s : Segment). leb s.count count ≡ false) all k → IsFront count all (take k all)
front_before count k all (low, high) = record {
  others = drop k all;
  parted = sym (take-append-drop k all);
  beyond = begins count k all (λ d lt. leb-false (slice_index_or all k d).count count (high k d (omega arith) lt));
}

pub ends_within : (count k : ℕ) (all : List Segment) → IsPartitionPoint (λ (s : Segment). leb s.count count ≡ true) (λ (s : Segment). leb s.count count ≡ false) all k → last_count 0 (take k all) ≤ count
ends_within count k all (low, high) = ends count 0 k all (omega arith) (λ i d lt in_it. leb-true (slice_index_or all i d).count count (low i d (omega arith) lt))
