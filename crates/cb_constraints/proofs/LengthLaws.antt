-- Lengths with one segment more, or more fields.
use Rattle.std.proofs.Common.{arith, ◌≡◌, ◌∙◌, ◌++◌, ◌+◌, ℕ, suc, List, [], ◌∷◌, ap, length, refl, replicate, sym}
use Rattle.std.proofs.lemmas.Grind.{flat_map-append}
use Rattle.std.proofs.lemmas.List.{append-nil, append_assoc, length-append, length-replicate, replicate-append-replicate}
use Rattle.cb_constraints.specs.Internal.Lengths.{HasTotals, IsNext, all_lengths, last_count, last_fields, segment_lengths}
use Rattle.cb_constraints.specs.declared.segments.Segment.{Segment}
use Rattle.std.specs.List.{flat_map}

pub with_more_ones : (ss : List Segment) (ones more : ℕ) → all_lengths ss (ones + more) ≡ all_lengths ss ones ++ replicate more 1
with_more_ones ss ones more = ap (λ xs. flat_map segment_lengths ss ++ xs) (sym (replicate-append-replicate ones more 1)) ∙ sym (append_assoc (flat_map segment_lengths ss) (replicate ones 1) (replicate more 1))

pub with_one_more : (ss : List Segment) (ones n : ℕ) (s : Segment) → IsNext ss ones n s → all_lengths (ss ++ s ∷ []) 0 ≡ all_lengths ss ones ++ n ∷ []
with_one_more ss ones n s (o, l, c, f) =
    append-nil (flat_map segment_lengths (ss ++ s ∷ []))
    ∙ (flat_map-append segment_lengths ss (s ∷ [])
    ∙ (ap (λ xs. flat_map segment_lengths ss ++ xs) (append-nil (segment_lengths s) ∙ (ap (λ k. replicate k 1 ++ s.length ∷ []) o ∙ ap (λ k. replicate ones 1 ++ k ∷ []) l))
    ∙ sym (append_assoc (flat_map segment_lengths ss) (replicate ones 1) (n ∷ []))))

pub totals_one_more : (ss : List Segment) (ones n : ℕ) (s : Segment) → HasTotals 0 0 ss → IsNext ss ones n s → HasTotals 0 0 (ss ++ s ∷ [])
totals_one_more ss ones n s h (o, l, c, f) = at 0 0 ss h (c ∙ ap (λ k. suc (last_count 0 ss + k)) (sym o)) (f ∙ (ap (λ k. last_fields 0 ss + k + n) (sym o) ∙ ap (λ k. last_fields 0 ss + s.ones + k) (sym l)))
  where
    at : (count fields : ℕ) (ss : List Segment) → HasTotals count fields ss → s.count ≡ suc (last_count count ss + s.ones) → s.fields ≡ last_fields fields ss + s.ones + s.length → HasTotals count fields (ss ++ s ∷ [])
    at count fields [] h c f = (c, f, tt)
    at count fields (t ∷ ts) (a, b, more) c f = (a, b, at t.count t.fields ts more c f)

-- the count goes on with the constraints
total : (count fields : ℕ) (ss : List Segment) → HasTotals count fields ss → last_count count ss ≡ count + length (flat_map segment_lengths ss)
total count fields [] h = omega arith
total count fields (s ∷ ss) (a, b, more) =
    total s.count s.fields ss more
    ∙ (ap (λ k. k + length (flat_map segment_lengths ss)) a
    ∙ (sum-of (length (flat_map segment_lengths ss)) ∙ ap (λ k. count + k) (sym (length-append (segment_lengths s) (flat_map segment_lengths ss) ∙ ap (λ k. k + length (flat_map segment_lengths ss)) (one-segment s)))))
  where
    sum-of : (k : ℕ) → suc (count + s.ones) + k ≡ count + (suc s.ones + k)
    sum-of k = omega arith

    one-segment : (t : Segment) → length (segment_lengths t) ≡ suc t.ones
    one-segment t = length-append (replicate t.ones 1) (t.length ∷ []) ∙ (ap (λ k. k + 1) (length-replicate t.ones 1) ∙ add-one t.ones)
      where
        add-one : (k : ℕ) → k + 1 ≡ suc k
        add-one k = omega arith

pub counted_one_more : (ss : List Segment) (ones n : ℕ) (s : Segment) → HasTotals 0 0 ss → IsNext ss ones n s → s.count ≡ length (all_lengths (ss ++ s ∷ []) 0)
counted_one_more ss ones n s h (o, l, c, f) =
    c
    ∙ (ap (λ k. suc (k + ones)) (total 0 0 ss h)
    ∙ (sum-of (length (flat_map segment_lengths ss))
    ∙ sym (ap length (with_one_more ss ones n s (o, l, c, f))
    ∙ (length-append (all_lengths ss ones) (n ∷ [])
    ∙ ap (λ k. k + 1) (length-append (flat_map segment_lengths ss) (replicate ones 1) ∙ ap (λ k. length (flat_map segment_lengths ss) + k) (length-replicate ones 1))))))
  where
    sum-of : (k : ℕ) → suc (0 + k + ones) ≡ k + ones + 1
    sum-of k = omega arith

pub last_count_of : (count : ℕ) (ss : List Segment) (s : Segment) → last_count count (ss ++ s ∷ []) ≡ s.count
last_count_of count [] s = refl
last_count_of count (t ∷ ts) s = last_count_of t.count ts s

pub last_fields_of : (fields : ℕ) (ss : List Segment) (s : Segment) → last_fields fields (ss ++ s ∷ []) ≡ s.fields
last_fields_of fields [] s = refl
last_fields_of fields (t ∷ ts) s = last_fields_of t.fields ts s
