-- Keys with the numbers of their tokens, put in the order of keys.
use Rattle.std.proofs.Common.{◌≡◌, ◌∙◌, ◌+◌, ◌<◌, ◌≤◌, ℕ, false, List, [], ◌∷◌, ◌++◌, ap, ap₂, arith, get_or, inl, inr, length, map, refl, subst, sym}
use Rattle.std.proofs.lemmas.List.{get_or-map, length-map}
use Rattle.std.proofs.lemmas.List.Sorted.{Contains-permutation, IsPermutation-map, IsPermutation-sym}
use Rattle.std.specs.List.Sorted.{IsPermutation, IsSorted, IsSortedBy}
use Rattle.std.specs.Ordering.{is_lt}
use Rattle.cb_branch_end.specs.Internal.{AddsInOrder, AddsPairs}
use Rattle.cb_matches.proofs.Lists.{contains_in, in_contains, in_map, map_in}
use Rattle.cb_matches.specs.Chains.{In}
use Rattle.cb_matches.specs.Changes.{AddsNumbers, HaveNumbers}
use Rattle.cb_matches.specs.Keys.{KeyValue, key_cmp}

-- what stands in another order is the same
pub in_permuted : {A : Type 0} (xs ys : List A) → IsPermutation xs ys → (z : A) → In z ys → In z xs
in_permuted xs ys moves z h = contains_in z xs (Contains-permutation ys xs z (IsPermutation-sym xs ys moves) (in_contains z ys h))

abbrev Pair : Type 0
Pair = KeyValue × ℕ

abbrev first : Pair → KeyValue
first p = p.0

abbrev second : Pair → ℕ
second p = p.1

keys_sorted : (ps : List Pair) → IsSortedBy (λ (p : Pair) (q : Pair). is_lt (key_cmp p.0 q.0)) ps → IsSorted key_cmp (map first ps)
keys_sorted ps sorted k d l m =
    let long = length-map ps first in
    let here = get_or-map first ps k (d, 0) d (omega (arith, m, long)) in
    let next = get_or-map first ps (k + 1) (d, 0) d (omega (arith, m, long)) in
    ap₂ (λ (a : KeyValue) (b : KeyValue). is_lt (key_cmp a b)) next here ∙ sorted k (d, 0) l (omega (arith, m, long))

module _ (key : ℕ → KeyValue) where
  abbrev keyed : ℕ → Pair
  keyed n = (key n, n)

  numbers_of : (ns : List ℕ) → map second (map keyed ns) ≡ ns
  numbers_of [] = refl
  numbers_of (n ∷ ns) = ap (λ it. n ∷ it) (numbers_of ns)

  -- of pairs each of which is a key with its number
  keys_of : (ps : List Pair) → ((p : Pair) → In p ps → p.0 ≡ key p.1) → map first ps ≡ map key (map second ps)
  keys_of [] own = refl
  keys_of (p ∷ ps) own = ap₂ (λ (k : KeyValue) (ks : List KeyValue). k ∷ ks) (own p (inl refl)) (keys_of ps (λ q i. own q (inr i)))

  pub pairs_in_order : (ns : List ℕ) (old new : List KeyValue) (was now : List ℕ) → AddsPairs (map keyed ns) old new was now → AddsInOrder key ns old new was now
  pairs_in_order ns old new was now adds =
      let more : List Pair = adds.more in
      let own : (p : Pair) → In p more → p.0 ≡ key p.1 = (λ p i. let n = in_map keyed p ns (in_permuted (map keyed ns) more adds.permutes p i) in ap first n.2 ∙ ap key (sym (ap second n.2))) in
      let same = keys_of more own in
      record {
        more = map second more;
        is = adds.is ∙ ap (λ it. old ++ it) same;
        numbers_are = adds.numbers_are;
        permutes = subst (λ it. IsPermutation it (map second more)) (numbers_of ns) (IsPermutation-map second (map keyed ns) more adds.permutes);
        sorted = subst (λ ks. IsSorted key_cmp ks) same (keys_sorted more adds.sorted);
      }

  have_all : (Has : KeyValue → ℕ → Type 0) (ns : List ℕ) → ((n : ℕ) → In n ns → Has (key n) n) → HaveNumbers Has (map key ns) ns
  have_all Has [] has = tt
  have_all Has (n ∷ ns) has = (has n (inl refl), have_all Has ns (λ m i. has m (inr i)))

  pub adds_numbers : (Has : KeyValue → ℕ → Type 0) (ns : List ℕ) (old new : List KeyValue) (was now : List ℕ) → AddsInOrder key ns old new was now → ((n : ℕ) → In n ns → Has (key n) n)
      → (it : AddsNumbers Has old new was now) × ((n : ℕ) → In n ns → In (key n) it.more)
  adds_numbers Has ns old new was now adds has = (
    record {
      more = map key adds.more;
      more_numbers = adds.more;
      keys_are = adds.is;
      numbers_are = adds.numbers_are;
      have = have_all Has adds.more (λ n i. has n (in_permuted ns adds.more adds.permutes n i));
    },
    λ n i. map_in key adds.more n (in_permuted adds.more ns (IsPermutation-sym ns adds.more adds.permutes) n i),
  )
