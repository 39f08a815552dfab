-- What has one first part stands in one piece of an ordered list.
use Rattle.std.proofs.Common.{◌≡◌, ◌∙◌, ◌&&◌, ◌⊎◌, Bool, true, false, cond, List, [], ◌∷◌, Ordering, Less, Equal, Greater, ap, filter, inl, inr, is_eq, is_le, nat_cmp, ℕ, refl, subst, sym, arith}
use Rattle.std.proofs.lemmas.Map.Keys.{sorted_head, sorted_tail}
use Rattle.std.specs.BTreeMap.Range.{range_contains}
use Rattle.std.specs.BTreeSet.{insert_key}
use Rattle.std.specs.Cmp.{IsTotalOrder, tied_itself}
use Rattle.std.specs.Cmp.Lexicographic.{slice_cmp}
use Rattle.std.specs.List.{AllByRecursion}
use Rattle.std.specs.List.Sorted.{IsStrictlySortedBy}
use Rattle.std.specs.Ordering.{match_ordering, ordering_reverse, ordering_then}
use Rattle.std.specs.Set.{remove_key}
use Rattle.std.specs.declared.ops.Bound.TheVariants.{Included, Unbounded}
use Rattle.cb_matches.proofs.Lists.{by_test, filter_in}
use Rattle.cb_matches.specs.Chains.{Chain, In}

-- ---- answers of comparisons

pub by_order : {P : Type 0} (o : Ordering) → (o ≡ Less → P) → (o ≡ Equal → P) → (o ≡ Greater → P) → P
by_order Less less level more = less refl
by_order Equal less level more = level refl
by_order Greater less level more = more refl

pub then_equal : (r s : Ordering) → ordering_then r s ≡ Equal → (r ≡ Equal) × (s ≡ Equal)
then_equal Less s h = cc
then_equal Equal s h = (refl, h)
then_equal Greater s h = cc

pub then_assoc : (r s o : Ordering) → ordering_then r (ordering_then s o) ≡ ordering_then (ordering_then r s) o
then_assoc Less s o = refl
then_assoc Equal s o = refl
then_assoc Greater s o = refl

-- no list is less than one without members
pub nothing_least : {A : Type 0} (R : A → A → Ordering) (xs : List A) → is_le (slice_cmp R [] xs) ≡ true
nothing_least R [] = refl
nothing_least R (x ∷ xs) = refl

then_le : (r s : Ordering) → is_le (ordering_then r s) ≡ true → is_le r ≡ true
then_le Less s h = refl
then_le Equal s h = refl
then_le Greater s h = h

pub le_then : (r s : Ordering) → is_le r ≡ true → is_le s ≡ true → is_le (ordering_then r s) ≡ true
le_then Less s h k = refl
le_then Equal s h k = k
le_then Greater s h k = cc

le_both : (r : Ordering) → is_le r ≡ true → is_le (ordering_reverse r) ≡ true → r ≡ Equal
le_both Less h k = cc
le_both Equal h k = refl
le_both Greater h k = cc

pub not_equal : (r : Ordering) → (r ≡ Equal → ⊥) → is_eq r ≡ false
not_equal Less h = refl
not_equal Equal h = absurd (h refl)
not_equal Greater h = refl

pub least_number : (i : ℕ) → is_le (nat_cmp 0 i) ≡ true
least_number i = grind arith

false_true : false ≡ true → ⊥
false_true h = cc

and_true : (a : Bool) → (a && true) ≡ a
and_true true = refl
and_true false = refl

-- ---- lists

module _ {K : Type 0} where
  none_pass : (test : K → Bool) (xs : List K) → ((z : K) → In z xs → test z ≡ false) → filter test xs ≡ []
  none_pass test [] h = refl
  none_pass test (x ∷ xs) h = ap (λ b. cond b (x ∷ filter test xs) (filter test xs)) (h x (inl refl)) ∙ none_pass test xs (λ z i. h z (inr i))

  -- the longest beginning that passes
  abbrev pub run : (K → Bool) → List K → List K
  run test [] = []
  run test (x ∷ xs) = cond (test x) (x ∷ run test xs) []

  run_goes : (test : K → Bool) (x : K) (xs : List K) → test x ≡ true → run test (x ∷ xs) ≡ x ∷ run test xs
  run_goes test x xs t = ap (λ b. cond b (x ∷ run test xs) []) t

  run_stops : (test : K → Bool) (x : K) (xs : List K) → test x ≡ false → run test (x ∷ xs) ≡ []
  run_stops test x xs t = ap (λ b. cond b (x ∷ run test xs) []) t

  -- what it has, one step further
  pub one_further : (has : K → Bool) (y : K) (rest : List K) (z : K) → In z (run has (y ∷ rest)) → (z ≡ y) ⊎ In z (run has rest)
  one_further has y rest z i =
      by_test (has y)
      (λ t. subst (λ b. In z (cond b (y ∷ run has rest) [])) t i)
      (λ t. absurd (subst (λ b. In z (cond b (y ∷ run has rest) [])) t i))

  -- where it stops at once it has nothing
  pub none_further : (has : K → Bool) (y : K) (rest : List K) → has y ≡ false → (z : K) → In z (run has (y ∷ rest)) → ⊥
  none_further has y rest t z i = subst (λ it. In z it) (run_stops has y rest t) i

  module _ (from test : K → Bool) (R : K → K → Type 0) (begins : (z : K) → test z ≡ true → from z ≡ true)
      (between : (y z : K) → from y ≡ true → R y z → test z ≡ true → test y ≡ true) where
    run_by : (x : K) (xs : List K) → ((z : K) → In z xs → R x z) → run test (filter from xs) ≡ filter test xs → (a b : Bool)
        → from x ≡ a → test x ≡ b
        → run test (cond a (x ∷ filter from xs) (filter from xs)) ≡ cond b (x ∷ filter test xs) (filter test xs)
    run_by x xs ahead more true true f t = run_goes test x (filter from xs) t ∙ ap (λ ys. x ∷ ys) more
    run_by x xs ahead more true false f t =
        run_stops test x (filter from xs) t
        ∙ sym (none_pass test xs (λ z i. by_test (test z) (λ u. absurd (false_true (sym t ∙ between x z f (ahead z i) u))) (λ u. u)))
    run_by x xs ahead more false true f t = absurd (false_true (sym f ∙ begins x t))
    run_by x xs ahead more false false f t = more

    -- of those that are not before the piece, the longest beginning that passes is all that passes
    run_is : (xs : List K) → Chain R xs → run test (filter from xs) ≡ filter test xs
    run_is [] c = refl
    run_is (x ∷ xs) c = run_by x xs c.0 (run_is xs c.1) (from x) (test x) refl refl

  module _ (C : K → K → Ordering) where
    less_in : (x : K) (xs : List K) → AllByRecursion (λ y. C x y ≡ Less) xs → (z : K) → In z xs → C x z ≡ Less
    less_in x [] h z i = absurd i
    less_in x (y ∷ ys) h z (inl e) = ap (C x) e ∙ h.0
    less_in x (y ∷ ys) h z (inr i) = less_in x ys h.1 z i

    pub chain_of_keys : (ks : List K) → IsStrictlySortedBy C ks → Chain (λ (a : K) (b : K). C a b ≡ Less) ks
    chain_of_keys [] s = tt
    chain_of_keys (k ∷ ks) s = (λ z i. less_in k ks (sorted_head C k ks s) z i, chain_of_keys ks (sorted_tail C k ks s))

-- what lies between a first part and the same first part has it too, and what has it isn't before it with the least rest
module _ {F : Type 0} (R : F → F → Ordering) (total : IsTotalOrder R) (exact : (a b : F) → R a b ≡ Equal → a ≡ b) where
  piece_between : (q y z : F) (r s : Ordering) → is_le (ordering_then (R q y) r) ≡ true → ordering_then (R y z) s ≡ Less → z ≡ q
      → y ≡ q
  piece_between q y z r s low high e =
      let up : is_le (R y q) ≡ true = subst (λ it. is_le (R y it) ≡ true) e (then_le (R y z) s (ap is_le high)) in
      let down : is_le (ordering_reverse (R y q)) ≡ true = sym (ap is_le (total.antisymm q y)) ∙ then_le (R q y) r low in
      exact y q (le_both (R y q) up down)

  piece_begins : (q z : F) (s : Ordering) → z ≡ q → is_le s ≡ true → is_le (ordering_then (R q z) s) ≡ true
  piece_begins q z s e h =
      let level : R q z ≡ Equal = subst (λ it. R q it ≡ Equal) (sym e) (tied_itself total q) in
      subst (λ o. is_le (ordering_then o s) ≡ true) (sym level) h

-- ---- those with the first part of a probe

module _ {E F : Type 0} (C more : E → E → Ordering) (first : E → F) (R : F → F → Ordering) (total : IsTotalOrder R) (exact : (a b : F) → R a b ≡ Equal → a ≡ b)
    (splits : (a b : E) → C a b ≡ ordering_then (R (first a) (first b)) (more a b))
    (q : E) (least : (z : E) → is_le (more q z) ≡ true)
    (has : E → Bool) (has_is : (z : E) → has z ≡ true → first z ≡ first q) (is_has : (z : E) → first z ≡ first q → has z ≡ true) where
  abbrev ahead : E → E → Type 0
  ahead y z = C y z ≡ Less

  abbrev from : E → Bool
  from = range_contains C (Included q) Unbounded

  begins : (z : E) → has z ≡ true → from z ≡ true
  begins z t = and_true (is_le (C q z)) ∙ (ap is_le (splits q z) ∙ piece_begins R total exact (first q) (first z) (more q z) (has_is z t) (least z))

  between : (y z : E) → from y ≡ true → ahead y z → has z ≡ true → has y ≡ true
  between y z h k t =
      is_has y (piece_between R total exact (first q) (first y) (first z) (more q y) (more y z)
      (sym (ap is_le (splits q y)) ∙ (sym (and_true (is_le (C q y))) ∙ h)) (sym (splits y z) ∙ k) (has_is z t))

  -- stand in one piece from the probe on
  pub in_piece : (keys : List E) → IsStrictlySortedBy C keys → (z : E) → In z keys → first z ≡ first q → In z (run has (filter from keys))
  in_piece keys sorted z i e = subst (λ it. In z it) (sym (run_is from has ahead begins between keys (chain_of_keys C keys sorted))) (filter_in has z keys i (is_has z e))

-- ---- a set with one key more, or one less

module _ {K : Type 0} (C : K → K → Ordering) (k : K) where
  abbrev put : K → List K → Ordering → List K
  put x xs o = match_ordering o (k ∷ x ∷ xs) (x ∷ xs) (x ∷ insert_key C xs k)

  pub key_kept : (ks : List K) (z : K) → In z ks → In z (insert_key C ks k)
  key_kept [] z i = absurd i
  key_kept (x ∷ xs) z i =
      by_order (C k x)
      (λ less. subst (λ o. In z (put x xs o)) (sym less) (inr i))
      (λ level. subst (λ o. In z (put x xs o)) (sym level) i)
      (λ more. subst (λ o. In z (put x xs o)) (sym more) (elim i as (λ _. In z (x ∷ insert_key C xs k)) [ inl e ↦ inl e | inr j ↦ inr (key_kept xs z j) ]))

  pub key_there : (exact : (a b : K) → C a b ≡ Equal → a ≡ b) (ks : List K) → In k (insert_key C ks k)
  key_there exact [] = inl refl
  key_there exact (x ∷ xs) =
      by_order (C k x)
      (λ less. subst (λ o. In k (put x xs o)) (sym less) (inl refl))
      (λ level. subst (λ o. In k (put x xs o)) (sym level) (inl (exact k x level)))
      (λ more. subst (λ o. In k (put x xs o)) (sym more) (inr (key_there exact xs)))

pub key_stays : {K : Type 0} (test : K → Bool) (ks : List K) (z : K) → In z ks → test z ≡ false → In z (remove_key test ks)
key_stays test [] z i f = i
key_stays test (k ∷ ks) z (inl e) f = subst (λ b. In z (cond b ks (k ∷ remove_key test ks))) (sym (sym (ap test e) ∙ f)) (inl e)
key_stays test (k ∷ ks) z (inr i) f =
    by_test (test k)
    (λ t. subst (λ b. In z (cond b ks (k ∷ remove_key test ks))) (sym t) i)
    (λ t. subst (λ b. In z (cond b ks (k ∷ remove_key test ks))) (sym t) (inr (key_stays test ks z i f)))

-- what is left was there
pub key_left : {K : Type 0} (test : K → Bool) (ks : List K) (z : K) → In z (remove_key test ks) → In z ks
key_left test [] z i = i
key_left test (k ∷ ks) z i =
    by_test (test k)
    (λ t. inr (subst (λ b. In z (cond b ks (k ∷ remove_key test ks))) t i))
    (λ f. elim (subst (λ b. In z (cond b ks (k ∷ remove_key test ks))) f i) as (λ _. In z (k ∷ ks)) [ inl e ↦ inl e | inr j ↦ inr (key_left test ks z j) ])
