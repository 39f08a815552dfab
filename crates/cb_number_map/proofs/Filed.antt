-- What the look-up of numbers by keys keeps.
use Rattle.std.proofs.Common.{◌≡◌, ◌≢◌, ◌⊎◌, ◌∙◌, inl, inr, ℕ, Bool, true, false, Option, Some, None, ap, ap₂, if◌then◌else◌, nat_eq, refl, sym}
use Rattle.std.proofs.lemmas.Bool.{false_from_ne_true}
use Rattle.std.specs.BTreeMap as tree
use Rattle.std.specs.BTreeMap.{BTreeMap, is_at}
use Rattle.std.specs.Bool.{Decides}
use Rattle.std.specs.Cmp.{unsigned_Decides}
use Rattle.std.specs.Option.{option_or}
use Rattle.std.specs.declared.cmp.Ordering.{Ordering}
use Rattle.cb_number_map.specs.Filed.{AreFound, ChangesAt, LeavesAside, is_key, number_in, with_own_key}
use Rattle.cb_number_map.specs.NumberMaps.{AreSameNumbers, Updates, number_at}
use Rattle.cb_number_map.specs.declared.number_map.NumberMap.{NumberMap}

number_by : (i j : ℕ) (b : Bool) → nat_eq i j ≡ b → (i ≡ j) ⊎ (i ≢ j)
number_by i j true e = inl ((unsigned_Decides i j).0 e)
number_by i j false e = inr (λ same. cc (e, (unsigned_Decides i j).1 same))

pub number_cases : (i j : ℕ) → (i ≡ j) ⊎ (i ≢ j)
number_cases i j = number_by i j (nat_eq i j) refl

pub same_some : {A : Type 0} {a b : A} (o : Option A) → o ≡ Some a → o ≡ Some b → a ≡ b
same_some {A} {a} {b} o e f = let both : Some a ≡ Some b = sym e ∙ f in cc

pub some_none : {A : Type 0} {a : A} (o : Option A) → o ≡ Some a → o ≡ None → ⊥
some_none {A} {a} o e f = let no : Some a ≡ None = sym e ∙ f in cc

module _ {K : Type 0} (eq : K → K → Bool) (order : K → K → Ordering) (mix : K → ℕ) (decides : (a b : K) → Decides (eq a b) (a ≡ b)) (ties : (a b : K) → eq a b ≡ is_at (order a) b) where
  key_by : (k q : K) (b : Bool) → eq k q ≡ b → (k ≡ q) ⊎ (k ≢ q)
  key_by k q true e = inl ((decides k q).0 e)
  key_by k q false e = inr (λ is. cc (e, (decides k q).1 is))

  pub key_cases : (k q : K) → (k ≡ q) ⊎ (k ≢ q)
  key_cases k q = key_by k q (eq k q) refl

  pub itself : (k : K) → eq k k ≡ true
  itself k = (decides k k).1 refl

  pub differs : (k q : K) → k ≢ q → eq k q ≡ false
  differs k q apart = false_from_ne_true (eq k q) (λ e. apart ((decides k q).0 e))

  other_mix : (m n : NumberMap) (i j : ℕ) (r : Option ℕ) → Updates m n i r → i ≢ j → number_at n j ≡ number_at m j
  other_mix m n i j r u apart = u.others j (λ e. apart (sym e))

  pub other_key : (a b : BTreeMap K ℕ) (k q : K) (r : Option ℕ) → tree.Updates order a b k r → k ≢ q → tree.get order b q ≡ tree.get order a q
  other_key a b k q r u apart = u.2 q (false_from_ne_true (is_at (order k) q) (λ e. apart ((decides k q).0 (ties k q ∙ e))))

  -- a number that is filed, and the key of its activation
  own_here : (keys : ℕ → Option K) (n : ℕ) (k : K) → keys n ≡ Some k → with_own_key eq keys (Some n) k ≡ Some n
  own_here keys n k h = let is : is_key eq (keys n) k ≡ true = ap (λ o. is_key eq o k) h ∙ itself k in rw (is) refl

  own_other : (keys : ℕ → Option K) (n : ℕ) (k q : K) → keys n ≡ Some k → k ≢ q → with_own_key eq keys (Some n) q ≡ None
  own_other keys n k q h apart = let is : is_key eq (keys n) q ≡ false = ap (λ o. is_key eq o q) h ∙ differs k q apart in rw (is) refl

  no_key : (o : Option K) (k : K) → o ≢ Some k → is_key eq o k ≡ false
  no_key None k h = refl
  no_key (Some q) k h = differs q k (λ same. h (ap (λ (l : K). Some l) same))

  own_none : (keys : ℕ → Option K) (n : ℕ) (k : K) → keys n ≢ Some k → with_own_key eq keys (Some n) k ≡ None
  own_none keys n k h = let is : is_key eq (keys n) k ≡ false = no_key (keys n) k h in rw (is) refl

  own_same : (keys more : ℕ → Option K) (o : Option ℕ) (q : K) → ((n : ℕ) → is_key eq (more n) q ≡ is_key eq (keys n) q) → with_own_key eq more o q ≡ with_own_key eq keys o q
  own_same keys more None q h = refl
  own_same keys more (Some n) q h = ap (λ b. if b then Some n else None) (h n)

  -- nothing is filed under the mix of a key, and it doesn't stand aside: no number has it
  pub seen_absent : (keys : ℕ → Option K) (m : NumberMap) (a : BTreeMap K ℕ) (k : K) → AreFound (number_in eq order mix keys m a) keys → number_at m (mix k) ≡ None → tree.get order a k ≡ None → (i : ℕ) → keys i ≢ Some k
  seen_absent keys m a k was filed aside i h =
      some_none (number_in eq order mix keys m a k) ((was k i).1 h) (ap₂ (λ o p. option_or (with_own_key eq keys o k) p) filed aside)

  pub same_found : (keys : ℕ → Option K) (m m' : NumberMap) (a : BTreeMap K ℕ) → AreSameNumbers m m' → AreFound (number_in eq order mix keys m a) keys → AreFound (number_in eq order mix keys m' a) keys
  same_found keys m m' a same was k n =
      let e : number_in eq order mix keys m' a k ≡ number_in eq order mix keys m a k = ap (λ o. option_or (with_own_key eq keys o k) (tree.get order a k)) (same (mix k)) in
      (λ h. (was k n).0 (sym e ∙ h), λ h. e ∙ (was k n).1 h)

  -- an activation comes with a key that no other has
  module _ (keys more : ℕ → Option K) (n : ℕ) (k : K) (absent : (i : ℕ) → keys i ≢ Some k) (free : keys n ≡ None) (change : ChangesAt keys more n (Some k)) where
    others_more : (q : K) → k ≢ q → (i : ℕ) → is_key eq (more i) q ≡ is_key eq (keys i) q
    others_more q apart i = elim (number_cases n i) as (λ _. is_key eq (more i) q ≡ is_key eq (keys i) q) [
      | inl same ↦ ap (λ o. is_key eq o q) (ap more (sym same) ∙ change.here) ∙ differs k q apart ∙ sym (ap (λ o. is_key eq o q) (ap keys (sym same) ∙ free))
      | inr other ↦ ap (λ o. is_key eq o q) (change.others i other)
    ]

    own_more : (q : K) → k ≢ q → (o : Option ℕ) → with_own_key eq more o q ≡ with_own_key eq keys o q
    own_more q apart o = own_same keys more o q (others_more q apart)

    found_more : (find found : K → Option ℕ) → AreFound find keys → ChangesAt find found k (Some n) → AreFound found more
    found_more find found was new q i = elim (key_cases k q) as (λ _. (found q ≡ Some i → more i ≡ Some q) × (more i ≡ Some q → found q ≡ Some i)) [
      | inl same ↦ (
        λ h.
            let is : n ≡ i = same_some (found q) (ap found (sym same) ∙ new.here) h in
            ap more (sym is) ∙ change.here ∙ ap (λ (l : K). Some l) same,
        λ h. elim (number_cases n i) as (λ _. found q ≡ Some i) [
          | inl is ↦ ap found (sym same) ∙ new.here ∙ ap (λ (j : ℕ). Some j) is
          | inr other ↦ absurd (absent i (sym (change.others i other) ∙ h ∙ ap (λ (l : K). Some l) (sym same)))
        ],
      )
      | inr apart ↦ (
        λ h.
            let old : keys i ≡ Some q = (was q i).0 (sym (new.others q apart) ∙ h) in
            change.others i (λ is. some_none (keys i) old (ap keys (sym is) ∙ free)) ∙ old,
        λ h. elim (number_cases n i) as (λ _. found q ≡ Some i) [
          | inl is ↦ absurd (apart (same_some (more i) (ap more (sym is) ∙ change.here) h))
          | inr other ↦ new.others q apart ∙ (was q i).1 (sym (change.others i other) ∙ h)
        ],
      )
    ]

    -- its number is filed under a mix under which none is
    filed_more : (m m' : NumberMap) (a : BTreeMap K ℕ) → number_at m (mix k) ≡ None → Updates m m' (mix k) (Some n) → ChangesAt (number_in eq order mix keys m a) (number_in eq order mix more m' a) k (Some n)
    filed_more m m' a none u = record {
      here = ap (λ o. option_or (with_own_key eq more o k) (tree.get order a k)) u.changed ∙ ap (λ o. option_or o (tree.get order a k)) (own_here more n k change.here);
      others = λ q apart. elim (number_cases (mix k) (mix q)) as (λ _. number_in eq order mix more m' a q ≡ number_in eq order mix keys m a q) [
        | inl e ↦
            let now : with_own_key eq more (number_at m' (mix q)) q ≡ None = ap (λ i. with_own_key eq more (number_at m' i) q) (sym e) ∙ ap (λ o. with_own_key eq more o q) u.changed ∙ own_other more n k q change.here apart in
            let old : with_own_key eq keys (number_at m (mix q)) q ≡ None = ap (λ i. with_own_key eq keys (number_at m i) q) (sym e) ∙ ap (λ o. with_own_key eq keys o q) none in
            ap (λ o. option_or o (tree.get order a q)) (now ∙ sym old)
        | inr differ ↦ ap (λ o. option_or (with_own_key eq more o q) (tree.get order a q)) (other_mix m m' (mix k) (mix q) (Some n) u differ)
            ∙ ap (λ o. option_or o (tree.get order a q)) (own_more q apart (number_at m (mix q)))
      ];
    }

    pub noted_filed : (m m' : NumberMap) (a : BTreeMap K ℕ) → AreFound (number_in eq order mix keys m a) keys → number_at m (mix k) ≡ None → Updates m m' (mix k) (Some n) → AreFound (number_in eq order mix more m' a) more
    noted_filed m m' a was none u = found_more (number_in eq order mix keys m a) (number_in eq order mix more m' a) was (filed_more m m' a none u)

    -- it stands aside
    own_new : (o : Option ℕ) → option_or (with_own_key eq more o k) (Some n) ≡ Some n
    own_new None = refl
    own_new (Some i) = elim (number_cases n i) as (λ _. option_or (with_own_key eq more (Some i) k) (Some n) ≡ Some n) [
      | inl is ↦ ap (λ o. option_or o (Some n)) (own_here more i k (ap more (sym is) ∙ change.here)) ∙ ap (λ (j : ℕ). Some j) (sym is)
      | inr other ↦ ap (λ o. option_or o (Some n)) (own_none more i k (λ h. absent i (sym (change.others i other) ∙ h)))
    ]

    aside_more : (m : NumberMap) (a b : BTreeMap K ℕ) → tree.Updates order a b k (Some n) → ChangesAt (number_in eq order mix keys m a) (number_in eq order mix more m b) k (Some n)
    aside_more m a b u = record {
      here = ap (option_or (with_own_key eq more (number_at m (mix k)) k)) u.1 ∙ own_new (number_at m (mix k));
      others = λ q apart. ap (option_or (with_own_key eq more (number_at m (mix q)) q)) (other_key a b k q (Some n) u apart)
          ∙ ap (λ o. option_or o (tree.get order a q)) (own_more q apart (number_at m (mix q)));
    }

    pub noted_aside : (m : NumberMap) (a b : BTreeMap K ℕ) → AreFound (number_in eq order mix keys m a) keys → tree.Updates order a b k (Some n) → AreFound (number_in eq order mix more m b) more
    noted_aside m a b was u = found_more (number_in eq order mix keys m a) (number_in eq order mix more m b) was (aside_more m a b u)

  -- an activation goes
  module _ (keys less : ℕ → Option K) (n : ℕ) (k : K) (there : keys n ≡ Some k) (change : ChangesAt keys less n None) where
    others_less : (q : K) → k ≢ q → (i : ℕ) → is_key eq (less i) q ≡ is_key eq (keys i) q
    others_less q apart i = elim (number_cases n i) as (λ _. is_key eq (less i) q ≡ is_key eq (keys i) q) [
      | inl same ↦ ap (λ o. is_key eq o q) (ap less (sym same) ∙ change.here) ∙ sym (ap (λ o. is_key eq o q) (ap keys (sym same) ∙ there) ∙ differs k q apart)
      | inr other ↦ ap (λ o. is_key eq o q) (change.others i other)
    ]

    own_less : (q : K) → k ≢ q → (o : Option ℕ) → with_own_key eq less o q ≡ with_own_key eq keys o q
    own_less q apart o = own_same keys less o q (others_less q apart)

    found_less : (find found : K → Option ℕ) → AreFound find keys → ChangesAt find found k None → AreFound found less
    found_less find found was new q i = elim (key_cases k q) as (λ _. (found q ≡ Some i → less i ≡ Some q) × (less i ≡ Some q → found q ≡ Some i)) [
      | inl same ↦ (
        λ h. absurd (some_none (found q) h (ap found (sym same) ∙ new.here)),
        λ h. elim (number_cases n i) as (λ _. found q ≡ Some i) [
          | inl is ↦ absurd (some_none (less i) h (ap less (sym is) ∙ change.here))
          | inr other ↦
              let one : find q ≡ Some i = (was q i).1 (sym (change.others i other) ∙ h) in
              let two : find q ≡ Some n = (was q n).1 (there ∙ ap (λ (l : K). Some l) same) in
              absurd (other (same_some (find q) two one))
        ],
      )
      | inr apart ↦ (
        λ h.
            let old : keys i ≡ Some q = (was q i).0 (sym (new.others q apart) ∙ h) in
            change.others i (λ is. apart (same_some (keys i) (ap keys (sym is) ∙ there) old)) ∙ old,
        λ h. elim (number_cases n i) as (λ _. found q ≡ Some i) [
          | inl is ↦ absurd (some_none (less i) h (ap less (sym is) ∙ change.here))
          | inr other ↦ new.others q apart ∙ (was q i).1 (sym (change.others i other) ∙ h)
        ],
      )
    ]

    -- its number was filed
    filed_less : (m m' : NumberMap) (a b : BTreeMap K ℕ) → number_at m (mix k) ≡ Some n → Updates m m' (mix k) None → LeavesAside order a b k → ChangesAt (number_in eq order mix keys m a) (number_in eq order mix less m' b) k None
    filed_less m m' a b filed u v = record {
      here = ap (λ o. option_or (with_own_key eq less o k) (tree.get order b k)) u.changed ∙ v.gone;
      others = λ q apart.
          ap (option_or (with_own_key eq less (number_at m' (mix q)) q)) (v.others q apart)
          ∙ ap (λ o. option_or o (tree.get order a q)) (elim (number_cases (mix k) (mix q)) as (λ _. with_own_key eq less (number_at m' (mix q)) q ≡ with_own_key eq keys (number_at m (mix q)) q) [
            | inl e ↦
                let now : with_own_key eq less (number_at m' (mix q)) q ≡ None = ap (λ i. with_own_key eq less (number_at m' i) q) (sym e) ∙ ap (λ o. with_own_key eq less o q) u.changed in
                let old : with_own_key eq keys (number_at m (mix q)) q ≡ None = ap (λ i. with_own_key eq keys (number_at m i) q) (sym e) ∙ ap (λ o. with_own_key eq keys o q) filed ∙ own_other keys n k q there apart in
                now ∙ sym old
            | inr differ ↦ ap (λ o. with_own_key eq less o q) (other_mix m m' (mix k) (mix q) None u differ) ∙ own_less q apart (number_at m (mix q))
          ]);
    }

    pub forgot_filed : (m m' : NumberMap) (a b : BTreeMap K ℕ) → AreFound (number_in eq order mix keys m a) keys → number_at m (mix k) ≡ Some n → Updates m m' (mix k) None → LeavesAside order a b k → AreFound (number_in eq order mix less m' b) less
    forgot_filed m m' a b was filed u v = found_less (number_in eq order mix keys m a) (number_in eq order mix less m' b) was (filed_less m m' a b filed u v)

    -- it stood aside
    own_gone : (find : K → Option ℕ) → AreFound find keys → (o : Option ℕ) → o ≢ Some n → with_own_key eq less o k ≡ None
    own_gone find was None h = refl
    own_gone find was (Some i) h = elim (number_cases n i) as (λ _. with_own_key eq less (Some i) k ≡ None) [
      | inl is ↦ absurd (h (ap (λ (j : ℕ). Some j) (sym is)))
      | inr other ↦ own_none less i k (λ own.
          let one : find k ≡ Some i = (was k i).1 (sym (change.others i other) ∙ own) in
          other (same_some (find k) ((was k n).1 there) one))
    ]

    pub forgot_aside : (m : NumberMap) (a b : BTreeMap K ℕ) → AreFound (number_in eq order mix keys m a) keys → number_at m (mix k) ≢ Some n → LeavesAside order a b k → AreFound (number_in eq order mix less m b) less
    forgot_aside m a b was other v = found_less (number_in eq order mix keys m a) (number_in eq order mix less m b) was (record {
      here = ap (λ o. option_or o (tree.get order b k)) (own_gone (number_in eq order mix keys m a) was (number_at m (mix k)) other) ∙ v.gone;
      others = λ q apart. ap (option_or (with_own_key eq less (number_at m (mix q)) q)) (v.others q apart)
          ∙ ap (λ o. option_or o (tree.get order a q)) (own_less q apart (number_at m (mix q)));
    })
