-- Entries in order, where one is put in or taken out.
use Rattle.std.proofs.Common.{◌≡◌, ◌≢◌, ◌∙◌, Bool, true, false, cond, List, [], ◌∷◌, Some, None, Ordering, Less, Equal, Greater, Decides, is_eq, refl, sym, ap, All}
use Rattle.std.proofs.lemmas.List.Elements.{All-from_recursion, recursion_from_All, All-weaker}
use Rattle.std.proofs.lemmas.Map.Views.{All-keys-insert_entry, All-map-remove_entry}
use Rattle.std.specs.BTreeMap.{insert_entry}
use Rattle.std.specs.Cmp.{IsTotalOrder}
use Rattle.std.specs.List.{AllByRecursion, filter}
use Rattle.std.specs.List.Sorted.{IsStrictlySortedBy}
use Rattle.std.specs.Map.{keys_of, lookup, remove_entry}
use Rattle.std.specs.Ordering.{match_ordering, ordering_reverse}
use Rattle.std.proofs.lemmas.Bool.{false_from_ne_true}

-- what a look-up finds after an entry was put in
module _ {K : Type 0} (cmp : K → K → Ordering) (test : K → K → Bool) (level : (i j : K) → Decides (is_eq (cmp i j)) (i ≡ j)) (same : (i j : K) → Decides (test i j) (i ≡ j)) where
  itself : (k : K) → test k k ≡ true
  itself k = (same k k).1 refl

  apart : (q i : K) → q ≢ i → test q i ≡ false
  apart q i n = false_from_ne_true (test q i) (λ e. n ((same q i).0 e))

  not_level : (k i : K) → cmp k i ≡ Greater → k ≢ i
  not_level k i e h =
      let yes : is_eq (cmp k i) ≡ true = (level k i).1 h in
      let no : is_eq (cmp k i) ≡ false = ap is_eq e in
      cc

  here_by : {X : Type 0} (es : List (K × X)) (k i : K) (v there : X) (o : Ordering) → cmp k i ≡ o → lookup (test k) (insert_entry cmp es k v) ≡ Some v
      → lookup (test k) (match_ordering o ((k, v) ∷ (i, there) ∷ es) ((i, v) ∷ es) ((i, there) ∷ insert_entry cmp es k v)) ≡ Some v
  here_by es k i v there Less e more = ap (λ t. cond t (Some v) (lookup (test k) ((i, there) ∷ es))) (itself k)
  here_by es k i v there Equal e more = ap (λ t. cond t (Some v) (lookup (test k) es)) ((same k i).1 ((level k i).0 (ap is_eq e)))
  here_by es k i v there Greater e more = ap (λ t. cond t (Some there) (lookup (test k) (insert_entry cmp es k v))) (apart k i (not_level k i e)) ∙ more

  pub put_here : {X : Type 0} (es : List (K × X)) (k : K) (v : X) → lookup (test k) (insert_entry cmp es k v) ≡ Some v
  put_here [] k v = ap (λ t. cond t (Some v) None) (itself k)
  put_here ((i, there) ∷ es) k v = here_by es k i v there (cmp k i) refl (put_here es k v)

  elsewhere_by : {X : Type 0} (es : List (K × X)) (k i q : K) (v there : X) (o : Ordering) → cmp k i ≡ o → q ≢ k → lookup (test q) (insert_entry cmp es k v) ≡ lookup (test q) es
      → lookup (test q) (match_ordering o ((k, v) ∷ (i, there) ∷ es) ((i, v) ∷ es) ((i, there) ∷ insert_entry cmp es k v)) ≡ lookup (test q) ((i, there) ∷ es)
  elsewhere_by es k i q v there Less e n more = ap (λ t. cond t (Some v) (lookup (test q) ((i, there) ∷ es))) (apart q k n)
  elsewhere_by es k i q v there Equal e n more =
      let no : test q i ≡ false = apart q i (λ h. n (h ∙ sym ((level k i).0 (ap is_eq e)))) in
      ap (λ t. cond t (Some v) (lookup (test q) es)) no ∙ sym (ap (λ t. cond t (Some there) (lookup (test q) es)) no)
  elsewhere_by es k i q v there Greater e n more = ap (cond (test q i) (Some there)) more

  pub put_elsewhere : {X : Type 0} (es : List (K × X)) (k q : K) (v : X) → q ≢ k → lookup (test q) (insert_entry cmp es k v) ≡ lookup (test q) es
  put_elsewhere [] k q v n = ap (λ t. cond t (Some v) None) (apart q k n)
  put_elsewhere ((i, there) ∷ es) k q v n = elsewhere_by es k i q v there (cmp k i) refl n (put_elsewhere es k q v n)

-- the order of the keys
module _ {K : Type 0} (R : K → K → Ordering) where
  first_before : (i : K) (ks : List K) → IsStrictlySortedBy R (i ∷ ks) → All (λ y. R i y ≡ Less) ks
  unfolding IsStrictlySortedBy
  first_before i ks s = All-from_recursion (λ y. R i y ≡ Less) ks s.0

  pub others_rise : (i : K) (ks : List K) → IsStrictlySortedBy R (i ∷ ks) → IsStrictlySortedBy R ks
  unfolding IsStrictlySortedBy
  others_rise i ks s = s.1

  rise_from : (i : K) (ks : List K) → All (λ y. R i y ≡ Less) ks → IsStrictlySortedBy R ks → IsStrictlySortedBy R (i ∷ ks)
  unfolding IsStrictlySortedBy
  rise_from i ks first s = (recursion_from_All (λ y. R i y ≡ Less) ks first, s)

  -- the same as lists are gone through
  pub before_others : (i : K) (ks : List K) → IsStrictlySortedBy R (i ∷ ks) → AllByRecursion (λ y. R i y ≡ Less) ks
  unfolding IsStrictlySortedBy
  before_others i ks s = s.0

  rise_so : (i : K) (ks : List K) → AllByRecursion (λ y. R i y ≡ Less) ks → IsStrictlySortedBy R ks → IsStrictlySortedBy R (i ∷ ks)
  unfolding IsStrictlySortedBy
  rise_so i ks first s = (first, s)

  none_rise : IsStrictlySortedBy R []
  unfolding IsStrictlySortedBy
  none_rise = tt

  pub rising_put : {X : Type 0} → IsTotalOrder R → (es : List (K × X)) (k : K) (v : X) → IsStrictlySortedBy R (keys_of es) → IsStrictlySortedBy R (keys_of (insert_entry R es k v))
  rising_put o [] k v s = rise_from k [] (All-from_recursion (λ y. R k y ≡ Less) [] tt) none_rise
  rising_put o ((i, there) ∷ es) k v s = by (R k i) refl (rising_put o es k v (others_rise i (keys_of es) s))
    where
      by : (c : Ordering) → R k i ≡ c → IsStrictlySortedBy R (keys_of (insert_entry R es k v))
          → IsStrictlySortedBy R (keys_of (match_ordering c ((k, v) ∷ (i, there) ∷ es) ((i, v) ∷ es) ((i, there) ∷ insert_entry R es k v)))
      by Less e more =
          rise_from k (i ∷ keys_of es)
          (All-from_recursion (λ y. R k y ≡ Less) (i ∷ keys_of es) (e, recursion_from_All (λ y. R k y ≡ Less) (keys_of es) (All-weaker (λ y. R i y ≡ Less) (λ y. R k y ≡ Less) (λ y l. o.trans k i y e l) (keys_of es) (first_before i (keys_of es) s))))
          s
      by Equal e more = s
      by Greater e more =
          let before : R i k ≡ Less = o.antisymm i k ∙ ap ordering_reverse e in
          rise_from i (keys_of (insert_entry R es k v)) (All-keys-insert_entry R k v (λ y. R i y ≡ Less) es (first_before i (keys_of es) s) before) more

  pub rising_taken : {X : Type 0} (test : K → Bool) (es : List (K × X)) → IsStrictlySortedBy R (keys_of es) → IsStrictlySortedBy R (keys_of (remove_entry test es))
  rising_taken test [] s = s
  rising_taken test ((i, there) ∷ es) s = by (test i) (rising_taken test es (others_rise i (keys_of es) s))
    where
      by : (t : Bool) → IsStrictlySortedBy R (keys_of (remove_entry test es)) → IsStrictlySortedBy R (keys_of (cond t es ((i, there) ∷ remove_entry test es)))
      by true more = others_rise i (keys_of es) s
      by false more = rise_from i (keys_of (remove_entry test es)) (All-map-remove_entry test (λ e. e.0) (λ y. R i y ≡ Less) es (first_before i (keys_of es) s)) more

  one_filtered : {X : Type 0} (P : K → Type 0) (t : Bool) (f : K × X) (fs : List (K × X)) → P f.0 → AllByRecursion P (keys_of fs) → AllByRecursion P (keys_of (cond t (f ∷ fs) fs))
  one_filtered P true f fs h more = (h, more)
  one_filtered P false f fs h more = more

  pub rising_filtered : {X : Type 0} (keep : K × X → Bool) (es : List (K × X)) → IsStrictlySortedBy R (keys_of es) → IsStrictlySortedBy R (keys_of (filter keep es))
  rising_filtered {X} keep [] s = s
  rising_filtered {X} keep (e ∷ es) s = by (keep e) (rising_filtered keep es (others_rise e.0 (keys_of es) s))
    where
      all_filtered : (fs : List (K × X)) → AllByRecursion (λ y. R e.0 y ≡ Less) (keys_of fs) → AllByRecursion (λ y. R e.0 y ≡ Less) (keys_of (filter keep fs))
      all_filtered [] h = h
      all_filtered (f ∷ fs) h = one_filtered (λ y. R e.0 y ≡ Less) (keep f) f (filter keep fs) h.0 (all_filtered fs h.1)

      by : (t : Bool) → IsStrictlySortedBy R (keys_of (filter keep es)) → IsStrictlySortedBy R (keys_of (cond t (e ∷ filter keep es) (filter keep es)))
      by true more = rise_so e.0 (keys_of (filter keep es)) (all_filtered es (before_others e.0 (keys_of es) s)) more
      by false more = more
