-- Lists of values against places among the integers.
use Rattle.std.proofs.Common.{◌≡◌, ◌≢◌, ◌∙◌, ◌++◌, ◌∷◌, ◌<ℤ◌, ℤ, suc, pos, Bool, true, false, List, [], ap, arith, length, not, refl, subst, sym, int_le, int_lt}
use Rattle.std.proofs.lemmas.Int.{ints}
use Rattle.std.proofs.lemmas.Cmp.{int_ranked}
use Rattle.std.specs.Cmp.{tied_itself}
use Rattle.std.specs.declared.cmp.Ordering.{Ordering}
use Rattle.std.specs.declared.cmp.Ordering.TheVariants.{Less, Equal, Greater}
use Rattle.std.specs.Ordering.{MatchOrdering, int_cmp, is_lt, ordering_then}
use Rattle.cb_alpha.proofs.ValuesOrder.{values_exact}
use Rattle.cb_alpha.specs.Buckets.{IsWithin, values_cmp}
use Rattle.cb_facts.specs.contracts.value.ValueOrd.TheImpl as value_ord
use Rattle.cb_facts.specs.contracts.value.ValueOrd.TheImpl.Laws as value_laws
use Rattle.cb_facts.specs.declared.value.Value.{Value}
use Rattle.cb_facts.specs.declared.value.Value.TheVariants.{Int, Fact}
use Rattle.cb_lookup_node.proofs.InOrder.{last_integer}
use Rattle.cb_lookup_node.specs.LookupNodes.{ends_in_integer}
use Rattle.cb_lookup_node.specs.Order.{Place, first, before, behind, last, is_from, place_among}

abbrev pub value_cmp : Value → Value → Ordering
value_cmp = value_ord.ghosts.cmp

-- lists with the same beginning
pub strip : (known xs ys : List Value) → values_cmp (known ++ xs) (known ++ ys) ≡ values_cmp xs ys
strip [] xs ys = refl
strip (k ∷ ks) xs ys = ap (λ o. ordering_then o (values_cmp (ks ++ xs) (ks ++ ys))) (tied_itself value_laws.total-law k) ∙ strip ks xs ys

pub no_end : (xs : List Value) → xs ++ [] ≡ xs
no_end [] = refl
no_end (x ∷ xs) = ap (λ (it : List Value). x ∷ it) (no_end xs)

-- what stands behind the known values in a place
abbrev pub tail : Place → List Value
tail first = []
tail (before n) = Int n ∷ []
tail (behind n) = Int n ∷ (Int (pos 0) ∷ [])
tail last = Fact 0 ∷ []

pub place_is : (known : List Value) (e : Place) → place_among known e ≡ known ++ tail e
place_is known first = sym (no_end known)
place_is known (before n) = refl
place_is known (behind n) = refl
place_is known last = refl

-- one integer against a place
before_lt : (v n : ℤ) (o : Ordering) → o ≡ int_cmp v n → is_lt (ordering_then o Equal) ≡ not (int_le n v)
before_lt v n o e = by o (int_ranked v n o e)
  where
    by : (r : Ordering) → MatchOrdering r (v <ℤ n) (v ≡ n) (n <ℤ v) → is_lt (ordering_then r Equal) ≡ not (int_le n v)
    by Less h = grind (arith, ints)
    by Equal h = grind (arith, ints)
    by Greater h = grind (arith, ints)

behind_lt : (v n : ℤ) (o : Ordering) → o ≡ int_cmp v n → is_lt (ordering_then o Less) ≡ not (int_lt n v)
behind_lt v n o e = by o (int_ranked v n o e)
  where
    by : (r : Ordering) → MatchOrdering r (v <ℤ n) (v ≡ n) (n <ℤ v) → is_lt (ordering_then r Less) ≡ not (int_lt n v)
    by Less h = grind (arith, ints)
    by Equal h = grind (arith, ints)
    by Greater h = grind (arith, ints)

one_lt : (e : Place) (v : ℤ) → is_lt (values_cmp (Int v ∷ []) (tail e)) ≡ not (is_from e v)
one_lt first v = refl
one_lt (before n) v = before_lt v n (value_cmp (Int v) (Int n)) refl
one_lt (behind n) v = behind_lt v n (value_cmp (Int v) (Int n)) refl
one_lt last v = refl

pub place_lt : (known : List Value) (e : Place) (v : ℤ) → is_lt (values_cmp (known ++ Int v ∷ []) (place_among known e)) ≡ not (is_from e v)
place_lt known e v =
    ap (λ (it : List Value). is_lt (values_cmp (known ++ Int v ∷ []) it)) (place_is known e) ∙ (ap is_lt (strip known (Int v ∷ []) (tail e)) ∙ one_lt e v)

lt_is : (o : Ordering) → is_lt o ≡ true → o ≡ Less
lt_is Less h = refl
lt_is Equal h = absurd (cc)
lt_is Greater h = absurd (cc)

not_lt : (o : Ordering) → o ≢ Less → is_lt o ≡ false
not_lt Less h = absurd (h refl)
not_lt Equal h = refl
not_lt Greater h = refl

lt_not : (o : Ordering) → is_lt o ≡ false → o ≡ Less → ⊥
lt_not Less h e = absurd (cc)
lt_not Equal h e = absurd (cc)
lt_not Greater h e = absurd (cc)

not_is : (b c : Bool) → b ≡ not c → b ≡ true → c ≡ false
not_is b true e t = absurd (let no : true ≡ false = sym t ∙ e in cc)
not_is b false e t = refl

not_isnt : (b c : Bool) → b ≡ not c → b ≡ false → c ≡ true
not_isnt b true e f = refl
not_isnt b false e f = absurd (let no : false ≡ true = sym f ∙ e in cc)

-- what stands between two places begins with what is known
pub prefix_of : (known us lows highs : List Value) → values_cmp us (known ++ lows) ≢ Less → values_cmp us (known ++ highs) ≡ Less → length us ≡ suc (length known) → (u : Value) × (us ≡ known ++ u ∷ [])
prefix_of [] [] lows highs l h many = absurd (omega (arith, many))
prefix_of [] (u ∷ []) lows highs l h many = (u, refl)
prefix_of [] (u ∷ (x ∷ us)) lows highs l h many = absurd (omega (arith, many))
prefix_of (k ∷ ks) [] lows highs l h many = absurd (omega (arith, many))
prefix_of (k ∷ ks) (x ∷ xs) lows highs l h many = by (λ low high. prefix_of ks xs lows highs low high (omega (arith, many))) (value_cmp x k) refl l h
  where
    by : (values_cmp xs (ks ++ lows) ≢ Less → values_cmp xs (ks ++ highs) ≡ Less → (u : Value) × (xs ≡ ks ++ u ∷ [])) → (o : Ordering) → value_cmp x k ≡ o → ordering_then o (values_cmp xs (ks ++ lows)) ≢ Less → ordering_then o (values_cmp xs (ks ++ highs)) ≡ Less → (u : Value) × (x ∷ xs ≡ k ∷ (ks ++ u ∷ []))
    by next Less e low high = absurd (low refl)
    by next Greater e low high = absurd (let no : Greater ≡ Less = high in cc)
    by next Equal e low high =
        let both : x ∷ [] ≡ k ∷ [] = values_exact (x ∷ []) (k ∷ []) (ap (λ o. ordering_then o Equal) e) in
        let same : x ≡ k = cc in
        let more = next low high in
        (more.0, ap (λ (it : Value). it ∷ xs) same ∙ ap (λ (it : List Value). k ∷ it) more.1)

module _ (known : List Value) (low high : Place) where
  pub within_prefix : (us : List Value) → length us ≡ suc (length known) → IsWithin (place_among known low) (place_among known high) us → (u : Value) × (us ≡ known ++ u ∷ [])
  within_prefix us many h =
      prefix_of known us (tail low) (tail high) (subst (λ (it : List Value). values_cmp us it ≢ Less) (place_is known low) h.above)
      (subst (λ (it : List Value). values_cmp us it ≡ Less) (place_is known high) h.below) many

  pub from_within : (v : ℤ) → IsWithin (place_among known low) (place_among known high) (known ++ Int v ∷ []) → (is_from low v ≡ true) × (is_from high v ≡ false)
  from_within v h = (
    not_isnt (is_lt (values_cmp (known ++ Int v ∷ []) (place_among known low))) (is_from low v) (place_lt known low v) (not_lt _ h.above),
    not_is (is_lt (values_cmp (known ++ Int v ∷ []) (place_among known high))) (is_from high v) (place_lt known high v) (ap is_lt h.below),
  )

  pub within_from : (v : ℤ) → is_from low v ≡ true → is_from high v ≡ false → IsWithin (place_among known low) (place_among known high) (known ++ Int v ∷ [])
  within_from v l h = record {
    above = lt_not (values_cmp (known ++ Int v ∷ []) (place_among known low)) (place_lt known low v ∙ ap not l);
    below = lt_is (values_cmp (known ++ Int v ∷ []) (place_among known high)) (place_lt known high v ∙ ap not h);
  }

  -- those that end in an integer
  pub within_is : (us : List Value) → length us ≡ suc (length known) → ends_in_integer us ≡ true → IsWithin (place_among known low) (place_among known high) us
      → (v : ℤ) × (us ≡ known ++ Int v ∷ []) × (is_from low v ≡ true) × (is_from high v ≡ false)
  within_is us many ends h =
      let u = within_prefix us many h in
      let n = last_integer known u.0 (ap ends_in_integer (sym u.1) ∙ ends) in
      let are : us ≡ known ++ Int n.0 ∷ [] = u.1 ∙ ap (λ (it : Value). known ++ it ∷ []) n.1 in
      let from = from_within n.0 (subst (IsWithin (place_among known low) (place_among known high)) are h) in
      (n.0, are, from.0, from.1)

-- the place behind values
pub behind_is : (known : List Value) (w : ℤ) (ws place : List Value) → ws ≡ known ++ Int w ∷ [] → place ≡ ws ++ Int (pos 0) ∷ [] → place ≡ place_among known (behind w)
behind_is known w ws place are is = is ∙ (ap (λ (it : List Value). it ++ Int (pos 0) ∷ []) are ∙ joined known)
  where
    joined : (ks : List Value) → (ks ++ Int w ∷ []) ++ Int (pos 0) ∷ [] ≡ ks ++ Int w ∷ (Int (pos 0) ∷ [])
    joined [] = refl
    joined (k ∷ ks) = ap (λ (it : List Value). k ∷ it) (joined ks)
