-- Lists of values of which the last is an integer, and how they compare.
use Rattle.std.proofs.Common.{◌≡◌, ◌∙◌, ◌-◌, ◌++◌, ◌∷◌, ℤ, suc, true, false, List, [], Option, ap, arith, length, refl, slice_get, subst, sym}
use Rattle.std.specs.Option.{option_map_or}
use Rattle.cb_eval.specs.Comparison.{Comparator, less, less_or_equal, greater, greater_or_equal}
use Rattle.cb_facts.specs.declared.value.Value.{Value}
use Rattle.cb_facts.specs.declared.value.Value.TheVariants.{Symbol, Str, Int, Fact, Multi}
use Rattle.cb_fit.specs.Comparisons.{both_integers, compares, integer_so}
use Rattle.cb_fit.specs.declared.comparison.Comparison.{Comparison}
use Rattle.cb_fit.specs.declared.comparison.Comparison.TheVariants.{Less, LessOrEqual, Greater, GreaterOrEqual, Equal, NotEqual, Same, Differs}
use Rattle.cb_lookup_node.specs.LookupNodes.{AreInOrder, ends_in_integer, is_by_order}

-- what is in an order of integers are integers
integers_of : (order : Comparator) (w v : Value) → both_integers order w v ≡ true → (n m : ℤ) × (w ≡ Int n) × (v ≡ Int m)
integers_of order (Int n) (Int m) e = (n, m, refl, refl)
integers_of order (Int n) (Symbol x) e = absurd (cc)
integers_of order (Int n) (Str x) e = absurd (cc)
integers_of order (Int n) (Fact x) e = absurd (cc)
integers_of order (Int n) (Multi x) e = absurd (cc)
integers_of order (Symbol x) v e = absurd (cc)
integers_of order (Str x) v e = absurd (cc)
integers_of order (Fact x) v e = absurd (cc)
integers_of order (Multi x) v e = absurd (cc)

pub compared_integers : (c : Comparison) (w v : Value) → is_by_order c ≡ true → compares c w v ≡ true → (n m : ℤ) × (w ≡ Int n) × (v ≡ Int m)
compared_integers Less w v o e = integers_of less w v e
compared_integers LessOrEqual w v o e = integers_of less_or_equal w v e
compared_integers Greater w v o e = integers_of greater w v e
compared_integers GreaterOrEqual w v o e = integers_of greater_or_equal w v e
compared_integers Equal w v o e = absurd (cc)
compared_integers NotEqual w v o e = absurd (cc)
compared_integers Same w v o e = absurd (cc)
compared_integers Differs w v o e = absurd (cc)

-- the end of a list
pub end_is : (known : List Value) (u : Value) → ends_in_integer (known ++ u ∷ []) ≡ integer_so (λ n. true) u
end_is [] u = refl
end_is (k ∷ []) u = refl
end_is (k ∷ (l ∷ ks)) u = end_is (l ∷ ks) u

pub integer_ends : (known : List Value) (n : ℤ) → ends_in_integer (known ++ Int n ∷ []) ≡ true
integer_ends known n = end_is known (Int n)

integer_is : (u : Value) → integer_so (λ n. true) u ≡ true → (n : ℤ) × (u ≡ Int n)
integer_is (Int n) e = (n, refl)
integer_is (Symbol x) e = absurd (cc)
integer_is (Str x) e = absurd (cc)
integer_is (Fact x) e = absurd (cc)
integer_is (Multi x) e = absurd (cc)

pub last_integer : (known : List Value) (u : Value) → ends_in_integer (known ++ u ∷ []) ≡ true → (n : ℤ) × (u ≡ Int n)
last_integer known u e = integer_is u (sym (end_is known u) ∙ e)

pub parted : (vs : List Value) → ends_in_integer vs ≡ true → (known : List Value) × (n : ℤ) × (vs ≡ known ++ Int n ∷ [])
parted [] e = absurd (cc)
parted (v ∷ []) e = let n = integer_is v e in ([], n.0, ap (λ (it : Value). it ∷ []) n.1)
parted (v ∷ (w ∷ vs)) e = let r = parted (w ∷ vs) e in (v ∷ r.0, r.1, ap (λ (it : List Value). v ∷ it) r.2)

-- by the last value
pub last_ends : (vs : List Value) (o : Option Value) → o ≡ slice_get vs (length vs - 1) → ends_in_integer vs ≡ option_map_or (integer_so (λ n. true)) o false
last_ends [] o e = sym (ap (λ (it : Option Value). option_map_or (integer_so (λ n. true)) it false) e)
last_ends (v ∷ []) o e = sym (ap (λ (it : Option Value). option_map_or (integer_so (λ n. true)) it false) e)
last_ends (v ∷ (w ∷ vs)) o e =
    let k : suc (suc (length vs)) - 1 ≡ suc (suc (length vs) - 1) = omega arith in
    last_ends (w ∷ vs) o (e ∙ ap (slice_get (v ∷ (w ∷ vs))) k)

-- lists with the same end
pub ends_same : (xs ys : List Value) (x y : Value) → xs ++ x ∷ [] ≡ ys ++ y ∷ [] → (xs ≡ ys) × (x ≡ y)
ends_same [] [] x y e = (refl, cc)
ends_same [] (z ∷ []) x y e = absurd (cc)
ends_same [] (z ∷ (u ∷ ys)) x y e = absurd (cc)
ends_same (z ∷ []) [] x y e = absurd (cc)
ends_same (z ∷ (u ∷ xs)) [] x y e = absurd (cc)
ends_same (z ∷ xs) (u ∷ ys) x y e =
    let first : z ≡ u = cc in
    let rest : xs ++ x ∷ [] ≡ ys ++ y ∷ [] = cc in
    let more = ends_same xs ys x y rest in
    (ap (λ (it : Value). it ∷ xs) first ∙ ap (λ (it : List Value). u ∷ it) more.0, more.1)

-- what is in order ends in integers
module _ (c : Comparison) (ws vs : List Value) (order : is_by_order c ≡ true) (h : AreInOrder c ws vs) where
  pub both_end : (known : List Value) × (w v : ℤ) × (ws ≡ known ++ Int w ∷ []) × (vs ≡ known ++ Int v ∷ []) × (compares c (Int w) (Int v) ≡ true)
  both_end =
      let (known, w, v, ws_are, vs_are, compare) = h in
      let (n, m, w_is, v_is) = compared_integers c w v order compare in (
        known,
        n,
        m,
        ws_are ∙ ap (λ (it : Value). known ++ it ∷ []) w_is,
        vs_are ∙ ap (λ (it : Value). known ++ it ∷ []) v_is,
        subst (λ (it : Value). compares c (Int n) it ≡ true) v_is (subst (λ (it : Value). compares c it v ≡ true) w_is compare),
      )

  pub in_order_begins : ends_in_integer ws ≡ true
  in_order_begins = let b = both_end in ap ends_in_integer b.3 ∙ integer_ends b.0 b.1

  pub in_order_ends : ends_in_integer vs ≡ true
  in_order_ends = let b = both_end in ap ends_in_integer b.4 ∙ integer_ends b.0 b.2

  -- and begins with what is known
  pub ends_with : (known : List Value) (w : ℤ) → ws ≡ known ++ Int w ∷ [] → (v : ℤ) × (vs ≡ known ++ Int v ∷ []) × (compares c (Int w) (Int v) ≡ true)
  ends_with known w e =
      let (ks, n, v, ws_are, vs_are, compare) = both_end in
      let same = ends_same ks known (Int n) (Int w) (sym ws_are ∙ e) in
      (v, vs_are ∙ ap (λ (it : List Value). it ++ Int v ∷ []) same.0, subst (λ (it : Value). compares c it (Int v) ≡ true) same.1 compare)

  pub begins_with : (known : List Value) (v : ℤ) → vs ≡ known ++ Int v ∷ [] → (w : ℤ) × (ws ≡ known ++ Int w ∷ []) × (compares c (Int w) (Int v) ≡ true)
  begins_with known v e =
      let (ks, w, n, ws_are, vs_are, compare) = both_end in
      let same = ends_same ks known (Int n) (Int v) (sym vs_are ∙ e) in
      (w, ws_are ∙ ap (λ (it : List Value). it ++ Int w ∷ []) same.0, subst (λ (it : Value). compares c (Int w) it ≡ true) same.1 compare)
