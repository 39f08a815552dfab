-- The memory of a shape, filled with facts in rising order of their indices.
use Rattle.std.proofs.Common.{◌≡◌, ◌≢◌, ◌∙◌, ◌++◌, ◌<◌, ℕ, [], ◌∷◌, Option, Some, None, Greater, ap, append_assoc, arith, inl, inr, nat_cmp, refl, subst, sym}
use Rattle.std.specs.BTreeMap.{insert_entry}
use Rattle.std.specs.Ordering.{match_ordering}
use Rattle.cb_alpha.specs.AlphaMemories.{AlphaMemoryValue, index_of, live}
use Rattle.cb_alpha.specs.Turning.{IsAlphaOver}
use Rattle.cb_constraints.specs.PatternValues.{PatternValue}
use Rattle.cb_facts.specs.FactLists.{IndexedFacts, fact_at, with_fact}
use Rattle.cb_facts.specs.Facts.{FactValue}
use Rattle.cb_matches.proofs.Indices.{looked_in}
use Rattle.cb_matches.specs.Chains.{In}
use Rattle.cb_matches.specs.Order.{IsRising}

abbrev pub Fact : Type 0
Fact = ℕ × FactValue

-- what stands before a fact in rising order
before_it : (done rest : IndexedFacts) (e : Fact) → IsRising (done ++ e ∷ rest) → (z : Fact) → In z done → z.0 < e.0
before_it [] rest e rising z i = absurd i
before_it (d ∷ done) rest e rising z (inl same) = subst (λ (it : Fact). it.0 < e.0) (sym same) (rising.0 e (later done rest))
  where
    later : (xs ys : IndexedFacts) → In e (xs ++ e ∷ ys)
    later [] ys = inl refl
    later (x ∷ xs) ys = inr (later xs ys)
before_it (d ∷ done) rest e rising z (inr i) = before_it done rest e rising.1 z i

free_above : (es : IndexedFacts) (ix : ℕ) → ((z : Fact) → In z es → z.0 < ix) → fact_at es ix ≡ None
free_above es ix above = by_found (fact_at es ix) (looked_in es ix)
  where
    by_found : (o : Option FactValue) → ((f : FactValue) → o ≡ Some f → In (ix, f) es) → o ≡ None
    by_found None found = refl
    by_found (Some f) found = let l : ix < ix = above (ix, f) (found f refl) in absurd (omega (arith, l))

put_last : (ix : ℕ) (f : FactValue) (es : IndexedFacts) → ((z : Fact) → In z es → z.0 < ix) → with_fact es ix f ≡ es ++ (ix, f) ∷ []
put_last ix f [] above = refl
put_last ix f (e ∷ es) above =
    let l : e.0 < ix = above e (inl refl) in
    let more : nat_cmp ix e.0 ≡ Greater = grind (arith, l) in
    ap (λ o. match_ordering o ((ix, f) ∷ e ∷ es) ((e.0, f) ∷ es) (e ∷ insert_entry nat_cmp es ix f)) more
    ∙ ap (λ it. e ∷ it) (put_last ix f es (λ z i. above z (inr i)))

pub has_index : (o : Option Fact) (ix : ℕ) → index_of o ≡ Some ix → (f : Fact) × (o ≡ Some f) × (f.0 ≡ ix)
has_index None ix e = absurd (let no : None ≡ Some ix = e in cc)
has_index (Some f) ix e = (f, refl, (let same : Some f.0 ≡ Some ix = e in cc))

-- the memory is over the facts up to those that are left
pub record IsFilled (p : PatternValue) (all rest : IndexedFacts) (m : AlphaMemoryValue) : Type 0 where
  pub done : IndexedFacts
  pub is : done ++ rest ≡ all
  pub over : IsAlphaOver p done m

module _ (p : PatternValue) (all rest : IndexedFacts) (ix : ℕ) (f : FactValue) (m : AlphaMemoryValue) (rising : IsRising all) (was : IsFilled p all ((ix, f) ∷ rest) m) where
  above : (z : Fact) → In z was.done → z.0 < ix
  above = before_it was.done rest (ix, f) (subst IsRising (sym was.is) rising)

  pub not_filled : (i : ℕ) → index_of (live m i) ≢ Some ix
  not_filled i e =
      let there = has_index (live m i) ix e in
      let less = above there.0 (was.over.has.are i there.0 there.1).0 in
      let same = there.2 in
      absurd (omega (arith, less, same))

  pub free_now : fact_at was.done ix ≡ None
  free_now = free_above was.done ix above

  pub filled_more : (m' : AlphaMemoryValue) → IsAlphaOver p (with_fact was.done ix f) m' → IsFilled p all rest m'
  filled_more m' over = record {
    done = with_fact was.done ix f;
    is = ap (λ it. it ++ rest) (put_last ix f was.done above) ∙ (append_assoc was.done ((ix, f) ∷ []) rest ∙ was.is);
    over = over;
  }

pub filled_all : (p : PatternValue) (all : IndexedFacts) (m : AlphaMemoryValue) → IsFilled p all [] m → IsAlphaOver p all m
filled_all p all m is = subst (λ fs. IsAlphaOver p fs m) (sym (none_left is.done) ∙ is.is) is.over
  where
    none_left : (xs : IndexedFacts) → xs ++ [] ≡ xs
    none_left [] = refl
    none_left (x ∷ xs) = ap (λ it. x ∷ it) (none_left xs)
