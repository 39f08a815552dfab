-- One fact more or less among those in rising order of their indices.
use Rattle.std.proofs.Common.{◌≡◌, ◌≢◌, ℕ, ◌<◌, ◌++◌, Bool, true, false, List, [], ◌∷◌, flat_map, Option, None, Some, ◌⊎◌, inl, inr, refl, sym, ◌∙◌, ap, ap₂, subst, arith, cond}
use Rattle.std.proofs.lemmas.Bool.{cases_order, eq-eqb, eqb-true}
use Rattle.std.specs.BTreeMap.{insert_entry, is_at}
use Rattle.std.specs.Cmp.{nat_cmp_is, unsigned_tied}
use Rattle.std.specs.Map.{lookup}
use Rattle.std.specs.Ordering.{is_eq, match_ordering, nat_cmp}
use Rattle.std.specs.declared.cmp.Ordering.{Ordering}
use Rattle.std.specs.declared.cmp.Ordering.TheVariants.{Less, Equal, Greater}
use Rattle.cb_facts.specs.FactLists.{IndexedFacts, IsFactBase, fact_at, with_fact, without_fact}
use Rattle.cb_facts.specs.Facts.{FactValue}
use Rattle.cb_nodes.specs.Changes.{Added}
use Rattle.cb_nodes.specs.Patterns.{HaveIndices}
use Rattle.cb_matches.proofs.Growth.{Fact}
use Rattle.cb_matches.proofs.Indices.{rising_keys}
use Rattle.cb_matches.proofs.Lists.{by_test, chain_weaker, one_chain}
use Rattle.cb_matches.specs.Chains.{In}
use Rattle.cb_matches.specs.Order.{IsRising}

abbrev pub put : ℕ → FactValue → Fact → IndexedFacts → Ordering → IndexedFacts
put ix f e es o = match_ordering o ((ix, f) ∷ e ∷ es) ((e.0, f) ∷ es) (e ∷ insert_entry nat_cmp es ix f)

abbrev pub looked : ℕ → Fact → IndexedFacts → Ordering → Option FactValue
looked ix e es o = cond (is_eq o) (Some e.1) (lookup (is_at (nat_cmp ix)) es)

pub none_of_some : (v : FactValue) → Some v ≡ None → ⊥
none_of_some v h = cc

pub added_fact : (fs : IndexedFacts) (ix : ℕ) (f : FactValue) → fact_at fs ix ≡ None → Added (ix, f) fs (with_fact fs ix f)
added_fact [] ix f h = record { was = λ g i. absurd i; is = λ g i. elim i as (λ _. In g [] ⊎ (g ≡ (ix, f))) [ inl e ↦ inr e | inr j ↦ absurd j ]; there = inl refl; absent = λ g i. absurd i }
added_fact (e ∷ es) ix f h = elim (cases_order ix e.0) as (λ _. Added (ix, f) (e ∷ es) (with_fact (e ∷ es) ix f)) [
  | inl same ↦ absurd (none_of_some e.1 (subst (λ o. looked ix e es o ≡ None) (sym (nat_cmp_is ix e.0 Equal same)) h))
  | inr apart ↦ elim apart as (λ _. Added (ix, f) (e ∷ es) (with_fact (e ∷ es) ix f)) [
    | inl less ↦ let rest = added_fact es ix f (subst (λ o. looked ix e es o ≡ None) (sym (nat_cmp_is ix e.0 Less less)) h) in
        subst (λ o. Added (ix, f) (e ∷ es) (put ix f e es o)) (nat_cmp_is ix e.0 Less less) (record {
          was = λ g i. inr i;
          is = λ g i. elim i as (λ _. In g (e ∷ es) ⊎ (g ≡ (ix, f))) [ inl d ↦ inr d | inr j ↦ inl j ];
          there = inl refl;
          absent = λ g i d. elim i as (λ _. ⊥) [ inl k ↦ absurd (let l : g.0 ≡ e.0 = ap (λ it. it.0) k in omega (arith, less, d, l)) | inr k ↦ rest.absent g k d ];
        })
    | inr more ↦ let rest = added_fact es ix f (subst (λ o. looked ix e es o ≡ None) (sym (nat_cmp_is ix e.0 Greater more)) h) in
        subst (λ o. Added (ix, f) (e ∷ es) (put ix f e es o)) (nat_cmp_is ix e.0 Greater more) (record {
          was = λ g i. elim i as (λ _. In g (e ∷ insert_entry nat_cmp es ix f)) [ inl d ↦ inl d | inr j ↦ inr (rest.was g j) ];
          is = λ g i. elim i as (λ _. In g (e ∷ es) ⊎ (g ≡ (ix, f))) [
            | inl d ↦ inl (inl d)
            | inr j ↦ elim (rest.is g j) as (λ _. In g (e ∷ es) ⊎ (g ≡ (ix, f))) [ inl k ↦ inl (inr k) | inr d ↦ inr d ]
          ];
          there = inr rest.there;
          absent = λ g i d. elim i as (λ _. ⊥) [ inl k ↦ absurd (let l : g.0 ≡ e.0 = ap (λ it. it.0) k in omega (arith, more, d, l)) | inr k ↦ rest.absent g k d ];
        })
  ]
]

abbrev below : Fact → Fact → Type 0
below f g = f.0 < g.0

pub rising_with : (fs : IndexedFacts) (ix : ℕ) (f : FactValue) → fact_at fs ix ≡ None → IsRising fs → IsRising (with_fact fs ix f)
rising_with [] ix f h c = (λ z k. absurd k, tt)
rising_with (e ∷ es) ix f h c = elim (cases_order ix e.0) as (λ _. IsRising (with_fact (e ∷ es) ix f)) [
  | inl same ↦ absurd (none_of_some e.1 (subst (λ o. looked ix e es o ≡ None) (sym (nat_cmp_is ix e.0 Equal same)) h))
  | inr apart ↦ elim apart as (λ _. IsRising (with_fact (e ∷ es) ix f)) [
    | inl less ↦ subst (λ o. IsRising (put ix f e es o)) (nat_cmp_is ix e.0 Less less)
        (λ z k. elim k as (λ _. ix < z.0) [ inl d ↦ (let l : z.0 ≡ e.0 = ap (λ it. it.0) d in omega (arith, less, l)) | inr j ↦ (let l : e.0 < z.0 = c.0 z j in omega (arith, less, l)) ], c)
    | inr more ↦ let none = subst (λ o. looked ix e es o ≡ None) (sym (nat_cmp_is ix e.0 Greater more)) h in
        subst (λ o. IsRising (put ix f e es o)) (nat_cmp_is ix e.0 Greater more)
        (λ z k. elim ((added_fact es ix f none).is z k) as (λ _. e.0 < z.0) [ inl j ↦ c.0 z j | inr d ↦ (let l : z.0 ≡ ix = ap (λ it. it.0) d in omega (arith, more, l)) ], rising_with es ix f none c.1)
  ]
]

pub rising_base : (fs : IndexedFacts) → IsFactBase fs → IsRising fs
rising_base fs base = rising_keys fs base.rising

pub indices_of : (fs : IndexedFacts) → IsRising fs → HaveIndices fs
indices_of fs rising = chain_weaker below (λ (f : Fact) (g : Fact). f.0 ≢ g.0) (λ f g h e. absurd (omega (arith, h, e))) fs rising

-- the same, read from what there is afterwards
module _ (ix : ℕ) (f : FactValue) where
  abbrev at : Fact → Bool
  at e = is_at (nat_cmp ix) e.0

  abbrev left : Fact → IndexedFacts → Bool → IndexedFacts
  left e es b = cond b es (e ∷ without_fact es ix)

  abbrev found : Fact → IndexedFacts → Bool → Option FactValue
  found e es b = cond b (Some e.1) (fact_at es ix)

  at_index : (e : Fact) → at e ≡ true → ix ≡ e.0
  at_index e h = eqb-true ix e.0 (sym (unsigned_tied ix e.0) ∙ h)

  at_other : (e : Fact) → at e ≡ false → e.0 ≡ ix → ⊥
  at_other e h d = let t : at e ≡ true = unsigned_tied ix e.0 ∙ eq-eqb ix e.0 (sym d) in let both : true ≡ false = sym t ∙ h in cc

  pub taken_fact : (fs : IndexedFacts) → IsRising fs → fact_at fs ix ≡ Some f → Added (ix, f) (without_fact fs ix) fs
  taken_fact [] rising h = cc
  taken_fact (e ∷ es) rising h =
      by_test (at e)
      (λ t. let value : Some e.1 ≡ Some f = subst (λ b. found e es b ≡ Some f) t h in
      let same : f ≡ e.1 = cc in
      let is : (ix, f) ≡ e = ap₂ (λ (i : ℕ) (v : FactValue). (i, v)) (at_index e t) same in
      subst (λ b. Added (ix, f) (left e es b) (e ∷ es)) (sym t) (record {
        was = λ g i. inr i;
        is = λ g i. elim i as (λ _. In g es ⊎ (g ≡ (ix, f))) [ inl d ↦ inr (d ∙ sym is) | inr j ↦ inl j ];
        there = inl is;
        absent = λ g i d. absurd (let l : e.0 < g.0 = rising.0 g i in let m : ix ≡ e.0 = at_index e t in omega (arith, l, m, d));
      }))
      (λ t. let rest = taken_fact es rising.1 (subst (λ b. found e es b ≡ Some f) t h) in
      subst (λ b. Added (ix, f) (left e es b) (e ∷ es)) (sym t) (record {
        was = λ g i. elim i as (λ _. In g (e ∷ es)) [ inl d ↦ inl d | inr j ↦ inr (rest.was g j) ];
        is = λ g i. elim i as (λ _. In g (e ∷ without_fact es ix) ⊎ (g ≡ (ix, f))) [
          | inl d ↦ inl (inl d)
          | inr j ↦ elim (rest.is g j) as (λ _. In g (e ∷ without_fact es ix) ⊎ (g ≡ (ix, f))) [ inl k ↦ inl (inr k) | inr d ↦ inr d ]
        ];
        there = inr rest.there;
        absent = λ g i d. elim i as (λ _. ⊥) [ inl k ↦ at_other e t (ap (λ it. it.0) (sym k) ∙ d) | inr k ↦ rest.absent g k d ];
      }))

  pub left_in : (fs : IndexedFacts) (z : Fact) → In z (without_fact fs ix) → In z fs
  left_in [] z h = h
  left_in (e ∷ es) z h =
      by_test (at e) (λ t. inr (subst (λ b. In z (left e es b)) t h))
      (λ t. elim (subst (λ b. In z (left e es b)) t h) as (λ _. In z (e ∷ es)) [ inl d ↦ inl d | inr j ↦ inr (left_in es z j) ])

  pub rising_without : (fs : IndexedFacts) → IsRising fs → IsRising (without_fact fs ix)
  rising_without [] c = c
  rising_without (e ∷ es) c =
      by_test (at e) (λ t. subst (λ b. IsRising (left e es b)) (sym t) c.1)
      (λ t. subst (λ b. IsRising (left e es b)) (sym t) (λ z h. c.0 z (left_in es z h), rising_without es c.1))

-- what facts give, one after another, where this one gives nothing
module _ {A : Type 0} (g : Fact → List A) (ix : ℕ) (f : FactValue) (none : g (ix, f) ≡ []) where
  pub flat_with : (fs : IndexedFacts) → fact_at fs ix ≡ None → flat_map g (with_fact fs ix f) ≡ flat_map g fs
  flat_with [] h = ap (λ xs. xs ++ []) none
  flat_with (e ∷ es) h = elim (cases_order ix e.0) as (λ _. flat_map g (with_fact (e ∷ es) ix f) ≡ flat_map g (e ∷ es)) [
    | inl same ↦ absurd (none_of_some e.1 (subst (λ o. looked ix e es o ≡ None) (sym (nat_cmp_is ix e.0 Equal same)) h))
    | inr apart ↦ elim apart as (λ _. flat_map g (with_fact (e ∷ es) ix f) ≡ flat_map g (e ∷ es)) [
      | inl less ↦ subst (λ o. flat_map g (put ix f e es o) ≡ flat_map g (e ∷ es)) (nat_cmp_is ix e.0 Less less) (ap (λ xs. xs ++ flat_map g (e ∷ es)) none)
      | inr more ↦ subst (λ o. flat_map g (put ix f e es o) ≡ flat_map g (e ∷ es)) (nat_cmp_is ix e.0 Greater more)
          (ap (λ xs. g e ++ xs) (flat_with es (subst (λ o. looked ix e es o ≡ None) (sym (nat_cmp_is ix e.0 Greater more)) h)))
    ]
  ]

  pub flat_without : (fs : IndexedFacts) → fact_at fs ix ≡ Some f → flat_map g (without_fact fs ix) ≡ flat_map g fs
  flat_without [] h = cc
  flat_without (e ∷ es) h =
      by_test (at ix f e)
      (λ t. let value : Some e.1 ≡ Some f = subst (λ b. found ix f e es b ≡ Some f) t h in
      let same : f ≡ e.1 = cc in
      let is : (ix, f) ≡ e = ap₂ (λ (i : ℕ) (v : FactValue). (i, v)) (at_index ix f e t) same in
      subst (λ b. flat_map g (left ix f e es b) ≡ flat_map g (e ∷ es)) (sym t) (sym (ap (λ xs. xs ++ flat_map g es) (ap g (sym is) ∙ none))))
      (λ t. subst (λ b. flat_map g (left ix f e es b) ≡ flat_map g (e ∷ es)) (sym t) (ap (λ xs. g e ++ xs) (flat_without es (subst (λ b. found ix f e es b ≡ Some f) t h))))

-- a fact more or less leads from one list to one other
one_rising : (fs gs : IndexedFacts) → IsRising fs → IsRising gs → ((z : Fact) → In z fs → In z gs) → ((z : Fact) → In z gs → In z fs) → fs ≡ gs
one_rising fs gs c d to from = one_chain below (λ f h. absurd (omega (arith, h))) (λ f g e h k. omega (arith, h, k)) fs gs c d to from

pub one_before : (f : Fact) (fs gs hs : IndexedFacts) → IsRising fs → IsRising gs → Added f fs hs → Added f gs hs → fs ≡ gs
one_before f fs gs hs c d a b =
    one_rising fs gs c d
    (λ z h. elim (b.is z (a.was z h)) as (λ _. In z gs) [ inl i ↦ i | inr e ↦ absurd (a.absent z h (ap (λ it. it.0) e)) ])
    (λ z h. elim (a.is z (b.was z h)) as (λ _. In z fs) [ inl i ↦ i | inr e ↦ absurd (b.absent z h (ap (λ it. it.0) e)) ])

pub one_after : (f : Fact) (fs gs hs : IndexedFacts) → IsRising gs → IsRising hs → Added f fs gs → Added f fs hs → gs ≡ hs
one_after f fs gs hs c d a b =
    one_rising gs hs c d
    (λ z h. elim (a.is z h) as (λ _. In z hs) [ inl i ↦ b.was z i | inr e ↦ subst (λ it. In it hs) (sym e) b.there ])
    (λ z h. elim (b.is z h) as (λ _. In z gs) [ inl i ↦ a.was z i | inr e ↦ subst (λ it. In it gs) (sym e) a.there ])

-- the facts before a change, by those after it
pub before_added : (ix : ℕ) (f : FactValue) (fs : IndexedFacts) → IsRising fs → fact_at fs ix ≡ None → fact_at (with_fact fs ix f) ix ≡ Some f → without_fact (with_fact fs ix f) ix ≡ fs
before_added ix f fs rising free there =
    let rising' = rising_with fs ix f free rising in
    one_before (ix, f) (without_fact (with_fact fs ix f) ix) fs (with_fact fs ix f) (rising_without ix f (with_fact fs ix f) rising') rising (taken_fact ix f (with_fact fs ix f) rising' there) (added_fact fs ix f free)

pub before_taken : (ix : ℕ) (f : FactValue) (fs : IndexedFacts) → IsRising fs → fact_at fs ix ≡ Some f → fact_at (without_fact fs ix) ix ≡ None → with_fact (without_fact fs ix) ix f ≡ fs
before_taken ix f fs rising there free =
    one_after (ix, f) (without_fact fs ix) (with_fact (without_fact fs ix) ix f) fs (rising_with (without_fact fs ix) ix f free (rising_without ix f fs rising)) rising
    (added_fact (without_fact fs ix) ix f free) (taken_fact ix f fs rising there)
