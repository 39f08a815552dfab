-- One fact more or less among indexed facts.
use Rattle.std.proofs.Common.{◌≡◌, ◌∙◌, ◌<◌, ◌⊎◌, ℕ, Bool, true, false, [], ◌∷◌, Option, None, Some, ap, arith, cond, inl, inr, refl, subst, sym}
use Rattle.std.proofs.lemmas.Bool.{cases_order, eq-eqb, eqb-true}
use Rattle.std.specs.BTreeMap.{insert_entry, is_at}
use Rattle.std.specs.Cmp.{nat_cmp_is, unsigned_tied}
use Rattle.std.specs.Map.{lookup}
use Rattle.std.specs.Ordering.{is_eq, match_ordering, nat_cmp}
use Rattle.std.specs.declared.cmp.Ordering.{Ordering}
use Rattle.std.specs.declared.cmp.Ordering.TheVariants.{Less, Equal, Greater}
use Rattle.cb_alpha.proofs.ReadFacts.{not_both}
use Rattle.cb_facts.specs.FactLists.{IndexedFacts, fact_at, with_fact, without_fact}
use Rattle.cb_facts.specs.Facts.{FactValue}
use Rattle.cb_matches.proofs.Lists.{by_test}
use Rattle.cb_matches.specs.Chains.{In}
use Rattle.cb_matches.specs.Order.{IsRising}

abbrev pub Fact : Type 0
Fact = ℕ × FactValue

-- the second list has the facts of the first and this one, whose index none of the first has
pub record HasOneMore (f : Fact) (fs fs' : IndexedFacts) : Type 0 where
  pub was : (g : Fact) → In g fs → In g fs'
  pub is : (g : Fact) → In g fs' → In g fs ⊎ (g ≡ f)
  pub there : In f fs'
  pub absent : (g : Fact) → In g fs → g.0 ≡ f.0 → ⊥

abbrev put : ℕ → FactValue → Fact → IndexedFacts → Ordering → IndexedFacts
put ix f e es o = match_ordering o ((ix, f) ∷ e ∷ es) ((e.0, f) ∷ es) (e ∷ insert_entry nat_cmp es ix f)

abbrev looked : ℕ → Fact → IndexedFacts → Ordering → Option FactValue
looked ix e es o = cond (is_eq o) (Some e.1) (lookup (is_at (nat_cmp ix)) es)

none_of_some : (v : FactValue) → Some v ≡ None → ⊥
none_of_some v h = cc

pub one_more : (fs : IndexedFacts) (ix : ℕ) (f : FactValue) → fact_at fs ix ≡ None → HasOneMore (ix, f) fs (with_fact fs ix f)
one_more [] ix f h = record { was = λ g i. absurd i; is = λ g i. elim i as (λ _. In g [] ⊎ (g ≡ (ix, f))) [ inl e ↦ inr e | inr j ↦ absurd j ]; there = inl refl; absent = λ g i. absurd i }
one_more (e ∷ es) ix f h = elim (cases_order ix e.0) as (λ _. HasOneMore (ix, f) (e ∷ es) (with_fact (e ∷ es) ix f)) [
  | inl same ↦ absurd (none_of_some e.1 (subst (λ o. looked ix e es o ≡ None) (sym (nat_cmp_is ix e.0 Equal same)) h))
  | inr apart ↦ elim apart as (λ _. HasOneMore (ix, f) (e ∷ es) (with_fact (e ∷ es) ix f)) [
    | inl less ↦ let rest = one_more es ix f (subst (λ o. looked ix e es o ≡ None) (sym (nat_cmp_is ix e.0 Less less)) h) in
        subst (λ o. HasOneMore (ix, f) (e ∷ es) (put ix f e es o)) (nat_cmp_is ix e.0 Less less) (record {
          was = λ g i. inr i;
          is = λ g i. elim i as (λ _. In g (e ∷ es) ⊎ (g ≡ (ix, f))) [ inl d ↦ inr d | inr j ↦ inl j ];
          there = inl refl;
          absent = λ g i d. elim i as (λ _. ⊥) [ inl k ↦ absurd (let l : g.0 ≡ e.0 = ap (λ it. it.0) k in omega (arith, less, d, l)) | inr k ↦ rest.absent g k d ];
        })
    | inr more ↦ let rest = one_more es ix f (subst (λ o. looked ix e es o ≡ None) (sym (nat_cmp_is ix e.0 Greater more)) h) in
        subst (λ o. HasOneMore (ix, f) (e ∷ es) (put ix f e es o)) (nat_cmp_is ix e.0 Greater more) (record {
          was = λ g i. elim i as (λ _. In g (e ∷ insert_entry nat_cmp es ix f)) [ inl d ↦ inl d | inr j ↦ inr (rest.was g j) ];
          is = λ g i. elim i as (λ _. In g (e ∷ es) ⊎ (g ≡ (ix, f))) [
            | inl d ↦ inl (inl d)
            | inr j ↦ elim (rest.is g j) as (λ _. In g (e ∷ es) ⊎ (g ≡ (ix, f))) [ inl k ↦ inl (inr k) | inr d ↦ inr d ]
          ];
          there = inr rest.there;
          absent = λ g i d. elim i as (λ _. ⊥) [ inl k ↦ absurd (let l : g.0 ≡ e.0 = ap (λ it. it.0) k in omega (arith, more, d, l)) | inr k ↦ rest.absent g k d ];
        })
  ]
]

-- what is in a list without the fact of an index
at_it : (ix : ℕ) (e : Fact) → is_at (nat_cmp ix) e.0 ≡ true → ix ≡ e.0
at_it ix e h = eqb-true ix e.0 (sym (unsigned_tied ix e.0) ∙ h)

not_at : (ix : ℕ) (e : Fact) → is_at (nat_cmp ix) e.0 ≡ false → e.0 ≡ ix → ⊥
not_at ix e h d = not_both (is_at (nat_cmp ix) e.0) (unsigned_tied ix e.0 ∙ eq-eqb ix e.0 (sym d)) h

abbrev left_of : ℕ → Fact → IndexedFacts → Bool → IndexedFacts
left_of ix e es b = cond b es (e ∷ without_fact es ix)

pub left_in : (es : IndexedFacts) (ix : ℕ) (z : Fact) → In z (without_fact es ix) → In z es
left_in [] ix z h = h
left_in (e ∷ es) ix z h =
    by_test (is_at (nat_cmp ix) e.0)
    (λ t. inr (subst (λ b. In z (left_of ix e es b)) t h))
    (λ t. elim (subst (λ b. In z (left_of ix e es b)) t h) as (λ _. In z (e ∷ es)) [ inl d ↦ inl d | inr j ↦ inr (left_in es ix z j) ])

pub without_other : (es : IndexedFacts) (ix : ℕ) (z : Fact) → IsRising es → In z (without_fact es ix) → z.0 ≡ ix → ⊥
without_other [] ix z rising h d = absurd h
without_other (e ∷ es) ix z rising h d =
    by_test (is_at (nat_cmp ix) e.0)
    (λ t. let i : In z es = subst (λ b. In z (left_of ix e es b)) t h in let l : e.0 < z.0 = rising.0 z i in let m = at_it ix e t in absurd (omega (arith, l, m, d)))
    (λ t. elim (subst (λ b. In z (left_of ix e es b)) t h) as (λ _. ⊥) [ inl c ↦ not_at ix e t (ap (λ it. it.0) (sym c) ∙ d) | inr j ↦ without_other es ix z rising.1 j d ])

pub other_without : (es : IndexedFacts) (ix : ℕ) (z : Fact) → In z es → (z.0 ≡ ix → ⊥) → In z (without_fact es ix)
other_without [] ix z h d = absurd h
other_without (e ∷ es) ix z h d =
    by_test (is_at (nat_cmp ix) e.0)
    (λ t. subst (λ b. In z (left_of ix e es b)) (sym t) (elim h as (λ _. In z es) [ inl c ↦ absurd (d (ap (λ it. it.0) c ∙ sym (at_it ix e t))) | inr j ↦ j ]))
    (λ t. subst (λ b. In z (left_of ix e es b)) (sym t) (elim h as (λ _. In z (e ∷ without_fact es ix)) [ inl c ↦ inl c | inr j ↦ inr (other_without es ix z j d) ]))
