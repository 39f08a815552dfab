-- What adding a fact and removing one keep.
use Rattle.std.proofs.Common.{◌≡◌, ◌≢◌, ◌⊎◌, ◌∷◌, inl, inr, ℕ, Bool, true, false, cond, [], Option, Some, None, Ordering, Less, Equal, Greater, ap, is_eq, refl, sym, ◌∙◌, subst}
use Rattle.std.proofs.lemmas.Bool.{false_from_ne_true}
use Rattle.std.specs.BTreeMap as tree
use Rattle.std.specs.BTreeMap.{is_at, BTreeMap}
use Rattle.std.specs.Map.{remove_entry}
use Rattle.std.specs.Ordering.{match_ordering, nat_cmp}
use Rattle.cb_facts.specs.FactLists.{IndexedFacts, fact_at, IsFactBase}
use Rattle.cb_facts.specs.Internal.{IsIndexed, index_in}
use Rattle.cb_facts.specs.Internal.FactLaws.{fact_tied}
use Rattle.cb_facts.specs.Facts.{FactValue, fact_eq}
use Rattle.cb_facts.specs.Internal.FactOrder.{fact_cmp, mix_of}
use Rattle.cb_facts.proofs.FactEquality.{fact-Decides}
use Rattle.cb_facts.proofs.MemberLaws.{is_at-Decides}
use Rattle.cb_number_map.proofs.Filed as filed
use Rattle.cb_number_map.specs.Filed.{AreFound, ChangesAt, LeavesAside}
use Rattle.cb_number_map.specs.NumberMaps.{Updates, number_at}
use Rattle.cb_number_map.specs.declared.number_map.NumberMap.{NumberMap}

is_or_not : (f g : FactValue) (t : Bool) → fact_eq f g ≡ t → (f ≡ g) ⊎ (f ≢ g)
is_or_not f g true e = inl ((fact-Decides f g).0 e)
is_or_not f g false e = inr (λ same. cc (e, (fact-Decides f g).1 same))

pub fact-cases : (f g : FactValue) → (f ≡ g) ⊎ (f ≢ g)
fact-cases f g = is_or_not f g (fact_eq f g) refl

pub fact_base : (facts : IndexedFacts) (find : FactValue → Option ℕ) → IsIndexed facts find → IsFactBase facts
fact_base facts find inv = record {
  rising = inv.rising;
  distinct = λ fact i j p q. let e : Some i ≡ Some j = sym ((inv.agree fact i).1 p) ∙ (inv.agree fact j).1 q in cc;
}

-- what the facts say of an update
pub facts-change : (m n : BTreeMap ℕ FactValue) (ix : ℕ) (answer : Option FactValue) → tree.Updates nat_cmp m n ix answer → ChangesAt (fact_at m.entries) (fact_at n.entries) ix answer
facts-change m n ix answer u = record {
  here = u.1;
  others = λ q apart. u.2 q (false_from_ne_true (is_at (nat_cmp ix) q) (λ e. apart ((is_at-Decides ix q).0 e)));
}

-- a fact that comes under an index, filed under its mix, or aside
module _ (keys more : ℕ → Option FactValue) (ix : ℕ) (f : FactValue) (absent : (i : ℕ) → keys i ≢ Some f) (free : keys ix ≡ None) (change : ChangesAt keys more ix (Some f)) where
  pub noted_filed : (m m' : NumberMap) (a : BTreeMap FactValue ℕ) → AreFound (index_in keys m a) keys → number_at m (mix_of f) ≡ None → Updates m m' (mix_of f) (Some ix) → AreFound (index_in more m' a) more
  noted_filed = filed.noted_filed fact_eq fact_cmp mix_of fact-Decides fact_tied keys more ix f absent free change

  pub noted_aside : (m : NumberMap) (a b : BTreeMap FactValue ℕ) → AreFound (index_in keys m a) keys → tree.Updates fact_cmp a b f (Some ix) → AreFound (index_in more m b) more
  noted_aside = filed.noted_aside fact_eq fact_cmp mix_of fact-Decides fact_tied keys more ix f absent free change

-- one that goes
module _ (keys less : ℕ → Option FactValue) (ix : ℕ) (f : FactValue) (there : keys ix ≡ Some f) (change : ChangesAt keys less ix None) where
  pub forgot_filed : (m m' : NumberMap) (a b : BTreeMap FactValue ℕ) → AreFound (index_in keys m a) keys → number_at m (mix_of f) ≡ Some ix → Updates m m' (mix_of f) None → LeavesAside fact_cmp a b f → AreFound (index_in less m' b) less
  forgot_filed = filed.forgot_filed fact_eq fact_cmp mix_of fact-Decides fact_tied keys less ix f there change

  pub forgot_aside : (m : NumberMap) (a b : BTreeMap FactValue ℕ) → AreFound (index_in keys m a) keys → number_at m (mix_of f) ≢ Some ix → LeavesAside fact_cmp a b f → AreFound (index_in less m b) less
  forgot_aside = filed.forgot_aside fact_eq fact_cmp mix_of fact-Decides fact_tied keys less ix f there change

-- nothing stands aside where nothing did
pub other_fact : (a b : BTreeMap FactValue ℕ) (f g : FactValue) (r : Option ℕ) → tree.Updates fact_cmp a b f r → f ≢ g → tree.get fact_cmp b g ≡ tree.get fact_cmp a g
other_fact = filed.other_key fact_eq fact_cmp mix_of fact-Decides fact_tied

-- ---- a fact that is put and taken out again

by_order : {P : Type 0} (o : Ordering) → (o ≡ Less → P) → (o ≡ Equal → P) → (o ≡ Greater → P) → P
by_order Less less level more = less refl
by_order Equal less level more = level refl
by_order Greater less level more = more refl

level_itself : (ix : ℕ) → is_at (nat_cmp ix) ix ≡ true
level_itself ix = (is_at-Decides ix ix).1 refl

pub taken_back : (ix : ℕ) (f : FactValue) (es : IndexedFacts) → fact_at es ix ≡ None → remove_entry (is_at (nat_cmp ix)) (tree.insert_entry nat_cmp es ix f) ≡ es
taken_back ix f [] free = ap (λ (b : Bool). cond b [] ((ix, f) ∷ [])) (level_itself ix)
taken_back ix f (e ∷ es) free = by_order (nat_cmp ix e.0)
    (λ less. subst (λ o. remove_entry (is_at (nat_cmp ix)) (match_ordering o ((ix, f) ∷ e ∷ es) ((e.0, f) ∷ es) (e ∷ tree.insert_entry nat_cmp es ix f)) ≡ e ∷ es) (sym less)
    (ap (λ (b : Bool). cond b (e ∷ es) ((ix, f) ∷ remove_entry (is_at (nat_cmp ix)) (e ∷ es))) (level_itself ix)))
    (λ level. absurd (let no : Some e.1 ≡ None = sym (ap (λ (o : Ordering). cond (is_eq o) (Some e.1) (fact_at es ix)) level) ∙ free in cc))
    (λ more.
    let left : fact_at es ix ≡ None = sym (ap (λ (o : Ordering). cond (is_eq o) (Some e.1) (fact_at es ix)) more) ∙ free in
    subst (λ o. remove_entry (is_at (nat_cmp ix)) (match_ordering o ((ix, f) ∷ e ∷ es) ((e.0, f) ∷ es) (e ∷ tree.insert_entry nat_cmp es ix f)) ≡ e ∷ es) (sym more)
    (ap (λ (o : Ordering). cond (is_eq o) (tree.insert_entry nat_cmp es ix f) (e ∷ remove_entry (is_at (nat_cmp ix)) (tree.insert_entry nat_cmp es ix f))) more
    ∙ ap (λ (it : IndexedFacts). e ∷ it) (taken_back ix f es left)))
