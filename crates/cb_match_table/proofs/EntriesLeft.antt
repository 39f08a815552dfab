-- A search among all entries: which are left.
use Rattle.std.proofs.Common.{◌≡◌, ◌≢◌, ◌∙◌, inl, inr, ℕ, zero, List, [], ◌∷◌, Option, Some, None, Contains, ap, arith, refl, subst, sym}
use Rattle.cb_match_table.specs.MatchTables.{Held, entry_at, key_at, key_of, name_in}
use Rattle.cb_match_table.specs.declared.match_table.Entry.{Entry}
use Rattle.cb_matches.specs.Keys.{KeyValue}
use Rattle.slab.proofs.SlabLemmas.{Contains-cons, Contains-cons_cases, Contains-entries}
use Rattle.slab.specs.Slab.{Slab, entries}

-- each entry with this key is among those that are left, and each that is left is the table's
pub record AreLeft {V : Type 0} (held : Held V) (rest : List (ℕ × Entry V)) (k : KeyValue) : Type 0 where
  pub has : (i : ℕ) (e : Entry V) → entry_at held i ≡ Some e → e.key ≡ k → Contains rest (i, e)
  pub own : (i : ℕ) (e : Entry V) → Contains rest (i, e) → entry_at held i ≡ Some e

module _ {V : Type 0} where
  pub left_all : (s : Slab (Entry V)) (held : Held V) (rest : List (ℕ × Entry V)) (k : KeyValue) → s.slots ≡ held → rest ≡ entries s → AreLeft held rest k
  left_all s held rest k same is = subst (λ (hs : Held V). AreLeft hs rest k) same (subst (λ (xs : List (ℕ × Entry V)). AreLeft s.slots xs k) (sym is) (record {
    has = λ i e at key. (Contains-entries s i e).1 at;
    own = λ i e there. (Contains-entries s i e).0 there;
  }))

  pub left_less : (held : Held V) (rest more : List (ℕ × Entry V)) (x : ℕ × Entry V) (k : KeyValue) → rest ≡ x ∷ more → x.1.key ≢ k → AreLeft held rest k → AreLeft held more k
  left_less held rest more x k is apart was = record {
    has = λ i e at key. elim (Contains-cons_cases x (i, e) more (subst (λ (xs : List (ℕ × Entry V)). Contains xs (i, e)) is (was.has i e at key))) as (λ _. Contains more (i, e)) [
      | inl same ↦ absurd (apart (ap (λ (y : ℕ × Entry V). y.1.key) same ∙ key))
      | inr there ↦ there
    ];
    own = λ i e there. was.own i e (subst (λ (xs : List (ℕ × Entry V)). Contains xs (i, e)) (sym is) (Contains-cons x (i, e) more there));
  }

  pub left_here : (held : Held V) (rest more : List (ℕ × Entry V)) (x : ℕ × Entry V) (k : KeyValue) → rest ≡ x ∷ more → x.1.key ≡ k → AreLeft held rest k → key_at held x.0 ≡ Some k
  left_here held rest more x k is same was =
      let there : Contains (x ∷ more) x = (zero, omega arith, refl) in
      ap (λ (o : Option (Entry V)). key_of (name_in o)) (was.own x.0 x.1 (subst (λ (xs : List (ℕ × Entry V)). Contains xs x) (sym is) there)) ∙ ap (λ (l : KeyValue). Some l) same

  entry_with : (o : Option (Entry V)) (k : KeyValue) → key_of (name_in o) ≡ Some k → (e : Entry V) × (o ≡ Some e) × (e.key ≡ k)
  entry_with None k h = absurd (let no : None ≡ Some k = h in cc)
  entry_with (Some e) k h = (e, refl, let same : e.key ≡ k = cc in same)

  pub left_none : (held : Held V) (rest : List (ℕ × Entry V)) (k : KeyValue) → rest ≡ [] → AreLeft held rest k → (i : ℕ) → key_at held i ≢ Some k
  left_none held rest k is was i h =
      let it = entry_with (entry_at held i) k h in
      let there = subst (λ (xs : List (ℕ × Entry V)). Contains xs (i, it.0)) is (was.has i it.0 it.1 it.2) in
      omega (arith, there.1)
