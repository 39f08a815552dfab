-- `==` of facts is an equivalence, equal facts are fed to a hasher alike, and the order of facts is total and agrees with `==`.
use Rattle.std.specs.Prelude.{◌≡◌, ℕ, List, Bool, true, false, nat_eq}
use Rattle.std.proofs.Common.{ap, ap₂, refl, sym, ◌∙◌}
use Rattle.std.proofs.lemmas.Bool.{false≢true, eq-eqb}
use Rattle.std.specs.Cmp.{IsEquivalence, IsTotalOrder, and_equiv, on_equiv, on_total, then_total, both_tied, first_so, second_so, nat_cmp_total, unsigned_tied}
use Rattle.std.specs.Cmp.Lexicographic.{pointwise, slice_cmp, lists_equiv, lists_total, lists_ties, on_texts, texts_ties, nat_list_eq_equiv, bytes_decides}
use Rattle.std.specs.declared.cmp.Ordering.{Ordering}
use Rattle.std.specs.declared.cmp.Ordering.TheVariants.{Less, Equal, Greater}
use Rattle.std.specs.Ordering.{is_eq, is_lt, eq_by_cmp, nat_cmp, ordering_reverse, ordering_then}
use Rattle.std.specs.Hash as fed
use Rattle.std.specs.Hash.{Alike, and-Alike, on_Alike, items_Alike, same_Alike}
use Rattle.cb_facts.specs.Facts.{FactContent, fields, slots, FactValue, slot_eq, content_eq, fact_eq}
use Rattle.cb_facts.specs.Internal.Hashes.{hash_of_bytes}
use Rattle.cb_facts.specs.Internal.FactOrder.{slot_cmp, slot_writes, content_cmp, content_writes, fact_cmp, rest_cmp, hash_from, hash_of}
use Rattle.cb_facts.specs.contracts.single.SingleEq.TheImpl.Laws as single_eq
use Rattle.cb_facts.specs.contracts.single.SingleOrd.TheImpl as single_order
use Rattle.cb_facts.specs.contracts.single.SingleOrd.TheImpl.Laws as single_ord
use Rattle.cb_facts.specs.contracts.single.SingleHash.TheImpl.Laws as single_hash
use Rattle.cb_facts.specs.contracts.value.ValueEq.TheImpl.Laws as value_eq
use Rattle.cb_facts.specs.contracts.value.ValueOrd.TheImpl as order
use Rattle.cb_facts.specs.contracts.value.ValueOrd.TheImpl.Laws as value_ord
use Rattle.cb_facts.specs.contracts.value.ValuePartialEq.TheImpl as equality
use Rattle.cb_facts.specs.contracts.value.ValueHash.TheImpl.Laws as value_hash
use Rattle.cb_facts.specs.declared.value.Value.{Value}

slot_equiv : IsEquivalence slot_eq
slot_equiv = and_equiv (on_equiv (λ (s : List ℕ × Value). s.0) nat_list_eq_equiv) (on_equiv (λ (s : List ℕ × Value). s.1) value_eq.laws-law)

slot_alike : Alike slot_eq slot_writes
slot_alike =
    and-Alike (on_Alike (λ (s : List ℕ × Value). s.0) (same_Alike (λ n. fed.u64 (hash_of_bytes n)) bytes_decides))
    (on_Alike (λ (s : List ℕ × Value). s.1) (record { fed = value_hash.respects_eq-law }))

content_refl : (c : FactContent) → content_eq c c ≡ true
content_refl (fields xs) = (lists_equiv single_eq.laws-law).refl xs
content_refl (slots ss) = (lists_equiv slot_equiv).refl ss

content_symm : (c d : FactContent) → content_eq c d ≡ content_eq d c
content_symm (fields xs) (fields ys) = (lists_equiv single_eq.laws-law).symm xs ys
content_symm (fields xs) (slots ts) = refl
content_symm (slots ss) (fields ys) = refl
content_symm (slots ss) (slots ts) = (lists_equiv slot_equiv).symm ss ts

content_congr : (c d e : FactContent) → content_eq c d ≡ true → content_eq c e ≡ content_eq d e
content_congr (fields xs) (fields ys) (fields zs) h = (lists_equiv single_eq.laws-law).congr xs ys zs h
content_congr (fields xs) (fields ys) (slots ts) h = refl
content_congr (fields xs) (slots ss) e h = absurd (false≢true h)
content_congr (slots rs) (fields xs) e h = absurd (false≢true h)
content_congr (slots rs) (slots ss) (fields ys) h = refl
content_congr (slots rs) (slots ss) (slots ts) h = (lists_equiv slot_equiv).congr rs ss ts h

content_equiv : IsEquivalence content_eq
content_equiv = record { refl = content_refl; symm = content_symm; congr = content_congr }

pub fact_equiv : IsEquivalence fact_eq
fact_equiv = and_equiv (on_equiv (λ (f : FactValue). f.relation) nat_list_eq_equiv) (on_equiv (λ (f : FactValue). f.content) content_equiv)

content_fed : (c d : FactContent) → content_eq c d ≡ true → content_writes c ≡ content_writes d
content_fed (fields xs) (fields ys) h = (items_Alike (record { fed = single_hash.respects_eq-law })).fed xs ys h
content_fed (fields xs) (slots ts) h = absurd (false≢true h)
content_fed (slots ss) (fields ys) h = absurd (false≢true h)
content_fed (slots ss) (slots ts) h = (items_Alike slot_alike).fed ss ts h

pub hash_of_equal : (f g : FactValue) → fact_eq f g ≡ true → hash_of f ≡ hash_of g
hash_of_equal f g e =
    ap₂ hash_from ((bytes_decides f.relation g.relation).0 (first_so (pointwise nat_eq f.relation g.relation) (content_eq f.content g.content) e))
    (content_fed f.content g.content (second_so (pointwise nat_eq f.relation g.relation) (content_eq f.content g.content) e))

pub fact_fed : (f g : FactValue) → fact_eq f g ≡ true → fed.u64 (hash_of f) ≡ fed.u64 (hash_of g)
fact_fed f g e = ap fed.u64 (hash_of_equal f g e)

slot_total : IsTotalOrder slot_cmp
slot_total = then_total (on_texts (λ (s : List ℕ × Value). s.0)) (on_total (λ (s : List ℕ × Value). s.1) value_ord.total-law)

slot_tied : (s t : List ℕ × Value) → slot_eq s t ≡ eq_by_cmp slot_cmp s t
slot_tied s t = both_tied (pointwise nat_eq s.0 t.0) (equality.ghosts.eq s.1 t.1) (slice_cmp nat_cmp s.0 t.0) (order.ghosts.cmp s.1 t.1) (texts_ties s.0 t.0) (value_ord.matches_eq-law s.1 t.1)

content_antisymm : (c d : FactContent) → content_cmp c d ≡ ordering_reverse (content_cmp d c)
content_antisymm (fields xs) (fields ys) = (lists_total single_ord.total-law).antisymm xs ys
content_antisymm (fields xs) (slots ts) = refl
content_antisymm (slots ss) (fields ys) = refl
content_antisymm (slots ss) (slots ts) = (lists_total slot_total).antisymm ss ts

content_trans : (c d e : FactContent) → content_cmp c d ≡ Less → content_cmp d e ≡ Less → content_cmp c e ≡ Less
content_trans (fields xs) (fields ys) (fields zs) h k = (lists_total single_ord.total-law).trans xs ys zs h k
content_trans (fields xs) d (slots ts) h k = refl
content_trans (fields xs) (slots ss) (fields ys) h k = absurd (false≢true (ap is_lt k))
content_trans (slots rs) (fields xs) e h k = absurd (false≢true (ap is_lt h))
content_trans (slots rs) (slots ss) (fields ys) h k = absurd (false≢true (ap is_lt k))
content_trans (slots rs) (slots ss) (slots ts) h k = (lists_total slot_total).trans rs ss ts h k

content_level : (c d e : FactContent) → content_cmp c d ≡ Equal → content_cmp c e ≡ content_cmp d e
content_level (fields xs) (fields ys) (fields zs) h = (lists_total single_ord.total-law).congr xs ys zs h
content_level (fields xs) (fields ys) (slots ts) h = refl
content_level (fields xs) (slots ss) e h = absurd (false≢true (ap is_eq h))
content_level (slots rs) (fields xs) e h = absurd (false≢true (ap is_eq h))
content_level (slots rs) (slots ss) (fields ys) h = refl
content_level (slots rs) (slots ss) (slots ts) h = (lists_total slot_total).congr rs ss ts h

content_total : IsTotalOrder content_cmp
content_total = record { antisymm = content_antisymm; trans = content_trans; congr = content_level }

content_tied : (c d : FactContent) → content_eq c d ≡ eq_by_cmp content_cmp c d
content_tied (fields xs) (fields ys) = lists_ties single_order.ghosts.cmp single_ord.matches_eq-law xs ys
content_tied (fields xs) (slots ts) = refl
content_tied (slots ss) (fields ys) = refl
content_tied (slots ss) (slots ts) = lists_ties slot_cmp slot_tied ss ts

pub fact_total : IsTotalOrder fact_cmp
fact_total = then_total (on_total hash_of nat_cmp_total) (then_total (on_texts (λ (f : FactValue). f.relation)) (on_total (λ (f : FactValue). f.content) content_total))

-- where what is equal is level by the first order, the second alone tells what is equal
guarded : (same : Bool) (first second : Ordering) → same ≡ is_eq second → (same ≡ true → is_eq first ≡ true) → same ≡ is_eq (ordering_then first second)
guarded same Equal second tied level = tied
guarded true Less second tied level = sym (level refl)
guarded true Greater second tied level = sym (level refl)
guarded false Less second tied level = refl
guarded false Greater second tied level = refl

pub fact_tied : (f g : FactValue) → fact_eq f g ≡ eq_by_cmp fact_cmp f g
fact_tied f g =
    guarded (fact_eq f g) (nat_cmp (hash_of f) (hash_of g)) (rest_cmp f g)
    (both_tied (pointwise nat_eq f.relation g.relation) (content_eq f.content g.content) (slice_cmp nat_cmp f.relation g.relation) (content_cmp f.content g.content)
    (texts_ties f.relation g.relation) (content_tied f.content g.content))
    (λ e. unsigned_tied (hash_of f) (hash_of g) ∙ eq-eqb (hash_of f) (hash_of g) (hash_of_equal f g e))
