-- How partial matches grow at a pattern, and that they stay in order.
use Rattle.std.proofs.Common.{◌≡◌, ◌≢◌, ℕ, ◌<◌, List, [], ◌∷◌, ◌++◌, Option, inl, inr, sym, ap, subst}
use Rattle.std.specs.Cmp.Lexicographic.{slice_cmp}
use Rattle.std.specs.List.{flat_map}
use Rattle.std.specs.Ordering.{nat_cmp}
use Rattle.std.specs.declared.cmp.Ordering.TheVariants.{Less}
use Rattle.cb_constraints.specs.PatternValues.{PatternValue}
use Rattle.cb_exprs.specs.Bindings.{Bindings}
use Rattle.cb_facts.specs.FactLists.{IndexedFacts}
use Rattle.cb_facts.specs.Facts.{FactValue}
use Rattle.cb_fit.specs.Ways.{WayValue, ways}
use Rattle.cb_matches.specs.Chains.{In, Chain}
use Rattle.cb_matches.specs.Order.{IsEarlier, IsOnce, IsRising, IsSorted, WaysRise}
use Rattle.cb_matches.proofs.Lists.{in_flat, flat_in, in_map, map_in, chain_flat, chain_map, chain_weaker, chain_compares}
use Rattle.cb_matches.proofs.PartOrder.{below_by_cuts, below_by_index, earlier_last, earlier_more, part, same_last, never_earlier}
use Rattle.cb_matches.specs.Keys.{PartValue}
use Rattle.cb_matches.specs.Matches.{Partial, extended, grown, next, with_address}

abbrev pub Fact : Type 0
Fact = ℕ × FactValue

abbrev pub ways_after : Option (List ℕ) → PatternValue → Partial → Fact → List WayValue
ways_after x p m f = ways p f.1 (with_address x f.0 m.env)

-- a partial match one place further: the one before it, its fact and its way
pub record IsGrown (x : Option (List ℕ)) (p : PatternValue) (fs : IndexedFacts) (ms : List Partial) (z : Partial) : Type 0 where
  pub parent : Partial
  pub fact : Fact
  pub way : WayValue
  pub parent_in : In parent ms
  pub fact_in : In fact fs
  pub way_in : In way (ways_after x p parent fact)
  pub is : z ≡ grown x fact.0 parent way

pub is_grown : (x : Option (List ℕ)) (p : PatternValue) (fs : IndexedFacts) (ms : List Partial) (z : Partial) → In z (next x p fs ms) → IsGrown x p fs ms z
is_grown x p fs ms z h =
    let one = in_flat (λ m. flat_map (extended x p m) fs) z ms h in
    let two = in_flat (extended x p one.0) z fs one.2 in
    let three = in_map (grown x two.0.0 one.0) z (ways_after x p one.0 two.0) two.2 in
    record { parent = one.0; fact = two.0; way = three.0; parent_in = one.1; fact_in = two.1; way_in = three.1; is = three.2 }

pub in_next : (x : Option (List ℕ)) (p : PatternValue) (fs : IndexedFacts) (ms : List Partial) (m : Partial) (f : Fact) (w : WayValue)
    → In m ms → In f fs → In w (ways_after x p m f) → In (grown x f.0 m w) (next x p fs ms)
in_next x p fs ms m f w h i j =
    flat_in (λ n. flat_map (extended x p n) fs) (grown x f.0 m w) ms m h (flat_in (extended x p m) (grown x f.0 m w) fs f i (map_in (grown x f.0 m) (ways_after x p m f) w j))

-- a relation on lists of parts that a part at the end keeps
record IsKept (R : List PartValue → List PartValue → Type 0) (S : Fact → Fact → Type 0) (Q : WayValue → WayValue → Type 0) : Type 0 where
  across : (ps qs : List PartValue) (p q : PartValue) → R ps qs → R (ps ++ p ∷ []) (qs ++ q ∷ [])
  by_fact : (ps : List PartValue) (f g : Fact) (cs ds : List ℕ) → S f g → R (ps ++ part f.0 cs ∷ []) (ps ++ part g.0 ds ∷ [])
  by_way : (ps : List PartValue) (i : ℕ) (v w : WayValue) → Q v w → R (ps ++ part i v.cuts ∷ []) (ps ++ part i w.cuts ∷ [])

chain_next : (R : List PartValue → List PartValue → Type 0) (S : Fact → Fact → Type 0) (Q : WayValue → WayValue → Type 0) → IsKept R S Q
    → ((p : PatternValue) (f : FactValue) (env : Bindings) → Chain Q (ways p f env))
    → (x : Option (List ℕ)) (p : PatternValue) (fs : IndexedFacts) (ms : List Partial) → Chain S fs → Chain (λ (m : Partial) (n : Partial). R m.parts n.parts) ms
    → Chain (λ (m : Partial) (n : Partial). R m.parts n.parts) (next x p fs ms)
chain_next R S Q k ways_are x p fs ms facts_are sorted =
    chain_flat (λ (m : Partial) (n : Partial). R m.parts n.parts) (λ (m : Partial) (n : Partial). R m.parts n.parts) (λ m. flat_map (extended x p m) fs) ms sorted
    (λ m _. chain_flat S (λ (a : Partial) (b : Partial). R a.parts b.parts) (extended x p m) fs facts_are
    (λ f _. chain_map Q (λ (a : Partial) (b : Partial). R a.parts b.parts) (grown x f.0 m) (ways_after x p m f) (ways_are p f.1 (with_address x f.0 m.env))
    (λ v w h. k.by_way m.parts f.0 v w h))
    (λ f g u v h i j.
    let a = in_map (grown x f.0 m) u (ways_after x p m f) i in
    let b = in_map (grown x g.0 m) v (ways_after x p m g) j in
    subst (λ it. R it.parts v.parts) (sym a.2) (subst (λ it. R (grown x f.0 m a.0).parts it.parts) (sym b.2) (k.by_fact m.parts f g a.0.cuts b.0.cuts h))))
    (λ m n u v h i j.
    let a = in_flat (extended x p m) u fs i in
    let a' = in_map (grown x a.0.0 m) u (ways_after x p m a.0) a.2 in
    let b = in_flat (extended x p n) v fs j in
    let b' = in_map (grown x b.0.0 n) v (ways_after x p n b.0) b.2 in
    subst (λ it. R it.parts v.parts) (sym a'.2) (subst (λ it. R (grown x a.0.0 m a'.0).parts it.parts) (sym b'.2)
    (k.across m.parts n.parts (part a.0.0 a'.0.cuts) (part b.0.0 b'.0.cuts) h)))

-- the definition is in order by itself
pub sorted_next : WaysRise → (x : Option (List ℕ)) (p : PatternValue) (fs : IndexedFacts) (ms : List Partial) → IsRising fs → IsSorted ms → IsSorted (next x p fs ms)
sorted_next rise x p fs ms facts sorted =
    chain_next IsEarlier (λ f g. f.0 < g.0) (λ v w. slice_cmp nat_cmp v.cuts w.cuts ≡ Less)
    (record {
      across = λ ps qs p q h. earlier_more ps qs (p ∷ []) (q ∷ []) h;
      by_fact = λ ps f g cs ds h. earlier_last ps (part f.0 cs) (part g.0 ds) (below_by_index f.0 g.0 cs ds h);
      by_way = λ ps i v w h. earlier_last ps (part i v.cuts) (part i w.cuts) (below_by_cuts i v.cuts w.cuts h);
    })
    rise x p fs ms facts sorted

-- two ways of one fact have different cuts
ways_once : WaysRise → (p : PatternValue) (f : FactValue) (env : Bindings) → Chain (λ (v : WayValue) (w : WayValue). v.cuts ≢ w.cuts) (ways p f env)
ways_once rise p f env =
    chain_weaker (λ (v : WayValue) (w : WayValue). slice_cmp nat_cmp v.cuts w.cuts ≡ Less) (λ (v : WayValue) (w : WayValue). v.cuts ≢ w.cuts)
    (λ v w h e. never_earlier (part 0 v.cuts ∷ []) (inl (below_by_cuts 0 v.cuts v.cuts (subst (λ it. slice_cmp nat_cmp v.cuts it ≡ Less) (sym e) h)))) (ways p f env) (rise p f env)

-- nothing is found twice, in whatever order it is sought
pub once_next : WaysRise → (x : Option (List ℕ)) (p : PatternValue) (fs : IndexedFacts) (ms : List Partial) → Chain (λ (f : Fact) (g : Fact). f.0 ≢ g.0) fs → IsOnce ms → IsOnce (next x p fs ms)
once_next rise x p fs ms facts once =
    chain_next (λ ps qs. ps ≢ qs) (λ f g. f.0 ≢ g.0) (λ v w. v.cuts ≢ w.cuts)
    (record {
      across = λ ps qs p q h e. h (same_last ps qs p q e).0;
      by_fact = λ ps f g cs ds h e. h (ap (λ it. it.index) (same_last ps ps (part f.0 cs) (part g.0 ds) e).1);
      by_way = λ ps i v w h e. h (ap (λ it. it.cuts) (same_last ps ps (part i v.cuts) (part i w.cuts) e).1);
    })
    (ways_once rise) x p fs ms facts once

-- the cuts fix the way
pub ways_differ : WaysRise → (p : PatternValue) (f : FactValue) (env : Bindings) (v w : WayValue) → In v (ways p f env) → In w (ways p f env) → v.cuts ≡ w.cuts → v ≡ w
ways_differ rise p f env v w h i e = elim (chain_compares (λ (a : WayValue) (b : WayValue). a.cuts ≢ b.cuts) (ways p f env) (ways_once rise p f env) v w h i) as (λ _. v ≡ w) [
  | inl j ↦ j
  | inr j ↦ elim j as (λ _. v ≡ w) [ inl k ↦ absurd (k e) | inr k ↦ absurd (k (sym e)) ]
]
