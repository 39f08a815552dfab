-- The lists that the nodes of a branch go on from: each is before its own, and what is inside a group goes on from what is before it.
use Rattle.std.proofs.Common.{◌≡◌, ℕ, zero, suc, ◌+◌, ◌<◌, Bool, true, false, List, [], ◌∷◌, Option, Some, None, length, refl, sym, subst, arith}
use Rattle.std.specs.Prelude.{slice_get, slice_index_or}
use Rattle.cb_constraints.specs.PatternValues.{PatternValue}
use Rattle.cb_flat.proofs.Named.{AllAt, IsBelow, all_both, all_first, all_second, below_all, from_each, from_inside, place_behind}
use Rattle.cb_flat.specs.Sources.{source_of, sources_of}
use Rattle.cb_nodes.specs.Flat.{FlatNode, alone, branch_nodes, count_inside, flat_all, group_node, grouping, joining, last_list, lone_pattern, node_count, nodes_inside, testing}
use Rattle.cb_rules.specs.Elements.{pattern, test, group, Elements, no_elements, element}
use Rattle.cb_token_lists.specs.Partials.{AreBelow, LeadsTo, SourceValue, leads_below, leads_here}

-- what holds of each node at its place holds of the one that is there
pub at_get : (P : ℕ → FlatNode → Type 0) (k : ℕ) (ns : List FlatNode) → AllAt P k ns → (i : ℕ) (n : FlatNode) → slice_get ns i ≡ Some n → P (i + k) n
at_get P k [] h i n e = cc
at_get P k (m ∷ ns) h zero n e = let same : m ≡ n = cc in subst (λ it. P (0 + k) it) same (subst (λ j. P j m) (let l : k ≡ 0 + k = omega (arith) in l) h.0)
at_get P k (m ∷ ns) h (suc i) n e = subst (λ j. P j n) (let l : i + suc k ≡ suc i + k = omega (arith) in l) (at_get P (suc k) ns h.1 i n e)

-- the source of a list is that of its node
source_got : (ns : List FlatNode) (k : ℕ) (s : SourceValue) → slice_get (sources_of ns) k ≡ Some s → (n : FlatNode) × (slice_get ns k ≡ Some n) × (s ≡ source_of n)
source_got [] k s e = cc
source_got (n ∷ ns) zero s e = let same : s ≡ source_of n = cc in (n, refl, same)
source_got (n ∷ ns) (suc k) s e = source_got ns k s e

got_source : (ns : List FlatNode) (k : ℕ) (d : FlatNode) → k < length ns → slice_get (sources_of ns) k ≡ Some (source_of (slice_index_or ns k d))
got_source [] k d l = absurd (omega (arith, l))
got_source (n ∷ ns) zero d l = refl
got_source (n ∷ ns) (suc k) d l = got_source ns k d (omega (arith, l))

from_below : (k : ℕ) (n : FlatNode) → IsBelow k n → (source_of n).from < k
from_below k (joining from x p ts) l = l
from_below k (testing from t) l = l
from_below k (grouping from inner positive width) l = l.0
from_below k (alone from p positive) l = l

-- each list goes on from one before it
pub branch_below : (es : Elements) → AreBelow (sources_of (branch_nodes es))
branch_below es k s e =
    let n = source_got (branch_nodes es) k s e in
    let l : (source_of n.0).from < k + 1 = from_below (k + 1) n.0 (at_get IsBelow 1 (branch_nodes es) (below_all false es 0 1 0 (omega (arith))) k n.0 n.1) in
    subst (λ it. it.from < suc k) (sym n.2) (omega (arith, l))

-- list k goes on from what its node does
abbrev IsSource : List SourceValue → ℕ → FlatNode → Type 0
IsSource sources zero n = ⊥
IsSource sources (suc k) n = slice_get sources k ≡ Some (source_of n)

-- what is inside a group goes on from what is before it
abbrev GroupLeads : List SourceValue → ℕ → FlatNode → Type 0
GroupLeads sources k (joining from x p ts) = Unit {0}
GroupLeads sources k (testing from t) = Unit {0}
GroupLeads sources k (grouping from inner positive width) = LeadsTo sources from inner
GroupLeads sources k (alone from p positive) = Unit {0}

module _ (sources : List SourceValue) where
  leads_one : (j k : ℕ) (n : FlatNode) → IsSource sources k n → LeadsTo sources j (source_of n).from → LeadsTo sources j k
  leads_one j zero n h l = absurd h
  leads_one j (suc k) n h l = leads_below k (source_of n) h l

  leads_group : (j k : ℕ) (o : Option PatternValue) (from last : ℕ) (positive : Bool) (n : ℕ) → IsSource sources k (group_node o from last positive n) → LeadsTo sources j from → LeadsTo sources j k
  leads_group j k (Some p) from last positive n h l = leads_one j k (alone from p positive) h l
  leads_group j k None from last positive n h l = leads_one j k (grouping from last positive n) h l

  -- the last list of elements goes on from the one before them
  leads_last : (j : ℕ) (behind : Bool) (es : Elements) (from k n : ℕ) → AllAt (IsSource sources) k (flat_all behind es from k n) → LeadsTo sources j from → LeadsTo sources j (last_list behind es from k)
  leads_last j behind no_elements from k n h l = l
  leads_last j behind (element (pattern x p) es) from k n h l = leads_last j true es k (suc k) (suc n) h.1 (leads_one j k _ h.0 l)
  leads_last j true (element (test t) es) from k n h l = leads_last j true es from k n h l
  leads_last j false (element (test t) es) from k n h l = leads_last j false es k (suc k) n h.1 (leads_one j k (testing from t) h.0 l)
  leads_last j behind (element (group positive inner) es) from k n h l =
      let o = lone_pattern inner in
      let i : ℕ = k + count_inside o (node_count false inner) in
      let last = last_list false inner from k in
      let inside = flat_all false inner from k n in
      let rest = group_node o from last positive n ∷ flat_all false es i (suc i) n in
      let more = all_second (IsSource sources) k i (nodes_inside o inside) rest (place_behind inner from k n) h in
      leads_last j false es i (suc i) n more.1 (leads_group j i o from last positive n more.0 l)

  group_leads : (o : Option PatternValue) (from last k i : ℕ) (positive : Bool) (n : ℕ) (inside : List FlatNode) → (AllAt (IsSource sources) k inside → LeadsTo sources from last)
      → AllAt (IsSource sources) k (nodes_inside o inside) → GroupLeads sources i (group_node o from last positive n)
  group_leads (Some p) from last k i positive n inside leads h = tt
  group_leads None from last k i positive n inside leads h = leads h

  -- and so it is for each group
  leads_groups : (behind : Bool) (es : Elements) (from k n : ℕ) → AllAt (IsSource sources) k (flat_all behind es from k n) → AllAt (GroupLeads sources) k (flat_all behind es from k n)
  leads_groups behind no_elements from k n h = tt
  leads_groups behind (element (pattern x p) es) from k n h = (tt, leads_groups true es k (suc k) (suc n) h.1)
  leads_groups true (element (test t) es) from k n h = leads_groups true es from k n h
  leads_groups false (element (test t) es) from k n h = (tt, leads_groups false es k (suc k) n h.1)
  leads_groups behind (element (group positive inner) es) from k n h =
      let o = lone_pattern inner in
      let i : ℕ = k + count_inside o (node_count false inner) in
      let last = last_list false inner from k in
      let inside = flat_all false inner from k n in
      let rest = group_node o from last positive n ∷ flat_all false es i (suc i) n in
      let first = all_first (IsSource sources) k (nodes_inside o inside) rest h in
      let more = all_second (IsSource sources) k i (nodes_inside o inside) rest (place_behind inner from k n) h in
      all_both (GroupLeads sources) k i (nodes_inside o inside) rest (place_behind inner from k n)
      (from_inside (IsSource sources) (GroupLeads sources) o k inside (λ made. leads_groups false inner from k n made) first)
      (group_leads o from last k i positive n inside (λ made. leads_last from false inner from k n made leads_here) first, leads_groups false es i (suc i) n more.1)

all_sources : (ns : List FlatNode) → AllAt (IsSource (sources_of ns)) 1 ns
all_sources ns = from_each (IsSource (sources_of ns)) 1 ns (λ i d l. subst (λ j. IsSource (sources_of ns) j (slice_index_or ns i d)) (let e : suc i ≡ i + 1 = omega (arith) in e) (got_source ns i d l))

-- in a branch, going down from the last list inside a group, the list before the group is come to
pub inside_leads : (es : Elements) (k from inner : ℕ) (positive : Bool) (width : ℕ) → slice_get (branch_nodes es) k ≡ Some (grouping from inner positive width)
    → LeadsTo (sources_of (branch_nodes es)) from inner
inside_leads es k from inner positive width e =
    at_get (GroupLeads (sources_of (branch_nodes es))) 1 (branch_nodes es) (leads_groups (sources_of (branch_nodes es)) false es 0 1 0 (all_sources (branch_nodes es))) k (grouping from inner positive width) e
