-- How many parts the partial matches of each list have, and that none is there twice.
use Rattle.std.proofs.Common.{◌≡◌, ℕ, zero, suc, ◌+◌, ◌<◌, Bool, true, false, List, [], ◌∷◌, ◌++◌, ◌⊎◌, Option, Some, None, inl, inr, length, refl, sym, ◌∙◌, ap, subst, arith}
use Rattle.std.specs.List.{list_any}
use Rattle.std.specs.Prelude.{slice_index_or}
use Rattle.cb_constraints.specs.PatternValues.{PatternValue}
use Rattle.cb_facts.specs.FactLists.{IndexedFacts}
use Rattle.cb_nodes.specs.Flat.{AreLists, AreWidths, FlatNode, IsWell, Lists, all_hold, alone, begins, branch_nodes, count_inside, flat_all, group_node, grouping, holds_alone, holds_by, joining, last_list, lists_of, lone_pattern, node_count, node_list, node_width, nodes_inside, testing, widths_from, widths_of}
use Rattle.cb_nodes.specs.Patterns.{HaveIndices}
use Rattle.cb_nodes.specs.Lists.{HaveParts}
use Rattle.cb_nodes.proofs.Origins.{long_filter, long_pattern}
use Rattle.cb_flat.proofs.Named.{AllAt, IsBelow, all_both, all_first, all_second, at_each, below_all, from_each, from_inside, place_behind}
use Rattle.cb_flat.proofs.Lone.{group_width}
use Rattle.cb_flat.proofs.Flat.{are_lists, gathered, gathered_front, gathered_is, list_local}
use Rattle.cb_matches.proofs.Growth.{once_next}
use Rattle.cb_matches.proofs.Lists.{chain_filter}
use Rattle.cb_matches.specs.Chains.{In}
use Rattle.cb_matches.specs.Order.{IsApart, IsOnce, WaysRise}
use Rattle.cb_matches.specs.Matches.{Partial, next, test_holds}
use Rattle.cb_rules.specs.Elements.{pattern, test, group, Elements, no_elements, element}

widths_gathered : (ns : List FlatNode) (ws : List ℕ) → widths_from ns ws ≡ gathered node_width 0 ns ws
widths_gathered [] ws = refl
widths_gathered (n ∷ ns) ws = widths_gathered ns (ws ++ node_width n (λ k. slice_index_or ws k 0) ∷ [])

abbrev pub MakeWidths : (ℕ → ℕ) → ℕ → FlatNode → Type 0
MakeWidths ws k n = ws k ≡ node_width n ws

width_local : (n : FlatNode) (k : ℕ) (f g : ℕ → ℕ) → IsBelow k n → ((j : ℕ) → j < k → f j ≡ g j) → node_width n f ≡ node_width n g
width_local (joining from x p ts) k f g l h = ap suc (h from l)
width_local (testing from t) k f g l h = h from l
width_local (grouping from inner positive width) k f g l h = h from l.0
width_local (alone from p positive) k f g l h = h from l

-- a group has the width of the list before it
abbrev pub IsWide : (ℕ → ℕ) → ℕ → FlatNode → Type 0
IsWide ws k (joining from x p ts) = Unit {0}
IsWide ws k (testing from t) = Unit {0}
IsWide ws k (grouping from inner positive width) = width ≡ ws from
IsWide ws k (alone from p positive) = Unit {0}

group_wide : (o : Option PatternValue) (from last : ℕ) (positive : Bool) (n k : ℕ) (ws : ℕ → ℕ) → n ≡ ws from → IsWide ws k (group_node o from last positive n)
group_wide (Some p) from last positive n k ws e = tt
group_wide None from last positive n k ws e = e

wide_all : (behind : Bool) (es : Elements) (from k n : ℕ) (ws : ℕ → ℕ) → ws from ≡ n → AllAt (MakeWidths ws) k (flat_all behind es from k n) → AllAt (IsWide ws) k (flat_all behind es from k n)
wide_all behind no_elements from k n ws e h = tt
wide_all behind (element (pattern x p) es) from k n ws e h = (tt, wide_all true es k (suc k) (suc n) ws (h.0 ∙ ap suc e) h.1)
wide_all true (element (test t) es) from k n ws e h = wide_all true es from k n ws e h
wide_all false (element (test t) es) from k n ws e h = (tt, wide_all false es k (suc k) n ws (h.0 ∙ e) h.1)
wide_all behind (element (group positive inner) es) from k n ws e h =
    let o = lone_pattern inner in
    let last = last_list false inner from k in
    let j : ℕ = k + count_inside o (node_count false inner) in
    let inside = flat_all false inner from k n in
    let rest = group_node o from last positive n ∷ flat_all false es j (suc j) n in
    let more = all_second (MakeWidths ws) k j (nodes_inside o inside) rest (place_behind inner from k n) h in
    all_both (IsWide ws) k j (nodes_inside o inside) rest (place_behind inner from k n)
    (from_inside (MakeWidths ws) (IsWide ws) o k inside (λ made. wide_all false inner from k n ws e made) (all_first (MakeWidths ws) k (nodes_inside o inside) rest h))
    (group_wide o from last positive n j ws (sym e), wide_all false es j (suc j) n ws (more.0 ∙ (group_width o from last positive n ws ∙ e)) more.1)

well_of : (k : ℕ) (n : FlatNode) (ws : ℕ → ℕ) → IsBelow (k + 1) n → IsWide ws (k + 1) n → IsWell k n ws
well_of k (joining from x p ts) ws l w = omega (arith, l)
well_of k (testing from t) ws l w = omega (arith, l)
well_of k (grouping from inner positive width) ws l w = let a = l.0 in let b = l.1 in (omega (arith, a), omega (arith, b), w)
well_of k (alone from p positive) ws l w = omega (arith, l)

pub branch_widths : (es : Elements) → AreWidths (branch_nodes es) (widths_of (branch_nodes es))
branch_widths es =
    let ns = branch_nodes es in
    let ws = widths_of (branch_nodes es) in
    let below = below_all false es 0 1 0 (omega (arith)) in
    let same = widths_gathered (branch_nodes es) (0 ∷ []) in
    let start : widths_of (branch_nodes es) 0 ≡ 0 = ap (λ it. slice_index_or it 0 0) same ∙ gathered_front node_width 0 (branch_nodes es) (0 ∷ []) 0 (omega (arith)) in
    let made : AllAt (MakeWidths ws) 1 ns = subst (λ it. AllAt (MakeWidths (λ j. slice_index_or it j 0)) 1 ns) (sym same) (gathered_is node_width 0 width_local ns (0 ∷ []) 1 refl below) in
    let wide = wide_all false es 0 1 0 ws start made in
    record {
      start = start;
      each = λ k d l. ap ws (let e : suc k ≡ k + 1 = omega (arith) in e) ∙ at_each (MakeWidths ws) 1 ns made k d l;
      well = λ k d l. well_of k (slice_index_or ns k d) ws (at_each IsBelow 1 ns below k d l) (at_each (IsWide ws) 1 ns wide k d l);
    }

-- any node
any_node : FlatNode
any_node = grouping 0 0 true 0

-- the list that a node makes has its width, and is there once, where that holds of those before it
list_is_wide : (n : FlatNode) (k : ℕ) (fs : IndexedFacts) (ls : Lists) (ws : ℕ → ℕ) → IsWell k n ws → ((j : ℕ) → j < suc k → HaveParts (ws j) (ls j)) → HaveParts (node_width n ws) (node_list n fs ls)
list_is_wide (joining from x p ts) k fs ls ws l h = long_filter (all_hold ts) (suc (ws from)) (next x p fs (ls from)) (long_pattern x p fs (ws from) (ls from) (h from l))
list_is_wide (testing from t) k fs ls ws l h = long_filter (λ m. test_holds t m.env) (ws from) (ls from) (h from l)
list_is_wide (grouping from inner positive width) k fs ls ws l h =
    long_filter (λ m. holds_by positive (list_any (begins m.parts) (ls inner))) (ws from) (ls from) (h from l.0)
list_is_wide (alone from p positive) k fs ls ws l h = long_filter (holds_alone positive p fs) (ws from) (ls from) (h from l)

list_is_once : WaysRise → (n : FlatNode) (k : ℕ) (fs : IndexedFacts) (ls : Lists) (ws : ℕ → ℕ) → HaveIndices fs → IsWell k n ws → ((j : ℕ) → j < suc k → IsOnce (ls j)) → IsOnce (node_list n fs ls)
list_is_once rise (joining from x p ts) k fs ls ws indices l h = chain_filter IsApart (all_hold ts) (next x p fs (ls from)) (once_next rise x p fs (ls from) indices (h from l))
list_is_once rise (testing from t) k fs ls ws indices l h = chain_filter IsApart (λ m. test_holds t m.env) (ls from) (h from l)
list_is_once rise (grouping from inner positive width) k fs ls ws indices l h =
    chain_filter IsApart (λ m. holds_by positive (list_any (begins m.parts) (ls inner))) (ls from) (h from l.0)
list_is_once rise (alone from p positive) k fs ls ws indices l h = chain_filter IsApart (holds_alone positive p fs) (ls from) (h from l)

nat_split : (k most : ℕ) → k < suc (suc most) → (k < suc most) ⊎ (k ≡ suc most)
nat_split zero most l = inl (omega (arith))
nat_split (suc k) zero l = inr (omega (arith, l))
nat_split (suc k) (suc most) l = elim (nat_split k most (omega (arith, l))) as (λ _. (suc k < suc (suc most)) ⊎ (suc k ≡ suc (suc most))) [ inl i ↦ inl (omega (arith, i)) | inr e ↦ inr (ap suc e) ]

-- what holds at 0, and at each number where it holds at those before it
pub up_to : (P : ℕ → Type 0) (long : ℕ) → P 0 → ((k : ℕ) → k < long → ((j : ℕ) → j < suc k → P j) → P (suc k)) → (most : ℕ) → most < suc long → (k : ℕ) → k < suc most → P k
up_to P long zeroth more zero m k l = subst P (let e : 0 ≡ k = omega (arith, l) in e) zeroth
up_to P long zeroth more (suc most) m k l =
    let before = up_to P long zeroth more most (omega (arith, m)) in
    elim (nat_split k most l) as (λ _. P k) [
      | inl i ↦ before k i
      | inr e ↦ subst P (sym e) (more most (omega (arith, m)) before)
    ]

pub lists_are_wide : (ns : List FlatNode) (fs : IndexedFacts) (first : List Partial) (ls : Lists) (ws : ℕ → ℕ) → AreWidths ns ws → AreLists ns fs first ls → HaveParts 0 first
    → (k : ℕ) → k < suc (length ns) → HaveParts (ws k) (ls k)
lists_are_wide ns fs first ls ws w a long k l =
    up_to (λ j. HaveParts (ws j) (ls j)) (length ns)
    (λ z i. long z (subst (In z) a.start i) ∙ sym w.start)
    (λ j m before. subst (λ it. HaveParts (ws (suc j)) it) (sym (a.each j any_node m)) (subst (λ it. HaveParts it (node_list (slice_index_or ns j any_node) fs ls)) (sym (w.each j any_node m))
    (list_is_wide (slice_index_or ns j any_node) j fs ls ws (w.well j any_node m) before)))
    (length ns) (omega (arith)) k l

pub lists_are_once : WaysRise → (ns : List FlatNode) (fs : IndexedFacts) (first : List Partial) (ls : Lists) (ws : ℕ → ℕ) → HaveIndices fs → AreWidths ns ws → AreLists ns fs first ls → IsOnce first
    → (k : ℕ) → k < suc (length ns) → IsOnce (ls k)
lists_are_once rise ns fs first ls ws indices w a once k l =
    up_to (λ j. IsOnce (ls j)) (length ns)
    (subst IsOnce (sym a.start) once)
    (λ j m before. subst IsOnce (sym (a.each j any_node m)) (list_is_once rise (slice_index_or ns j any_node) j fs ls ws indices (w.well j any_node m) before))
    (length ns) (omega (arith)) k l

-- what lists of nodes with widths there are
below_of : (k : ℕ) (n : FlatNode) (ws : ℕ → ℕ) → IsWell k n ws → IsBelow (k + 1) n
below_of k (joining from x p ts) ws h = omega (arith, h)
below_of k (testing from t) ws h = omega (arith, h)
below_of k (grouping from inner positive width) ws h = let a = h.0 in let b = h.1 in (omega (arith, a), omega (arith, b))
below_of k (alone from p positive) ws h = omega (arith, h)

pub below_by_widths : (ns : List FlatNode) (ws : ℕ → ℕ) → AreWidths ns ws → AllAt IsBelow 1 ns
below_by_widths ns ws w = from_each IsBelow 1 ns (λ i d l. below_of i (slice_index_or ns i d) ws (w.well i d l))

pub lists_by_widths : (ns : List FlatNode) (fs : IndexedFacts) (first : List Partial) (ws : ℕ → ℕ) → AreWidths ns ws → AreLists ns fs first (lists_of ns fs first)
lists_by_widths ns fs first ws w = are_lists ns fs first (below_by_widths ns ws w)

-- there are no others
pub lists_are_one : (ns : List FlatNode) (fs : IndexedFacts) (first : List Partial) (ls ms : Lists) (ws : ℕ → ℕ) → AreWidths ns ws → AreLists ns fs first ls → AreLists ns fs first ms
    → (k : ℕ) → k < suc (length ns) → ls k ≡ ms k
lists_are_one ns fs first ls ms ws w a b k l =
    up_to (λ j. ls j ≡ ms j) (length ns)
    (a.start ∙ sym b.start)
    (λ j m before. a.each j any_node m
    ∙ (list_local fs (slice_index_or ns j any_node) (j + 1) ls ms (below_of j (slice_index_or ns j any_node) ws (w.well j any_node m)) (λ i n. before i (omega (arith, n)))
    ∙ sym (b.each j any_node m)))
    (length ns) (omega (arith)) k l
