-- The nodes of a branch by their places: how many there are, and that each names lists before its own.
use Rattle.std.proofs.Common.{◌≡◌, ℕ, zero, suc, ◌+◌, ◌<◌, Bool, true, false, List, [], ◌∷◌, ◌++◌, Option, Some, None, length, refl, ◌∙◌, ap, ap₂, subst, arith}
use Rattle.std.proofs.lemmas.List.{length-append}
use Rattle.std.specs.Prelude.{slice_index_or}
use Rattle.cb_nodes.specs.Flat.{FlatNode, alone, branch_last, branch_nodes, count_inside, flat_all, group_node, grouping, joining, last_list, lone_pattern, node_count, nodes_inside, testing}
use Rattle.cb_flat.proofs.Lone.{long_inside}
use Rattle.cb_constraints.specs.PatternValues.{PatternValue}
use Rattle.cb_rules.specs.Elements.{pattern, test, group, Elements, no_elements, element}

-- each of these nodes, of which the first has the place k, is so at its place
abbrev pub AllAt : (ℕ → FlatNode → Type 0) → ℕ → List FlatNode → Type 0
AllAt P k [] = Unit {0}
AllAt P k (n ∷ ns) = P k n × AllAt P (suc k) ns

pub at_each : (P : ℕ → FlatNode → Type 0) (k : ℕ) (ns : List FlatNode) → AllAt P k ns → (i : ℕ) (d : FlatNode) → i < length ns → P (i + k) (slice_index_or ns i d)
at_each P k [] h i d l = absurd (omega (arith, l))
at_each P k (n ∷ ns) h zero d l = subst (λ j. P j n) (let e : k ≡ 0 + k = omega (arith) in e) h.0
at_each P k (n ∷ ns) h (suc i) d l =
    subst (λ j. P j (slice_index_or ns i d)) (let e : i + suc k ≡ suc i + k = omega (arith) in e) (at_each P (suc k) ns h.1 i d (omega (arith, l)))

pub from_each : (P : ℕ → FlatNode → Type 0) (k : ℕ) (ns : List FlatNode) → ((i : ℕ) (d : FlatNode) → i < length ns → P (i + k) (slice_index_or ns i d)) → AllAt P k ns
from_each P k [] h = tt
from_each P k (n ∷ ns) h = (
  subst (λ j. P j n) (let e : 0 + k ≡ k = omega (arith) in e) (h 0 n (omega (arith))),
  from_each P (suc k) ns (λ i d l. subst (λ j. P j (slice_index_or ns i d)) (let e : suc i + k ≡ i + suc k = omega (arith) in e) (h (suc i) d (omega (arith, l)))),
)

-- two pieces, where the second begins at j
pub all_first : (P : ℕ → FlatNode → Type 0) (k : ℕ) (ns os : List FlatNode) → AllAt P k (ns ++ os) → AllAt P k ns
all_first P k [] os h = tt
all_first P k (n ∷ ns) os h = (h.0, all_first P (suc k) ns os h.1)

pub all_second : (P : ℕ → FlatNode → Type 0) (k j : ℕ) (ns os : List FlatNode) → j ≡ k + length ns → AllAt P k (ns ++ os) → AllAt P j os
all_second P k j [] os e h = subst (λ it. AllAt P it os) (let i : k ≡ j = omega (arith, e) in i) h
all_second P k j (n ∷ ns) os e h = all_second P (suc k) j ns os (omega (arith, e)) h.1

pub all_both : (P : ℕ → FlatNode → Type 0) (k j : ℕ) (ns os : List FlatNode) → j ≡ k + length ns → AllAt P k ns → AllAt P j os → AllAt P k (ns ++ os)
all_both P k j [] os e h i = subst (λ it. AllAt P it os) (let l : j ≡ k = omega (arith, e) in l) i
all_both P k j (n ∷ ns) os e h i = (h.0, all_both P (suc k) j ns os (omega (arith, e)) h.1 i)

pub all_weaker : (P Q : ℕ → FlatNode → Type 0) → ((k : ℕ) (n : FlatNode) → P k n → Q k n) → (k : ℕ) (ns : List FlatNode) → AllAt P k ns → AllAt Q k ns
all_weaker P Q f k [] h = tt
all_weaker P Q f k (n ∷ ns) h = (f k n h.0, all_weaker P Q f (suc k) ns h.1)

-- how many nodes there are
pub long_flat_all : (behind : Bool) (es : Elements) (from k n : ℕ) → length (flat_all behind es from k n) ≡ node_count behind es
long_flat_all behind no_elements from k n = refl
long_flat_all behind (element (pattern x p) es) from k n = ap suc (long_flat_all true es k (suc k) (suc n))
long_flat_all true (element (test t) es) from k n = long_flat_all true es from k n
long_flat_all false (element (test t) es) from k n = ap suc (long_flat_all false es k (suc k) n)
long_flat_all behind (element (group positive inner) es) from k n =
    let o = lone_pattern inner in
    let inside = flat_all false inner from k n in
    let j = k + count_inside o (node_count false inner) in
    length-append (nodes_inside o inside) (group_node o from (last_list false inner from k) positive n ∷ flat_all false es j (suc j) n)
    ∙ ap₂ (λ a b. a + suc b) (long_inside o inside (node_count false inner) (long_flat_all false inner from k n)) (long_flat_all false es j (suc j) n)

-- a group stands behind the nodes inside it
pub place_behind : (inner : Elements) (from k n : ℕ) → k + count_inside (lone_pattern inner) (node_count false inner) ≡ k + length (nodes_inside (lone_pattern inner) (flat_all false inner from k n))
place_behind inner from k n =
    let e = long_inside (lone_pattern inner) (flat_all false inner from k n) (node_count false inner) (long_flat_all false inner from k n) in omega (arith, e)

-- what holds of the nodes of the elements inside a group
pub all_inside : (P : ℕ → FlatNode → Type 0) (o : Option PatternValue) (k : ℕ) (ns : List FlatNode) → AllAt P k ns → AllAt P k (nodes_inside o ns)
all_inside P (Some p) k ns h = tt
all_inside P None k ns h = h

pub from_inside : (P Q : ℕ → FlatNode → Type 0) (o : Option PatternValue) (k : ℕ) (ns : List FlatNode) → (AllAt P k ns → AllAt Q k ns) → AllAt P k (nodes_inside o ns) → AllAt Q k (nodes_inside o ns)
from_inside P Q (Some p) k ns f h = tt
from_inside P Q None k ns f h = f h

-- the last list is one of those that there are
pub last_below : (behind : Bool) (es : Elements) (from k : ℕ) → from < k → last_list behind es from k < k + node_count behind es
last_below behind no_elements from k l = omega (arith, l)
last_below behind (element (pattern x p) es) from k l = let more = last_below true es k (suc k) (omega (arith)) in omega (arith, more)
last_below true (element (test t) es) from k l = last_below true es from k l
last_below false (element (test t) es) from k l = let more = last_below false es k (suc k) (omega (arith)) in omega (arith, more)
last_below behind (element (group positive inner) es) from k l =
    let j = k + count_inside (lone_pattern inner) (node_count false inner) in
    let more = last_below false es j (suc j) (omega (arith)) in omega (arith, more)

pub branch_last_is_there : (es : Elements) → branch_last es < suc (length (branch_nodes es))
branch_last_is_there es = let l = last_below false es 0 1 (omega (arith)) in let e = long_flat_all false es 0 1 0 in omega (arith, l, e)

-- the node that makes list k names lists before it
abbrev pub IsBelow : ℕ → FlatNode → Type 0
IsBelow k (joining from x p ts) = from < k
IsBelow k (testing from t) = from < k
IsBelow k (grouping from inner positive width) = (from < k) × (inner < k)
IsBelow k (alone from p positive) = from < k

group_below : (o : Option PatternValue) (from last k n : ℕ) (positive : Bool) (width : ℕ) → from < k → last < k + n → IsBelow (k + count_inside o n) (group_node o from last positive width)
group_below (Some p) from last k n positive width l m = omega (arith, l)
group_below None from last k n positive width l m = (omega (arith, l), m)

pub below_all : (behind : Bool) (es : Elements) (from k n : ℕ) → from < k → AllAt IsBelow k (flat_all behind es from k n)
below_all behind no_elements from k n l = tt
below_all behind (element (pattern x p) es) from k n l = (l, below_all true es k (suc k) (suc n) (omega (arith)))
below_all true (element (test t) es) from k n l = below_all true es from k n l
below_all false (element (test t) es) from k n l = (l, below_all false es k (suc k) n (omega (arith)))
below_all behind (element (group positive inner) es) from k n l =
    let o = lone_pattern inner in
    let inside = flat_all false inner from k n in
    let last = last_list false inner from k in
    let j : ℕ = k + count_inside o (node_count false inner) in
    all_both IsBelow k j (nodes_inside o inside) (group_node o from last positive n ∷ flat_all false es j (suc j) n) (place_behind inner from k n)
    (all_inside IsBelow o k inside (below_all false inner from k n l))
    (group_below o from last k (node_count false inner) positive n l (last_below false inner from k l), below_all false es j (suc j) n (omega (arith)))
