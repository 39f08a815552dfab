-- A branch as nodes, each of which makes a list of partial matches from lists before it, which it names by number.
use Rattle.std.specs.Prelude.{◌≡◌, ◌+◌, ◌*◌, ◌<◌, ℕ, suc, ◌&&◌, ◌||◌, Bool, true, false, List, [], ◌∷◌, ◌++◌, Option, Some, None, filter, length, not, slice_index_or, take, if◌then◌else◌}
use Rattle.std.specs.Cmp.Lexicographic.{pointwise}
use Rattle.std.specs.List.{list_any}
use Rattle.cb_constraints.specs.PatternValues.{PatternValue}
use Rattle.cb_exprs.specs.Terms.{Term}
use Rattle.cb_facts.specs.FactLists.{IndexedFacts}
use Rattle.cb_facts.specs.Facts.{FactValue}
use Rattle.cb_fit.specs.Comparisons.{ChoiceFieldValue, DecisionValue, decision}
use Rattle.cb_fit.specs.StandsAlone.{stands_alone}
use Rattle.cb_matches.specs.Keys.{PartValue, part_eq}
use Rattle.cb_matches.specs.Matches.{Partial, group_holds, next, test_holds}
use Rattle.cb_matches.specs.Probes.{added_probes, is_candidate, partials_come, partials_kept}
use Rattle.cb_rules.specs.Elements.{pattern, test, group, Elements, no_elements, element}

pub data FlatNode : Type 0 where
  -- the list before it, the variable of the address, the pattern, and the tests behind it
  joining : ℕ → Option (List ℕ) → PatternValue → List Term → FlatNode
  testing : ℕ → Term → FlatNode
  -- the list before it, the last one inside it, and how many parts the partial matches before it have
  grouping : ℕ → ℕ → Bool → ℕ → FlatNode
  -- a group of one pattern, for which nothing is kept inside it: the list before it, the pattern, and whether the group is positive
  alone : ℕ → PatternValue → Bool → FlatNode

-- z goes on from these parts
abbrev pub begins : List PartValue → Partial → Bool
begins ps z = pointwise part_eq (take (length ps) z.parts) ps

-- a group holds, by whether an inner partial match goes on from the outer one
abbrev pub holds_by : Bool → Bool → Bool
holds_by true any = any
holds_by false any = not any

-- the lists, by their numbers
abbrev pub Lists : Type 0
Lists = ℕ → List Partial

-- all of these tests hold
abbrev pub all_hold : List Term → Partial → Bool
all_hold [] m = true
all_hold (t ∷ ts) m = test_holds t m.env && all_hold ts m

-- the partial matches that go on from those of a list with these facts, and for which the tests hold
abbrev pub next_where : Option (List ℕ) → PatternValue → List Term → IndexedFacts → List Partial → List Partial
next_where x p ts fs ms = filter (all_hold ts) (next x p fs ms)

-- a group of this pattern alone holds for a partial match
abbrev pub holds_alone : Bool → PatternValue → IndexedFacts → Partial → Bool
holds_alone positive p fs m = group_holds positive (next None p fs (m ∷ []))

-- the list that a node makes
abbrev pub node_list : FlatNode → IndexedFacts → Lists → List Partial
node_list (joining from x p ts) fs ls = next_where x p ts fs (ls from)
node_list (testing from t) fs ls = filter (λ m. test_holds t m.env) (ls from)
node_list (grouping from inner positive width) fs ls = filter (λ m. holds_by positive (list_any (begins m.parts) (ls inner))) (ls from)
node_list (alone from p positive) fs ls = filter (holds_alone positive p fs) (ls from)

-- these lists are those of the nodes over these facts, where the first list is this
pub record AreLists (ns : List FlatNode) (fs : IndexedFacts) (first : List Partial) (ls : Lists) : Type 0 where
  pub start : ls 0 ≡ first
  pub each : (k : ℕ) (d : FlatNode) → k < length ns → ls (suc k) ≡ node_list (slice_index_or ns k d) fs ls

-- how many parts the partial matches of the list have that a node makes, by the lists before it
abbrev pub node_width : FlatNode → (ℕ → ℕ) → ℕ
node_width (joining from x p ts) ws = suc (ws from)
node_width (testing from t) ws = ws from
node_width (grouping from inner positive width) ws = ws from
node_width (alone from p positive) ws = ws from

-- the node at place k names lists before its own, and the right width
abbrev pub IsWell : ℕ → FlatNode → (ℕ → ℕ) → Type 0
IsWell k (joining from x p ts) ws = from < suc k
IsWell k (testing from t) ws = from < suc k
IsWell k (grouping from inner positive width) ws = (from < suc k) × (inner < suc k) × (width ≡ ws from)
IsWell k (alone from p positive) ws = from < suc k

-- these are the widths of the lists
pub record AreWidths (ns : List FlatNode) (ws : ℕ → ℕ) : Type 0 where
  pub start : ws 0 ≡ 0
  pub each : (k : ℕ) (d : FlatNode) → k < length ns → ws (suc k) ≡ node_width (slice_index_or ns k d) ws
  pub well : (k : ℕ) (d : FlatNode) → k < length ns → IsWell k (slice_index_or ns k d) ws

-- how often the pattern of a node may be tested
abbrev pub flat_probes_of : Option FactValue → IndexedFacts → Lists → Lists → FlatNode → ℕ
flat_probes_of added fs' old new (joining from x p ts) =
    length (partials_come (old from) (new from)) * length (filter (is_candidate p) fs') + added_probes p added (length (partials_kept (old from) (new from)))
flat_probes_of added fs' old new (testing from t) = 0
flat_probes_of added fs' old new (grouping from inner positive width) = 0
flat_probes_of added fs' old new (alone from p positive) = added_probes p added 0

abbrev pub flat_probes : Option FactValue → IndexedFacts → Lists → Lists → List FlatNode → ℕ
flat_probes added fs' old new [] = 0
flat_probes added fs' old new (n ∷ ns) = flat_probes_of added fs' old new n + flat_probes added fs' old new ns

-- the lists as they are made, one behind the other
abbrev pub lists_from : List FlatNode → IndexedFacts → List (List Partial) → List (List Partial)
lists_from [] fs ls = ls
lists_from (n ∷ ns) fs ls = lists_from ns fs (ls ++ node_list n fs (λ k. slice_index_or ls k []) ∷ [])

abbrev pub lists_of : List FlatNode → IndexedFacts → List Partial → Lists
lists_of ns fs first k = slice_index_or (lists_from ns fs (first ∷ [])) k []

-- their widths in the same way
abbrev pub widths_from : List FlatNode → List ℕ → List ℕ
widths_from [] ws = ws
widths_from (n ∷ ns) ws = widths_from ns (ws ++ node_width n (λ k. slice_index_or ws k 0) ∷ [])

abbrev pub widths_of : List FlatNode → ℕ → ℕ
widths_of ns k = slice_index_or (widths_from ns (0 ∷ [])) k 0

-- the tests that elements begin with
abbrev pub tests_first : Elements → List Term
tests_first no_elements = []
tests_first (element (pattern x p) es) = []
tests_first (element (test t) es) = t ∷ tests_first es
tests_first (element (group positive inner) es) = []

-- no field has alternatives
abbrev pub are_none_chosen : List ChoiceFieldValue → Bool
are_none_chosen [] = true
are_none_chosen (c ∷ cs) = false

-- no expression is asked
abbrev pub are_no_conditions : List Term → Bool
are_no_conditions [] = true
are_no_conditions (t ∷ ts) = false

-- whether there is a fact that a pattern fits can be looked up by values, by what decides
abbrev pub is_looked_up : Option DecisionValue → Bool
is_looked_up None = false
is_looked_up (Some d) = are_none_chosen d.chosen && are_no_conditions d.conditions

-- the pattern of a group that has no other element, where no address is taken, and the pattern stands alone or is looked up
abbrev pub lone_pattern : Elements → Option PatternValue
lone_pattern no_elements = None
lone_pattern (element (pattern (Some x) p) es) = None
lone_pattern (element (pattern None p) no_elements) = if stands_alone p || is_looked_up (decision p.parts) then Some p else None
lone_pattern (element (pattern None p) (element e es)) = None
lone_pattern (element (test t) es) = None
lone_pattern (element (group positive inner) es) = None

-- the nodes inside a group, by its elements and those that these make elsewhere: none where it is of one pattern that is looked up
abbrev pub nodes_inside : Option PatternValue → List FlatNode → List FlatNode
nodes_inside (Some p) ns = []
nodes_inside None ns = ns

-- how many they are
abbrev pub count_inside : Option PatternValue → ℕ → ℕ
count_inside (Some p) n = 0
count_inside None n = n

-- the node of the group itself
abbrev pub group_node : Option PatternValue → ℕ → ℕ → Bool → ℕ → FlatNode
group_node (Some p) from inner positive width = alone from p positive
group_node None from inner positive width = grouping from inner positive width

-- how many nodes elements have. `behind` says whether a pattern of the same sequence stands before them, with only tests between. Then
-- the tests that they begin with have no nodes of their own, and belong to that of the pattern
abbrev pub node_count : Bool → Elements → ℕ
node_count behind no_elements = 0
node_count behind (element (pattern x p) es) = suc (node_count true es)
node_count true (element (test t) es) = node_count true es
node_count false (element (test t) es) = suc (node_count false es)
node_count behind (element (group positive inner) es) = count_inside (lone_pattern inner) (node_count false inner) + suc (node_count false es)

-- the number of the last list, where they go on from one list and the next to be made has the number k
abbrev pub last_list : Bool → Elements → ℕ → ℕ → ℕ
last_list behind no_elements from k = from
last_list behind (element (pattern x p) es) from k = last_list true es k (suc k)
last_list true (element (test t) es) from k = last_list true es from k
last_list false (element (test t) es) from k = last_list false es k (suc k)
last_list behind (element (group positive inner) es) from k = let j = k + count_inside (lone_pattern inner) (node_count false inner) in last_list false es j (suc j)

-- the nodes of elements, where the partial matches before them have n parts. Those inside a group come before that of the group
abbrev pub flat_all : Bool → Elements → ℕ → ℕ → ℕ → List FlatNode
flat_all behind no_elements from k n = []
flat_all behind (element (pattern x p) es) from k n = joining from x p (tests_first es) ∷ flat_all true es k (suc k) (suc n)
flat_all true (element (test t) es) from k n = flat_all true es from k n
flat_all false (element (test t) es) from k n = testing from t ∷ flat_all false es k (suc k) n
flat_all behind (element (group positive inner) es) from k n =
    let j = k + count_inside (lone_pattern inner) (node_count false inner) in
    nodes_inside (lone_pattern inner) (flat_all false inner from k n) ++ group_node (lone_pattern inner) from (last_list false inner from k) positive n ∷ flat_all false es j (suc j) n

-- the nodes of a branch, and the number of its last list
abbrev pub branch_nodes : Elements → List FlatNode
branch_nodes es = flat_all false es 0 1 0

abbrev pub branch_last : Elements → ℕ
branch_last es = last_list false es 0 1
