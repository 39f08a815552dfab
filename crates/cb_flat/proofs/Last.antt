-- The last list of the nodes of a branch is its matches, with groups within groups.
use Rattle.std.proofs.Common.{◌≡◌, ℕ, zero, suc, ◌+◌, ◌&&◌, Bool, true, false, List, [], ◌∷◌, ◌++◌, Option, Some, None, cond, filter, inl, inr, length, refl, sym, ◌∙◌, ap, subst}
use Rattle.std.specs.List.{list_any}
use Rattle.std.specs.Prelude.{slice_index_or}
use Rattle.cb_constraints.specs.PatternValues.{PatternValue}
use Rattle.cb_exprs.specs.Terms.{Term}
use Rattle.cb_facts.specs.FactLists.{IndexedFacts}
use Rattle.cb_nodes.specs.Flat.{AreLists, FlatNode, Lists, all_hold, alone, begins, branch_last, branch_nodes, count_inside, flat_all, group_node, grouping, holds_alone, holds_by, joining, last_list, lists_from, lists_of, lone_pattern, next_where, node_count, node_list, nodes_inside, testing, tests_first}
use Rattle.cb_nodes.specs.Patterns.{HaveIndices}
use Rattle.cb_nodes.specs.Lists.{HaveParts}
use Rattle.cb_flat.proofs.Begun.{group_by_any}
use Rattle.cb_flat.proofs.Parts.{same_test}
use Rattle.cb_flat.proofs.InOrder.{once_one}
use Rattle.cb_flat.proofs.Lone.{lone_elements}
use Rattle.cb_nodes.proofs.Origins.{long_filter, long_pattern}
use Rattle.cb_flat.proofs.Named.{AllAt, all_first, all_second, place_behind}
use Rattle.cb_flat.proofs.Flat.{MakeLists, branch_lists, each_made}
use Rattle.cb_matches.specs.Chains.{AreSame}
use Rattle.cb_matches.specs.Order.{IsOnce, WaysRise}
use Rattle.cb_matches.specs.Matches.{Partial, after, after_all, group_holds, matches_of, next, no_parts, test_holds}
use Rattle.cb_rules.specs.Elements.{pattern, test, group, Elements, no_elements, element}

-- a group is found by the last list inside it
group_made : (positive : Bool) (inner : Elements) (fs : IndexedFacts) (ms complete : List Partial) (n : ℕ) → HaveParts n ms → IsOnce ms → complete ≡ after_all inner fs ms
    → filter (λ m. holds_by positive (list_any (begins m.parts) complete)) ms ≡ after (group positive inner) fs ms
group_made positive inner fs ms complete n long once e =
    same_test (λ m. holds_by positive (list_any (begins m.parts) complete)) (λ m. group_holds positive (after_all inner fs (m ∷ []))) ms
    (λ m h. group_by_any positive inner fs ms complete n long once (subst (λ it. AreSame it (after_all inner fs ms)) (sym e) ((λ z i. i), (λ z i. i))) m h)

-- where no tests are asked for, all stay
none_asked : (ms : List Partial) → filter (all_hold []) ms ≡ ms
none_asked [] = refl
none_asked (m ∷ ms) = ap (λ (it : List Partial). m ∷ it) (none_asked ms)

-- one test, and then the others
one_asked : (t : Term) (ts : List Term) (ms : List Partial) → filter (all_hold (t ∷ ts)) ms ≡ filter (all_hold ts) (filter (λ m. test_holds t m.env) ms)
one_asked t ts [] = refl
one_asked t ts (m ∷ ms) = put (test_holds t m.env) (filter (λ n. test_holds t n.env) ms) (one_asked t ts ms)
  where
    put : (b : Bool) {r : List Partial} (s : List Partial) → r ≡ filter (all_hold ts) s → cond (b && all_hold ts m) (m ∷ r) r ≡ filter (all_hold ts) (cond b (m ∷ s) s)
    put true s h = ap (λ it. cond (all_hold ts m) (m ∷ it) it) h
    put false s h = h

-- of the partial matches before elements those that are kept there: where the elements are directly behind a pattern, those for which
-- the tests hold that they begin with
abbrev pub kept_before : Bool → Elements → List Partial → List Partial
kept_before true es ms = filter (all_hold (tests_first es)) ms
kept_before false es ms = ms

all_kept : (behind : Bool) (es : Elements) (ms : List Partial) → tests_first es ≡ [] → kept_before behind es ms ≡ ms
all_kept true es ms e = ap (λ it. filter (all_hold it) ms) e ∙ none_asked ms
all_kept false es ms e = refl

-- elements go on from list `from`, where these partial matches are before them
pub record GoOn (ls : Lists) (behind : Bool) (es : Elements) (from n : ℕ) (ms : List Partial) : Type 0 where
  pub long : HaveParts n ms
  pub once : IsOnce ms
  pub is : ls from ≡ kept_before behind es ms

-- where they begin with no test, the list is those
pub starts_from : (ls : Lists) (behind : Bool) (es : Elements) (from n : ℕ) (ms : List Partial) → GoOn ls behind es from n ms → tests_first es ≡ [] → ls from ≡ ms
starts_from ls behind es from n ms h e = h.is ∙ all_kept behind es ms e

-- where lists are those that the nodes of elements make, the elements behind the first one go on from the list that this makes
module _ (rise : WaysRise) (fs : IndexedFacts) (indices : HaveIndices fs) (ls : Lists) where
  pub behind_pattern : (behind : Bool) (x : Option (List ℕ)) (p : PatternValue) (es : Elements) (from k n : ℕ) (ms : List Partial)
      → GoOn ls behind (element (pattern x p) es) from n ms → MakeLists fs ls k (joining from x p (tests_first es)) → GoOn ls true es k (suc n) (next x p fs ms)
  behind_pattern behind x p es from k n ms h made = record {
    long = long_pattern x p fs n ms h.long;
    once = once_one rise (pattern x p) fs ms indices h.once;
    is = made ∙ ap (next_where x p (tests_first es) fs) (starts_from ls behind (element (pattern x p) es) from n ms h refl);
  }

  pub behind_folded : (t : Term) (es : Elements) (from n : ℕ) (ms : List Partial) → GoOn ls true (element (test t) es) from n ms → GoOn ls true es from n (filter (λ m. test_holds t m.env) ms)
  behind_folded t es from n ms h = record {
    long = long_filter (λ m. test_holds t m.env) n ms h.long;
    once = once_one rise (test t) fs ms indices h.once;
    is = h.is ∙ one_asked t (tests_first es) ms;
  }

  pub behind_test : (t : Term) (es : Elements) (from k n : ℕ) (ms : List Partial)
      → GoOn ls false (element (test t) es) from n ms → MakeLists fs ls k (testing from t) → GoOn ls false es k n (filter (λ m. test_holds t m.env) ms)
  behind_test t es from k n ms h made = record {
    long = long_filter (λ m. test_holds t m.env) n ms h.long;
    once = once_one rise (test t) fs ms indices h.once;
    is = made ∙ ap (λ it. filter (λ m. test_holds t m.env) it) h.is;
  }

  pub inside_group : (behind positive : Bool) (inner es : Elements) (from n : ℕ) (ms : List Partial) → GoOn ls behind (element (group positive inner) es) from n ms → GoOn ls false inner from n ms
  inside_group behind positive inner es from n ms h = record { long = h.long; once = h.once; is = starts_from ls behind (element (group positive inner) es) from n ms h refl }

  pub behind_group : (behind positive : Bool) (inner es : Elements) (from last k n : ℕ) (ms : List Partial)
      → GoOn ls behind (element (group positive inner) es) from n ms → ls last ≡ after_all inner fs ms → MakeLists fs ls k (grouping from last positive n)
      → GoOn ls false es k n (after (group positive inner) fs ms)
  behind_group behind positive inner es from last k n ms h complete made = record {
    long = long_filter (λ m. group_holds positive (after_all inner fs (m ∷ []))) n ms h.long;
    once = once_one rise (group positive inner) fs ms indices h.once;
    is = made
        ∙ (ap (λ it. filter (λ m. holds_by positive (list_any (begins m.parts) (ls last))) it) (starts_from ls behind (element (group positive inner) es) from n ms h refl)
        ∙ group_made positive inner fs ms (ls last) n h.long h.once complete);
  }

  -- one of a pattern alone, for which nothing is kept inside it, is found by the pattern itself
  behind_alone : (behind positive : Bool) (inner es : Elements) (p : PatternValue) (from k n : ℕ) (ms : List Partial)
      → GoOn ls behind (element (group positive inner) es) from n ms → inner ≡ element (pattern None p) no_elements → MakeLists fs ls k (alone from p positive)
      → GoOn ls false es k n (after (group positive inner) fs ms)
  behind_alone behind positive inner es p from k n ms h is made = record {
    long = long_filter (λ m. group_holds positive (after_all inner fs (m ∷ []))) n ms h.long;
    once = once_one rise (group positive inner) fs ms indices h.once;
    is = made
        ∙ (ap (λ it. filter (holds_alone positive p fs) it) (starts_from ls behind (element (group positive inner) es) from n ms h refl)
        ∙ ap (λ it. after (group positive it) fs ms) (sym is));
  }

  -- whichever it is
  pub behind_node : (behind positive : Bool) (inner es : Elements) (from last j k n : ℕ) (ms : List Partial) (inside : List FlatNode) (o : Option PatternValue) → lone_pattern inner ≡ o
      → GoOn ls behind (element (group positive inner) es) from n ms → (AllAt (MakeLists fs ls) k inside → ls last ≡ after_all inner fs ms)
      → AllAt (MakeLists fs ls) k (nodes_inside o inside) → MakeLists fs ls j (group_node o from last positive n)
      → GoOn ls false es j n (after (group positive inner) fs ms)
  behind_node behind positive inner es from last j k n ms inside (Some p) is h complete within made = behind_alone behind positive inner es p from j n ms h (lone_elements inner p is) made
  behind_node behind positive inner es from last j k n ms inside None is h complete within made = behind_group behind positive inner es from last j n ms h (complete within) made

  -- so the last one is what the elements leave of the first
  pub last_of_all : (behind : Bool) (es : Elements) (from k n : ℕ) (ms : List Partial) → GoOn ls behind es from n ms → AllAt (MakeLists fs ls) k (flat_all behind es from k n)
      → ls (last_list behind es from k) ≡ after_all es fs ms
  last_of_all behind no_elements from k n ms h made = starts_from ls behind no_elements from n ms h refl
  last_of_all behind (element (pattern x p) es) from k n ms h made =
      last_of_all true es k (suc k) (suc n) (next x p fs ms) (behind_pattern behind x p es from k n ms h made.0) made.1
  last_of_all true (element (test t) es) from k n ms h made = last_of_all true es from k n (filter (λ m. test_holds t m.env) ms) (behind_folded t es from n ms h) made
  last_of_all false (element (test t) es) from k n ms h made =
      last_of_all false es k (suc k) n (filter (λ m. test_holds t m.env) ms) (behind_test t es from k n ms h made.0) made.1
  last_of_all behind (element (group positive inner) es) from k n ms h made =
      let o = lone_pattern inner in
      let j : ℕ = k + count_inside o (node_count false inner) in
      let last = last_list false inner from k in
      let inside = flat_all false inner from k n in
      let rest = group_node o from last positive n ∷ flat_all false es j (suc j) n in
      let more = all_second (MakeLists fs ls) k j (nodes_inside o inside) rest (place_behind inner from k n) made in
      last_of_all false es j (suc j) n (after (group positive inner) fs ms)
      (behind_node behind positive inner es from last j k n ms inside o refl h
      (λ within. last_of_all false inner from k n ms (inside_group behind positive inner es from n ms h) within)
      (all_first (MakeLists fs ls) k (nodes_inside o inside) rest made) more.0)
      more.1

-- the last of any lists of the nodes of a branch
pub last_of_lists : WaysRise → (es : Elements) (fs : IndexedFacts) (first : List Partial) (ls : Lists) → HaveIndices fs → HaveParts 0 first → IsOnce first → AreLists (branch_nodes es) fs first ls
    → ls (branch_last es) ≡ after_all es fs first
last_of_lists rise es fs first ls indices long once a =
    last_of_all rise fs indices ls false es 0 1 0 first (record { long = long; once = once; is = a.start }) (each_made (branch_nodes es) fs first ls a)

pub start_has_no_parts : HaveParts 0 (no_parts ∷ [])
start_has_no_parts z (inl e) = ap (λ it. length it.parts) e
start_has_no_parts z (inr h) = absurd h

pub start_is_once : IsOnce (no_parts ∷ [])
start_is_once = ((λ z h. absurd h), tt)

-- the last list of a branch is its matches
pub last_is_matches : WaysRise → (es : Elements) (fs : IndexedFacts) (ls : Lists) → HaveIndices fs → AreLists (branch_nodes es) fs (no_parts ∷ []) ls → ls (branch_last es) ≡ matches_of es fs
unfolding matches_of
last_is_matches rise es fs ls indices a = last_of_lists rise es fs (no_parts ∷ []) ls indices start_has_no_parts start_is_once a

pub last_is : WaysRise → (es : Elements) (fs : IndexedFacts) → HaveIndices fs → lists_of (branch_nodes es) fs (no_parts ∷ []) (branch_last es) ≡ matches_of es fs
last_is rise es fs indices = last_is_matches rise es fs (lists_of (branch_nodes es) fs (no_parts ∷ [])) indices (branch_lists es fs (no_parts ∷ []))

-- nothing comes of nothing
empty_node : (n : FlatNode) (fs : IndexedFacts) (ls : Lists) → ((k : ℕ) → ls k ≡ []) → node_list n fs ls ≡ []
empty_node (joining from x p ts) fs ls h = ap (λ it. next_where x p ts fs it) (h from)
empty_node (testing from t) fs ls h = ap (λ it. filter (λ m. test_holds t m.env) it) (h from)
empty_node (grouping from inner positive width) fs ls h = ap (λ it. filter (λ m. holds_by positive (list_any (begins m.parts) (ls inner))) it) (h from)
empty_node (alone from p positive) fs ls h = ap (λ it. filter (holds_alone positive p fs) it) (h from)

empty_more : (ls : List (List Partial)) (l : List Partial) → l ≡ [] → ((k : ℕ) → slice_index_or ls k [] ≡ []) → (k : ℕ) → slice_index_or (ls ++ l ∷ []) k [] ≡ []
empty_more [] l e h zero = e
empty_more [] l e h (suc k) = refl
empty_more (m ∷ ls) l e h zero = h 0
empty_more (m ∷ ls) l e h (suc k) = empty_more ls l e (λ j. h (suc j)) k

empty_lists : (ns : List FlatNode) (fs : IndexedFacts) (ls : List (List Partial)) → ((k : ℕ) → slice_index_or ls k [] ≡ []) → (k : ℕ) → slice_index_or (lists_from ns fs ls) k [] ≡ []
empty_lists [] fs ls h k = h k
empty_lists (n ∷ ns) fs ls h k =
    empty_lists ns fs (ls ++ node_list n fs (λ j. slice_index_or ls j []) ∷ []) (empty_more ls (node_list n fs (λ j. slice_index_or ls j [])) (empty_node n fs (λ j. slice_index_or ls j []) h) h) k

pub nothing_of_nothing : (ns : List FlatNode) (fs : IndexedFacts) (k : ℕ) → lists_of ns fs [] k ≡ []
nothing_of_nothing ns fs k = empty_lists ns fs ([] ∷ []) (empty_more [] [] refl (λ j. refl)) k
