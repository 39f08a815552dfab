-- The nodes of a branch take no more tests of patterns than the branch.
use Rattle.std.proofs.Common.{◌≡◌, ◌≤◌, ℕ, suc, ◌+◌, Bool, true, false, List, [], ◌∷◌, ◌++◌, Option, Some, None, cond, filter, length, refl, sym, ap₂, subst, arith}
use Rattle.cb_constraints.specs.PatternValues.{PatternValue}
use Rattle.cb_facts.specs.FactLists.{IndexedFacts}
use Rattle.cb_facts.specs.Facts.{FactValue}
use Rattle.cb_matches.specs.Probes.{added_probes, branch_probes, element_probes, partials_kept, probes}
use Rattle.cb_nodes.specs.Flat.{AreLists, FlatNode, Lists, branch_nodes, count_inside, flat_all, flat_probes, flat_probes_of, group_node, joining, last_list, lists_of, lone_pattern, node_count, nodes_inside, tests_first}
use Rattle.cb_nodes.specs.Patterns.{HaveIndices}
use Rattle.cb_flat.proofs.Named.{AllAt, all_first, all_second, place_behind}
use Rattle.cb_flat.proofs.Flat.{MakeLists, branch_lists, each_made}
use Rattle.cb_flat.proofs.Last.{GoOn, behind_folded, behind_node, behind_pattern, behind_test, inside_group, last_of_all, start_has_no_parts, start_is_once, starts_from}
use Rattle.cb_flat.proofs.Lone.{lone_elements}
use Rattle.cb_fit.specs.Shapes.{has_shape}
use Rattle.cb_matches.specs.Order.{WaysRise}
use Rattle.cb_matches.specs.Matches.{Partial, after, next, no_parts, test_holds}
use Rattle.cb_rules.specs.Elements.{pattern, test, group, Elements, no_elements, element}

both_less : (a b c d : ℕ) → a ≡ b → c ≤ d → a + c ≤ b + d
both_less a b c d e l = omega (arith, e, l)

three_less : (all a b c d e : ℕ) → all ≡ a + (b + c) → a + b ≤ d → c ≤ e → all ≤ d + e
three_less all a b c d e is l m = omega (arith, is, l, m)

-- the tests of patterns that two pieces of nodes take
probes_both : (added : Option FactValue) (fs : IndexedFacts) (old new : Lists) (ns os : List FlatNode) → flat_probes added fs old new (ns ++ os) ≡ flat_probes added fs old new ns + flat_probes added fs old new os
probes_both added fs old new [] os = omega (arith)
probes_both added fs old new (n ∷ ns) os = let e = probes_both added fs old new ns os in omega (arith, e)

-- a pattern is tested for its shape at least
shape_alone : (p : PatternValue) (added : Option FactValue) (kept : ℕ) → added_probes p added 0 ≤ added_probes p added kept
shape_alone p None kept = omega (arith)
shape_alone p (Some f) kept = go (has_shape p f)
  where
    go : (b : Bool) → 1 + cond b 0 0 ≤ 1 + cond b kept 0
    go true = omega (arith)
    go false = omega (arith)

lone_probes : (added : Option FactValue) (fs fs' : IndexedFacts) (inner : Elements) (p : PatternValue) (ms ms' : List Partial) → inner ≡ element (pattern None p) no_elements
    → added_probes p added 0 ≤ probes added fs fs' inner ms ms'
lone_probes added fs fs' inner p ms ms' is =
    subst (λ es. added_probes p added 0 ≤ probes added fs fs' es ms ms') (sym is)
    (let l = shape_alone p added (length (partials_kept ms ms')) in omega (arith, l))

-- the nodes of a group, whichever it is, where those inside it take no more than its elements
group_probes : (added : Option FactValue) (fs fs' : IndexedFacts) (old new : Lists) (inner : Elements) (ms ms' : List Partial) (inside : List FlatNode) (from last : ℕ) (positive : Bool) (n k : ℕ)
    (o : Option PatternValue) → lone_pattern inner ≡ o
    → (AllAt (MakeLists fs old) k inside → AllAt (MakeLists fs' new) k inside → flat_probes added fs' old new inside ≤ probes added fs fs' inner ms ms')
    → AllAt (MakeLists fs old) k (nodes_inside o inside) → AllAt (MakeLists fs' new) k (nodes_inside o inside)
    → flat_probes added fs' old new (nodes_inside o inside) + flat_probes_of added fs' old new (group_node o from last positive n) ≤ probes added fs fs' inner ms ms'
group_probes added fs fs' old new inner ms ms' inside from last positive n k (Some p) is within made made' =
    let l = lone_probes added fs fs' inner p ms ms' (lone_elements inner p is) in omega (arith, l)
group_probes added fs fs' old new inner ms ms' inside from last positive n k None is within made made' = let l = within made made' in omega (arith, l)

-- the nodes of elements take no more tests of patterns than the elements
module _ (rise : WaysRise) (added : Option FactValue) (fs fs' : IndexedFacts) (indices : HaveIndices fs) (indices' : HaveIndices fs') (old new : Lists) where
  probes_of_all : (behind : Bool) (es : Elements) (from k n : ℕ) (ms ms' : List Partial) → GoOn old behind es from n ms → GoOn new behind es from n ms'
      → AllAt (MakeLists fs old) k (flat_all behind es from k n) → AllAt (MakeLists fs' new) k (flat_all behind es from k n)
      → flat_probes added fs' old new (flat_all behind es from k n) ≤ probes added fs fs' es ms ms'
  probes_of_all behind no_elements from k n ms ms' h h' made made' = omega (arith)
  probes_of_all behind (element (pattern x p) es) from k n ms ms' h h' made made' =
      let first : flat_probes_of added fs' old new (joining from x p (tests_first es)) ≡ element_probes added fs fs' (pattern x p) ms ms' =
      ap₂ (λ a b. element_probes added fs fs' (pattern x p) a b) (starts_from old behind (element (pattern x p) es) from n ms h refl) (starts_from new behind (element (pattern x p) es) from n ms' h' refl) in
      let more = probes_of_all true es k (suc k) (suc n) (next x p fs ms) (next x p fs' ms')
      (behind_pattern rise fs indices old behind x p es from k n ms h made.0) (behind_pattern rise fs' indices' new behind x p es from k n ms' h' made'.0) made.1 made'.1 in
      both_less _ _ _ _ first more
  probes_of_all true (element (test t) es) from k n ms ms' h h' made made' =
      let more = probes_of_all true es from k n (filter (λ m. test_holds t m.env) ms) (filter (λ m. test_holds t m.env) ms')
      (behind_folded rise fs indices old t es from n ms h) (behind_folded rise fs' indices' new t es from n ms' h') made made' in
      omega (arith, more)
  probes_of_all false (element (test t) es) from k n ms ms' h h' made made' =
      let more = probes_of_all false es k (suc k) n (filter (λ m. test_holds t m.env) ms) (filter (λ m. test_holds t m.env) ms')
      (behind_test rise fs indices old t es from k n ms h made.0) (behind_test rise fs' indices' new t es from k n ms' h' made'.0) made.1 made'.1 in
      omega (arith, more)
  probes_of_all behind (element (group positive inner) es) from k n ms ms' h h' made made' =
      let o = lone_pattern inner in
      let j : ℕ = k + count_inside o (node_count false inner) in
      let last = last_list false inner from k in
      let inside = flat_all false inner from k n in
      let rest = group_node o from last positive n ∷ flat_all false es j (suc j) n in
      let within = inside_group rise fs indices old behind positive inner es from n ms h in
      let within' = inside_group rise fs' indices' new behind positive inner es from n ms' h' in
      let first = all_first (MakeLists fs old) k (nodes_inside o inside) rest made in
      let first' = all_first (MakeLists fs' new) k (nodes_inside o inside) rest made' in
      let more = all_second (MakeLists fs old) k j (nodes_inside o inside) rest (place_behind inner from k n) made in
      let more' = all_second (MakeLists fs' new) k j (nodes_inside o inside) rest (place_behind inner from k n) made' in
      let here = group_probes added fs fs' old new inner ms ms' inside from last positive n k o refl
      (λ all all'. probes_of_all false inner from k n ms ms' within within' all all') first first' in
      let there = probes_of_all false es j (suc j) n (after (group positive inner) fs ms) (after (group positive inner) fs' ms')
      (behind_node rise fs indices old behind positive inner es from last j k n ms inside o refl h
      (λ all. last_of_all rise fs indices old false inner from k n ms within all) first more.0)
      (behind_node rise fs' indices' new behind positive inner es from last j k n ms' inside o refl h'
      (λ all. last_of_all rise fs' indices' new false inner from k n ms' within' all) first' more'.0)
      more.1 more'.1 in
      three_less _ _ _ _ _ _ (probes_both added fs' old new (nodes_inside o inside) rest) here there

-- any lists of the nodes of a branch, before and after
pub probes_of_lists : WaysRise → (added : Option FactValue) (es : Elements) (fs fs' : IndexedFacts) (old new : Lists) → HaveIndices fs → HaveIndices fs'
    → AreLists (branch_nodes es) fs (no_parts ∷ []) old → AreLists (branch_nodes es) fs' (no_parts ∷ []) new
    → flat_probes added fs' old new (branch_nodes es) ≤ branch_probes added fs fs' es
probes_of_lists rise added es fs fs' old new indices indices' a b =
    probes_of_all rise added fs fs' indices indices' old new false es 0 1 0 (no_parts ∷ []) (no_parts ∷ [])
    (record { long = start_has_no_parts; once = start_is_once; is = a.start }) (record { long = start_has_no_parts; once = start_is_once; is = b.start })
    (each_made (branch_nodes es) fs (no_parts ∷ []) old a) (each_made (branch_nodes es) fs' (no_parts ∷ []) new b)

pub branch_probes_within : WaysRise → (added : Option FactValue) (es : Elements) (fs fs' : IndexedFacts) → HaveIndices fs → HaveIndices fs'
    → flat_probes added fs' (lists_of (branch_nodes es) fs (no_parts ∷ [])) (lists_of (branch_nodes es) fs' (no_parts ∷ [])) (branch_nodes es) ≤ branch_probes added fs fs' es
branch_probes_within rise added es fs fs' indices indices' =
    probes_of_lists rise added es fs fs' (lists_of (branch_nodes es) fs (no_parts ∷ [])) (lists_of (branch_nodes es) fs' (no_parts ∷ [])) indices indices'
    (branch_lists es fs (no_parts ∷ [])) (branch_lists es fs' (no_parts ∷ []))
