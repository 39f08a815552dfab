-- The keys of all matches rise.
use Rattle.std.proofs.Common.{◌≡◌, ℕ, ◌+◌, ◌<◌, AllPairs, List, [], ◌∷◌, map, refl, sym, ◌∙◌, ap, arith}
use Rattle.std.specs.Cmp.{nat_cmp_is}
use Rattle.std.specs.Cmp.Lexicographic.{slice_cmp}
use Rattle.std.specs.List.{flat_map}
use Rattle.std.specs.Map.{keys_of}
use Rattle.std.specs.Ordering.{nat_cmp, ordering_then}
use Rattle.std.specs.declared.cmp.Ordering.TheVariants.{Less, Equal}
use Rattle.cb_exprs.specs.Bindings.{Bindings}
use Rattle.cb_facts.specs.FactLists.{IndexedFacts}
use Rattle.cb_matches.proofs.Listing.{is_listed}
use Rattle.cb_matches.specs.Keys.{KeyValue, key_cmp, part_cmp}
use Rattle.cb_matches.specs.Laws.{IsInOrder}
use Rattle.cb_matches.proofs.Growth.{sorted_next}
use Rattle.cb_matches.proofs.Indices.{rising_keys}
use Rattle.cb_matches.proofs.Lists.{chain_append, chain_filter, chain_flat, chain_map, in_map, pairs_from_chain}
use Rattle.cb_matches.specs.Chains.{Chain}
use Rattle.cb_matches.specs.Order.{IsAhead, IsRising, IsSorted, WaysRise}
use Rattle.cb_matches.proofs.PartOrder.{earlier_is_less}
use Rattle.cb_matches.specs.Matches.{Partial, after, after_all, group_holds, matches_of, no_parts, test_holds}
use Rattle.cb_matches.specs.Networks.{Network, all_keys, all_matches, branch_matches, keyed, rule_matches}
use Rattle.cb_rules.specs.Elements.{Element, pattern, test, group, Elements, no_elements, element}

sorted_one : WaysRise → (e : Element) (fs : IndexedFacts) (ms : List Partial) → IsRising fs → IsSorted ms → IsSorted (after e fs ms)
sorted_one rise (pattern x p) fs ms facts sorted = sorted_next rise x p fs ms facts sorted
sorted_one rise (test t) fs ms facts sorted = chain_filter IsAhead (λ m. test_holds t m.env) ms sorted
sorted_one rise (group positive inner) fs ms facts sorted = chain_filter IsAhead (λ m. group_holds positive (after_all inner fs (m ∷ []))) ms sorted

sorted_all : WaysRise → (es : Elements) (fs : IndexedFacts) (ms : List Partial) → IsRising fs → IsSorted ms → IsSorted (after_all es fs ms)
sorted_all rise no_elements fs ms facts sorted = sorted
sorted_all rise (element e es) fs ms facts sorted = sorted_all rise es fs (after e fs ms) facts (sorted_one rise e fs ms facts sorted)

abbrev Match : Type 0
Match = KeyValue × Bindings

abbrev IsBelow : Match → Match → Type 0
IsBelow x y = key_cmp x.0 y.0 ≡ Less

below_by_rule : (x y : Match) → x.0.rule < y.0.rule → IsBelow x y
below_by_rule x y h =
    ap (λ o. ordering_then o (ordering_then (nat_cmp x.0.branch y.0.branch) (slice_cmp part_cmp x.0.parts y.0.parts))) (sym (nat_cmp_is x.0.rule y.0.rule Less h))

below_by_branch : (x y : Match) → x.0.rule ≡ y.0.rule → x.0.branch < y.0.branch → IsBelow x y
below_by_branch x y e h =
    ap (λ o. ordering_then o (ordering_then (nat_cmp x.0.branch y.0.branch) (slice_cmp part_cmp x.0.parts y.0.parts))) (sym (nat_cmp_is x.0.rule y.0.rule Equal e))
    ∙ ap (λ o. ordering_then o (slice_cmp part_cmp x.0.parts y.0.parts)) (sym (nat_cmp_is x.0.branch y.0.branch Less h))

below_by_parts : (rule branch : ℕ) (m n : Partial) → IsAhead m n → IsBelow (keyed rule branch m) (keyed rule branch n)
below_by_parts rule branch m n h =
    ap (λ o. ordering_then o (ordering_then (nat_cmp branch branch) (slice_cmp part_cmp m.parts n.parts))) (sym (nat_cmp_is rule rule Equal refl))
    ∙ (ap (λ o. ordering_then o (slice_cmp part_cmp m.parts n.parts)) (sym (nat_cmp_is branch branch Equal refl)) ∙ earlier_is_less m.parts n.parts h)

branch_rises : WaysRise → (rule n : ℕ) (es : Elements) (fs : IndexedFacts) → IsRising fs → Chain IsBelow (map (keyed rule n) (matches_of es fs))
unfolding matches_of
branch_rises rise rule n es fs facts =
    chain_map IsAhead IsBelow (keyed rule n) (after_all es fs (no_parts ∷ [])) (sorted_all rise es fs (no_parts ∷ []) facts (λ z h. absurd h, tt)) (below_by_parts rule n)

branches_rise : WaysRise → (rule n : ℕ) (branches : List Elements) (fs : IndexedFacts) → IsRising fs → Chain IsBelow (branch_matches rule n branches fs)
branches_rise rise rule n [] fs facts = tt
branches_rise rise rule n (es ∷ more) fs facts =
    chain_append IsBelow (map (keyed rule n) (matches_of es fs)) (branch_matches rule (n + 1) more fs) (branch_rises rise rule n es fs facts) (branches_rise rise rule (n + 1) more fs facts)
    (λ x y h k.
    let m = in_map (keyed rule n) x (matches_of es fs) h in
    let l = is_listed rule (n + 1) more fs y k in
    let first : x.0.branch ≡ n = ap (λ it. it.0.branch) m.2 in
    let second : y.0.branch ≡ n + 1 + l.place = ap (λ it. it.0.branch) l.is in
    below_by_branch x y (ap (λ it. it.0.rule) m.2 ∙ sym (ap (λ it. it.0.rule) l.is)) (omega (arith, first, second)))

pub keys_rise : WaysRise → (n : Network) → IsInOrder n → AllPairs (λ k l. key_cmp k l ≡ Less) (all_keys n)
unfolding all_keys all_matches
keys_rise rise n order =
    let facts = rising_keys n.facts order.facts in
    let all : Chain IsBelow (flat_map (rule_matches n.facts) n.rules) =
    chain_flat (λ (r : ℕ × List Elements) (s : ℕ × List Elements). r.0 < s.0) IsBelow (rule_matches n.facts) n.rules (rising_keys n.rules order.rules)
    (λ r _. branches_rise rise r.0 0 r.1 n.facts facts)
    (λ r s x y h i j.
    let first = ap (λ it. it.0.rule) (is_listed r.0 0 r.1 n.facts x i).is in
    let second = ap (λ it. it.0.rule) (is_listed s.0 0 s.1 n.facts y j).is in
    below_by_rule x y (omega (arith, first, second, h))) in
    pairs_from_chain (λ (k : KeyValue) (l : KeyValue). key_cmp k l ≡ Less) (keys_of (flat_map (rule_matches n.facts) n.rules))
    (chain_map IsBelow (λ (k : KeyValue) (l : KeyValue). key_cmp k l ≡ Less) (λ (x : Match). x.0) (flat_map (rule_matches n.facts) n.rules) all (λ x y h. h))
