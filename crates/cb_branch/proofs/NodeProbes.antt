-- How often the patterns of nodes are tested in a change.
use Rattle.std.proofs.Common.{◌≡◌, ◌∙◌, ◌+◌, ◌*◌, ◌≤◌, ℕ, suc, true, List, Option, Some, None, ap, arith, cond, drop, filter, length, nat_eq, slice_get}
use Rattle.std.proofs.Math.Seq.{drop-cons}
use Rattle.std.proofs.lemmas.Option.{get_or_from_slice_get}
use Rattle.std.specs.Option.{option_and_then, option_map}
use Rattle.cb_alpha.specs.AlphaMemories.{AlphaMemoryValue, Candidates, candidate_in}
use Rattle.cb_alpha.specs.Turning.{came_in, is_number}
use Rattle.cb_constraints.specs.PatternValues.{PatternValue}
use Rattle.cb_facts.specs.FactLists.{IndexedFacts}
use Rattle.cb_facts.specs.Facts.{FactValue}
use Rattle.cb_flat.specs.Joined.{added_joins, flat_joins, flat_joins_of}
use Rattle.cb_join_node.specs.Bounds.{join_probes, kept_probes}
use Rattle.cb_join_node.specs.Nodes.{added_fact}
use Rattle.cb_list_changes.proofs.Places.{by_option, within}
use Rattle.cb_matches.specs.Matches.{Partial}
use Rattle.cb_matches.specs.Probes.{is_candidate, partials_come, partials_kept}
use Rattle.cb_nodes.specs.Flat.{FlatNode, Lists}

same_number : (n : ℕ) → nat_eq n n ≡ true
same_number n = grind arith

-- the fact that came is the one that is added
kept_within : (p : PatternValue) (added : Option FactValue) (m : AlphaMemoryValue) (kept : ℕ) → ((n : ℕ) (f : ℕ × FactValue) → came_in m n ≡ Some f → added ≡ Some f.1)
    → kept_probes p (added_fact m) kept ≤ added_joins p added kept
kept_within p added m kept takes =
    by_option (option_and_then (candidate_in m.candidates) m.come)
    (λ none. let e : kept_probes p (added_fact m) kept ≡ 0 = ap (λ o. kept_probes p (option_map (λ (f : ℕ × FactValue). f.1) o) kept) none in omega (arith, e))
    (λ f is.
    let e : kept_probes p (added_fact m) kept ≡ added_joins p (Some f.1) kept = ap (λ o. kept_probes p (option_map (λ (f : ℕ × FactValue). f.1) o) kept) is in
    let it_came : (n : ℕ) × (came_in m n ≡ Some f) = came m.candidates m.come f is in
    let d : added_joins p added kept ≡ added_joins p (Some f.1) kept = ap (λ o. added_joins p o kept) (takes it_came.0 f it_came.1) in
    omega (arith, e, d))
  where
    came : (cs : Candidates) (o : Option ℕ) (f : ℕ × FactValue) → option_and_then (candidate_in cs) o ≡ Some f → (n : ℕ) × (cond (is_number o n) (candidate_in cs n) None ≡ Some f)
    came cs None f e = let no : None ≡ Some f = e in absurd (cc)
    came cs (Some n) f e = (n, ap (λ b. cond b (candidate_in cs n) None) (same_number n) ∙ e)

pub join_within : (p : PatternValue) (m : AlphaMemoryValue) (added : Option FactValue) (fs' : IndexedFacts) (old new : List Partial)
    → ((n : ℕ) (f : ℕ × FactValue) → came_in m n ≡ Some f → added ≡ Some f.1)
    → join_probes p (added_fact m) fs' old new ≤ length (partials_come old new) * length (filter (is_candidate p) fs') + added_joins p added (length (partials_kept old new))
join_within p m added fs' old new takes = let l = kept_within p added m (length (partials_kept old new)) takes in omega (arith, l)

-- one node more
pub joins_more : (added : Option FactValue) (fs' : IndexedFacts) (old new : Lists) (ns : List FlatNode) (i : ℕ) (n : FlatNode) → slice_get ns i ≡ Some n
    → flat_joins added fs' old new (drop i ns) ≡ flat_joins_of added fs' old new n + flat_joins added fs' old new (drop (i + 1) ns)
joins_more added fs' old new ns i n is =
    let next : suc i ≡ i + 1 = omega arith in
    ap (flat_joins added fs' old new) (drop-cons ns i n (within ns i n is))
    ∙ (ap (λ (it : FlatNode). flat_joins_of added fs' old new it + flat_joins added fs' old new (drop (suc i) ns)) (get_or_from_slice_get ns i n n is)
    ∙ ap (λ j. flat_joins_of added fs' old new n + flat_joins added fs' old new (drop j ns)) next)
