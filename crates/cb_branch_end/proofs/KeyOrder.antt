-- Keys that are found in any order, and sorted.
use Rattle.std.proofs.Common.{◌≡◌, ◌≢◌, ◌∙◌, ℕ, true, false, List, ap, arith, get_or, is_lt, map, refl, sym}
use Rattle.std.proofs.lemmas.List.MinMax.{ranks_by}
use Rattle.std.proofs.lemmas.List.Sorted.{Contains-permutation, IsPermutation-sym, sorted_far}
use Rattle.std.proofs.lemmas.Map.Keys.{IsDistinct-IsPermutation}
use Rattle.std.proofs.lemmas.Map.Made.{AllPairs-from_IsDistinct, IsDistinct-from_AllPairs}
use Rattle.std.specs.Cmp.{nat_cmp_is}
use Rattle.std.specs.Cmp.Lexicographic.{slice_cmp}
use Rattle.std.specs.List.Sorted.{IsPermutation, IsSorted}
use Rattle.std.specs.Ordering.{nat_cmp, ordering_reverse, ordering_then}
use Rattle.std.specs.declared.cmp.Ordering.{Ordering}
use Rattle.std.specs.declared.cmp.Ordering.TheVariants.{Less, Equal, Greater}
use Rattle.cb_branch_end.proofs.ComingKeys.{come_members}
use Rattle.cb_branch_end.proofs.SameKeys.{equal_keys, key_Decides}
use Rattle.cb_branch_end.specs.TellingKeys.{key_of}
use Rattle.cb_matches.proofs.Lists.{chain_filter, chain_from_pairs, chain_map, contains_in, in_contains, one_chain, pairs_from_chain}
use Rattle.cb_matches.proofs.PartOrder.{earlier_is_less}
use Rattle.cb_matches.specs.Chains.{AreSame, Chain}
use Rattle.cb_matches.specs.Changes.{come_of}
use Rattle.cb_matches.specs.Internal.KeyLaws.{key_equiv, key_total}
use Rattle.cb_matches.specs.Keys.{KeyValue, key_cmp, key_eq, part_cmp}
use Rattle.cb_matches.specs.Matches.{Partial}
use Rattle.cb_matches.specs.Order.{IsAhead, IsApart, IsOnce, IsSorted as IsSortedPartials}
use Rattle.cb_nodes.specs.Changes.{PartialMoves}

-- in the order of keys
abbrev pub IsBelow : KeyValue → KeyValue → Type 0
IsBelow k l = key_cmp k l ≡ Less

decided : (k l : KeyValue) (o p : Ordering) → o ≡ key_cmp k l → p ≡ ordering_reverse o → is_lt p ≡ false → (o ≡ Equal → ⊥) → o ≡ Less
decided k l Less p e r h apart = refl
decided k l Equal p e r h apart = absurd (apart refl)
decided k l Greater p e r h apart = let g : is_lt p ≡ true = ap is_lt r in cc

pub below_irreflexive : (k : KeyValue) → IsBelow k k → ⊥
below_irreflexive k h = let e : Less ≡ Greater = sym h ∙ (key_total.antisymm k k ∙ ap ordering_reverse h) in cc

-- a sort of different keys gives them in strict order
strictly : (ks ls : List KeyValue) → IsPermutation ks ls → IsSorted key_cmp ls → Chain (λ (k : KeyValue) (l : KeyValue). k ≢ l) ks → Chain IsBelow ls
strictly ks ls moves sorted apart =
    chain_from_pairs IsBelow ls (λ i j d l m.
    let distinct = AllPairs-from_IsDistinct key_Decides ls (IsDistinct-IsPermutation key_eq key_equiv.symm ks ls moves (IsDistinct-from_AllPairs key_Decides ks (pairs_from_chain (λ (k : KeyValue) (q : KeyValue). k ≢ q) ks apart))) in
    decided (get_or ls i d) (get_or ls j d) (key_cmp (get_or ls i d) (get_or ls j d)) (key_cmp (get_or ls j d) (get_or ls i d)) refl (key_total.antisymm (get_or ls j d) (get_or ls i d))
    (sorted_far (λ k q. is_lt (key_cmp k q)) (ranks_by key_total (λ k. k)) ls sorted i j d (omega (arith, l)) m)
    (λ e. distinct i j d l m (equal_keys (get_or ls i d) (get_or ls j d) e)))

same_keys : (ks ls : List KeyValue) → IsPermutation ks ls → AreSame ls ks
same_keys ks ls moves = (
  λ k h. contains_in k ks (Contains-permutation ls ks k (IsPermutation-sym ks ls moves) (in_contains k ls h)),
  λ k h. contains_in k ls (Contains-permutation ks ls k moves (in_contains k ks h)),
)

below_by_parts : (rule branch : ℕ) (m n : Partial) → IsAhead m n → IsBelow (key_of rule branch m) (key_of rule branch n)
below_by_parts rule branch m n h =
    ap (λ o. ordering_then o (ordering_then (nat_cmp branch branch) (slice_cmp part_cmp m.parts n.parts))) (sym (nat_cmp_is rule rule Equal refl))
    ∙ (ap (λ o. ordering_then o (slice_cmp part_cmp m.parts n.parts)) (sym (nat_cmp_is branch branch Equal refl)) ∙ earlier_is_less m.parts n.parts h)

-- different keys, sorted, are the list of the same keys that is in order
pub one_sorted : (ks ls target : List KeyValue) → IsPermutation ks ls → IsSorted key_cmp ls → Chain (λ (k : KeyValue) (l : KeyValue). k ≢ l) ks → AreSame ks target → Chain IsBelow target → ls ≡ target
one_sorted ks ls target moves sorted apart members in_order =
    let same = same_keys ks ls moves in
    one_chain IsBelow below_irreflexive key_total.trans ls target (strictly ks ls moves sorted apart) in_order
    (λ k h. members.0 k (same.0 k h))
    (λ k h. same.1 k (members.1 k h))

-- the keys of sorted partial matches are in order, and so are those of them that come
pub keys_in_order : (rule branch : ℕ) (ms : List Partial) → IsSortedPartials ms → Chain IsBelow (map (key_of rule branch) ms)
keys_in_order rule branch ms sorted = chain_map IsAhead IsBelow (key_of rule branch) ms sorted (below_by_parts rule branch)

come_in_order : (rule branch : ℕ) (old new : List Partial) → IsSortedPartials new → Chain IsBelow (come_of (map (key_of rule branch) old) (map (key_of rule branch) new))
come_in_order rule branch old new sorted = chain_filter IsBelow _ (map (key_of rule branch) new) (keys_in_order rule branch new sorted)

-- different partial matches have different keys
other_keys : (rule branch : ℕ) (ms : List Partial) → IsOnce ms → Chain (λ (k : KeyValue) (l : KeyValue). k ≢ l) (map (key_of rule branch) ms)
other_keys rule branch ms once = chain_map IsApart (λ (k : KeyValue) (l : KeyValue). k ≢ l) (key_of rule branch) ms once (λ m n h e. h (ap (λ it. it.parts) e))

-- the keys of what comes, sorted, are those that come
pub sorted_come : (rule branch : ℕ) (old new gone come : List Partial) (ls : List KeyValue) → IsSortedPartials new → PartialMoves old new gone come → IsOnce come
    → IsPermutation (map (key_of rule branch) come) ls → IsSorted key_cmp ls → ls ≡ come_of (map (key_of rule branch) old) (map (key_of rule branch) new)
sorted_come rule branch old new gone come ls new_sorted moves once permutes sorted =
    one_sorted (map (key_of rule branch) come) ls (come_of (map (key_of rule branch) old) (map (key_of rule branch) new)) permutes sorted
    (other_keys rule branch come once) (come_members rule branch old new gone come moves) (come_in_order rule branch old new new_sorted)
