-- The end of a branch: the list of its matches.
use Rattle.std.proofs.Common.{◌≡◌, ◌∙◌, ◌++◌, ℕ, List, Option, Some, ap, arith, map, slice_get, subst, sym}
use Rattle.std.specs.Map.{lookup}
use Rattle.std.specs.Option.{option_map}
use Rattle.cb_beta.specs.BetaMemories.{BetaMemoryValue}
use Rattle.cb_branch.proofs.Matched.{last_is_matches, last_sorted, last_within}
use Rattle.cb_branch.specs.Alphas.{Facts}
use Rattle.cb_branch.specs.Branches.{IsBranchOver, branch_elements}
use Rattle.cb_branch.specs.Internal.{IsEndOf}
use Rattle.cb_branch.specs.Nodes.{flat_nodes}
use Rattle.cb_branch.specs.declared.branch.Branch.{Branch}
use Rattle.cb_branch_end.specs.TellingKeys.{AreApart, IsAtEnd, Tells as TellsKeys, at_end}
use Rattle.cb_branch_end.specs.declared.branch_end.BranchEnd.{BranchEnd}
use Rattle.cb_facts.specs.FactLists.{IndexedFacts}
use Rattle.cb_list_changes.proofs.Places.{at_place}
use Rattle.cb_matches.specs.Keys.{KeyValue, key_eq}
use Rattle.cb_matches.specs.Matches.{Partial, matches_of}
use Rattle.cb_matches.specs.Networks.{keyed}
use Rattle.cb_matches.specs.Order.{IsRising, IsSorted, WaysRise}
use Rattle.cb_matches.specs.declared.delta.Delta.{Delta}
use Rattle.cb_nodes.specs.Lists.{branch_lists}
use Rattle.cb_rule_keys.specs.Keys.{Tells, key_of, keys_in_branch}
use Rattle.cb_token_lists.specs.Keeping.{Rests}
use Rattle.cb_token_lists.specs.Partials.{SourceValue, partial_at}
use Rattle.cb_token_lists.specs.Turns.{IsThere, StandFor, Turns}

module _ {T : Type 0} (rule number : ℕ) (b : Branch T) (end : BranchEnd) (of : IsEndOf rule number b end) where
  pub at_last : at_end end ≡ partial_at b.sources.items b.lists.items b.last
  at_last =
      ap (λ (it : List SourceValue). partial_at it end.lists.lists.now end.last) of.sources
      ∙ (ap (λ (it : List BetaMemoryValue). partial_at b.sources.items it end.last) of.lists ∙ ap (λ (k : ℕ). partial_at b.sources.items b.lists.items k) of.last)

  pub is_there : (m : BetaMemoryValue) → slice_get b.lists.items b.last ≡ Some m → IsAtEnd end m
  is_there m is = ap (λ (it : List BetaMemoryValue). slice_get it end.last) of.lists ∙ (ap (λ (k : ℕ). slice_get b.lists.items k) of.last ∙ is)

  keys_are : (ms : List Partial) → map (key_of end.rule end.branch) ms ≡ map (key_of rule number) ms
  keys_are ms = ap (λ (n : ℕ). map (key_of n end.branch) ms) of.rule_is ∙ ap (λ (n : ℕ). map (key_of rule n) ms) of.branch_is

  -- what a change tells
  pub change_told : (m : BetaMemoryValue) (old new : List Partial) (delta delta' : Delta) → slice_get b.lists.items b.last ≡ Some m → Turns (partial_at b.sources.items b.lists.items b.last) m old new
      → IsSorted old → IsSorted new
      → ((m : BetaMemoryValue) (old new : List Partial) → IsAtEnd end m → Turns (at_end end) m old new → IsSorted old → IsSorted new
      → TellsKeys delta delta' (map (key_of end.rule end.branch) old) (map (key_of end.rule end.branch) new))
      → Tells delta delta' (map (key_of rule number) old) (map (key_of rule number) new)
  change_told m old new delta delta' is turns sorted sorted' tells =
      let told = tells m old new (is_there m is) (subst (λ (at : ℕ → Partial). Turns at m old new) (sym at_last) turns) sorted sorted' in
      subst (λ ks. Tells delta delta' ks (map (key_of rule number) new)) (keys_are old)
      (subst (λ ks. Tells delta delta' (map (key_of end.rule end.branch) old) ks) (keys_are new) (record { gone = told.gone; come = told.come }))

  module _ (rise : WaysRise) (facts : Facts) (fs : IndexedFacts) (rising : IsRising fs) (over : IsBranchOver facts fs b) where
    abbrev last_list : List Partial
    last_list = branch_lists (flat_nodes b.nodes.items) fs b.last

    last : (m : BetaMemoryValue) × (slice_get b.lists.items b.last ≡ Some m)
    last = let long = over.long in let within = last_within b over.planned in at_place b.lists.items b.last (omega (arith, long, within))

    rests : Rests (at_end end) last.0 last_list
    rests = subst (λ (at : ℕ → Partial). Rests at last.0 last_list) (sym at_last) (over.rest.each b.last last.0 last.1)

    -- what is told of all matches
    pub all_told : (keys keys' : List KeyValue)
        → ((m : BetaMemoryValue) (ms : List Partial) → IsAtEnd end m → StandFor (at_end end) (IsThere m) ms → AreApart (at_end end) m → IsSorted ms
        → keys' ≡ keys ++ map (key_of end.rule end.branch) ms)
        → keys' ≡ keys ++ keys_in_branch rule number (branch_elements b) fs
    all_told keys keys' tells =
        tells last.0 last_list (is_there last.0 last.1) rests.is rests.one (last_sorted b over.planned rise fs rising)
        ∙ ap (λ it. keys ++ it) (keys_are last_list ∙ ap (map (key_of rule number)) (last_is_matches b over.planned rise fs rising))

    -- what is found by a key is what the match with the key has
    pub looked_up : (key : KeyValue) (found : Option ℕ) → key.rule ≡ rule → key.branch ≡ number
        → ((m : BetaMemoryValue) (ms : List Partial) → IsAtEnd end m → StandFor (at_end end) (IsThere m) ms → AreApart (at_end end) m → key.rule ≡ end.rule → key.branch ≡ end.branch
        → option_map (λ n. (at_end end n).env) found ≡ lookup (key_eq key) (map (keyed end.rule end.branch) ms))
        → option_map (λ n. (at_end end n).env) found ≡ lookup (key_eq key) (map (keyed rule number) (matches_of (branch_elements b) fs))
    looked_up key found rule_is branch_is finds =
        finds last.0 last_list (is_there last.0 last.1) rests.is rests.one (rule_is ∙ sym of.rule_is) (branch_is ∙ sym of.branch_is)
        ∙ (ap (λ (n : ℕ). lookup (key_eq key) (map (keyed n end.branch) last_list)) of.rule_is
        ∙ (ap (λ (n : ℕ). lookup (key_eq key) (map (keyed rule n) last_list)) of.branch_is
        ∙ ap (λ ms. lookup (key_eq key) (map (keyed rule number) ms)) (last_is_matches b over.planned rise fs rising)))
