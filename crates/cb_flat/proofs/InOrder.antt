-- The partial matches behind elements are there once, and in the order of keys where the facts are in that of their indices.
use Rattle.std.proofs.Common.{◌≢◌, List, [], ◌∷◌}
use Rattle.cb_facts.specs.FactLists.{IndexedFacts}
use Rattle.cb_matches.proofs.Growth.{Fact, once_next, sorted_next}
use Rattle.cb_matches.proofs.Lists.{chain_filter}
use Rattle.cb_matches.specs.Chains.{Chain}
use Rattle.cb_matches.specs.Order.{IsAhead, IsApart, IsOnce, IsRising, IsSorted, WaysRise}
use Rattle.cb_matches.specs.Matches.{Partial, after, after_all, group_holds, test_holds}
use Rattle.cb_rules.specs.Elements.{Element, pattern, test, group, Elements, no_elements, element}

mutual
  pub once_one : WaysRise → (e : Element) (fs : IndexedFacts) (ms : List Partial) → Chain (λ (f : Fact) (g : Fact). f.0 ≢ g.0) fs → IsOnce ms → IsOnce (after e fs ms)
  once_one rise (pattern x p) fs ms facts once = once_next rise x p fs ms facts once
  once_one rise (test t) fs ms facts once = chain_filter IsApart (λ m. test_holds t m.env) ms once
  once_one rise (group positive inner) fs ms facts once = chain_filter IsApart (λ m. group_holds positive (after_all inner fs (m ∷ []))) ms once

  pub once_all : WaysRise → (es : Elements) (fs : IndexedFacts) (ms : List Partial) → Chain (λ (f : Fact) (g : Fact). f.0 ≢ g.0) fs → IsOnce ms → IsOnce (after_all es fs ms)
  once_all rise no_elements fs ms facts once = once
  once_all rise (element e es) fs ms facts once = once_all rise es fs (after e fs ms) facts (once_one rise e fs ms facts once)

pub sorted_one : WaysRise → (e : Element) (fs : IndexedFacts) (ms : List Partial) → IsRising fs → IsSorted ms → IsSorted (after e fs ms)
sorted_one rise (pattern x p) fs ms facts sorted = sorted_next rise x p fs ms facts sorted
sorted_one rise (test t) fs ms facts sorted = chain_filter IsAhead (λ m. test_holds t m.env) ms sorted
sorted_one rise (group positive inner) fs ms facts sorted = chain_filter IsAhead (λ m. group_holds positive (after_all inner fs (m ∷ []))) ms sorted

pub sorted_all : WaysRise → (es : Elements) (fs : IndexedFacts) (ms : List Partial) → IsRising fs → IsSorted ms → IsSorted (after_all es fs ms)
sorted_all rise no_elements fs ms facts sorted = sorted
sorted_all rise (element e es) fs ms facts sorted = sorted_all rise es fs (after e fs ms) facts (sorted_one rise e fs ms facts sorted)
