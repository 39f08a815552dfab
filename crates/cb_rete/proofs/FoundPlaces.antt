-- Places that are found, in their order.
use Rattle.std.proofs.Common.{◌≡◌, ◌∙◌, ◌<◌, ◌≤◌, ℕ, ◌+◌, List, inl, inr, Ordering, Less, Equal, Greater, ap, arith, get_or, length, nat_cmp, refl, sym}
use Rattle.std.proofs.lemmas.Bool.{cases_lt}
use Rattle.std.proofs.lemmas.List.{get_or_default}
use Rattle.std.proofs.lemmas.Map.Keys.{Less-from_sorted}
use Rattle.std.proofs.lemmas.Map.Lookups.{exact_unsigned}
use Rattle.std.specs.List.Sorted.{IsStrictlySortedBy}
use Rattle.std.specs.Ordering.{ordering_then}
use Rattle.cb_alpha_network.specs.Places.{place_cmp}
use Rattle.cb_alpha_network.specs.declared.node_place.NodePlace.{NodePlace}
use Rattle.cb_branch.specs.Entries.{node_at}
use Rattle.cb_matches.proofs.Lists.{place_of}
use Rattle.cb_matches.specs.Chains.{In}
use Rattle.cb_rete.specs.Found.{AreAllOfRule, AreOfRule}
use Rattle.cb_rule_keys.proofs.Numbered.{less_below}
use Rattle.cb_rule_keys.proofs.Ranged.{IsBound}

abbrev pub rule_of : NodePlace → ℕ
rule_of place = place.rule

abbrev pub branch_of : NodePlace → ℕ
branch_of place = place.branch

abbrev pub no_place : NodePlace
no_place = record { rule = 0; branch = 0; node = 0 }

first_rises : (i j : ℕ) (o : Ordering) → ordering_then (nat_cmp i j) o ≡ Less → i ≤ j
first_rises i j o h = by (nat_cmp i j) refl h
  where
    by : (r : Ordering) → nat_cmp i j ≡ r → ordering_then r o ≡ Less → i ≤ j
    by Less e k = let l = less_below i j e in omega (arith, l)
    by Equal e k = let same : i ≡ j = exact_unsigned i j e in omega (arith, same)
    by Greater e k = cc

then_rises : (i j : ℕ) (o : Ordering) → i ≡ j → ordering_then (nat_cmp i j) o ≡ Less → o ≡ Less
then_rises i j o same h = by (nat_cmp i j) refl h
  where
    by : (r : Ordering) → nat_cmp i j ≡ r → ordering_then r o ≡ Less → o ≡ Less
    by Less e k = let l = less_below i j e in absurd (omega (arith, l, same))
    by Equal e k = k
    by Greater e k = cc

module _ (found : List NodePlace) (sorted : IsStrictlySortedBy place_cmp found) where
  -- the rules rise
  pub rules_rise : (i j : ℕ) (d : NodePlace) → 0 ≤ i → i < j → j < length found → rule_of (get_or found i d) ≤ rule_of (get_or found j d)
  rules_rise i j d _ l h =
      let a = get_or found i d in
      let b = get_or found j d in
      first_rises a.rule b.rule (ordering_then (nat_cmp a.branch b.branch) (nat_cmp a.node b.node)) (Less-from_sorted place_cmp found i j d sorted l h)

  -- and among the places of one rule its branches
  pub branches_rise : (from end rule : ℕ) → AreAllOfRule found from end rule → (i j : ℕ) (d : NodePlace) → from ≤ i → i < j → j < end → branch_of (get_or found i d) ≤ branch_of (get_or found j d)
  branches_rise from end rule of i j d low l h =
      let a = get_or found i d in
      let b = get_or found j d in
      let ends = of.within in
      let same : a.rule ≡ b.rule = of.passed i d low (omega (arith, l, h)) ∙ sym (of.passed j d (omega (arith, low, l)) h) in
      first_rises a.branch b.branch (nat_cmp a.node b.node)
      (then_rises a.rule b.rule (ordering_then (nat_cmp a.branch b.branch) (nat_cmp a.node b.node)) same (Less-from_sorted place_cmp found i j d sorted l (omega (arith, h, ends))))

-- the places of a rule, where a bound on the rules stands before them and one behind them
pub all_of_rule : (found : List NodePlace) (from to b : ℕ) → IsBound rule_of found 0 (length found) from b → from < to → to ≤ length found → b ≤ (get_or found from no_place).rule
    → IsBound rule_of found 0 (length found) to ((get_or found from no_place).rule + 1) → AreOfRule found from to
    → AreAllOfRule found from to (get_or found from no_place).rule
all_of_rule found from to b before up within low behind passed = record {
  within = within;
  passed = λ k d l h. passed k d l h ∙ ap rule_of (default_is found from d no_place (omega (arith, up, within)));
  all = λ k d h e. (at_least k d h e, at_most k d h e);
}
  where
    default_is : (xs : List NodePlace) (i : ℕ) (d e : NodePlace) → i < length xs → get_or xs i d ≡ get_or xs i e
    default_is xs i d e h = get_or_default xs i d e h

    at_least : (k : ℕ) (d : NodePlace) → k < length found → (get_or found k d).rule ≡ (get_or found from no_place).rule → from ≤ k
    at_least k d h e = elim (cases_lt k from) as (λ _. from ≤ k) [
      | inl l ↦ (let lower = before.below k d (omega arith) l in absurd (omega (arith, lower, low, e)))
      | inr l ↦ omega (arith, l)
    ]

    at_most : (k : ℕ) (d : NodePlace) → k < length found → (get_or found k d).rule ≡ (get_or found from no_place).rule → k < to
    at_most k d h e = elim (cases_lt k to) as (λ _. k < to) [
      | inl l ↦ l
      | inr l ↦ (let more = behind.above k d (omega (arith, l)) h in absurd (omega (arith, more, e)))
    ]

-- a place of a node that is found stands among those of its rule
pub found_at : (found : List NodePlace) (from end rule : ℕ) → AreAllOfRule found from end rule → (n k : ℕ) → In (node_at rule n k) found
    → (i : ℕ) × (from ≤ i) × (i < end) × ((d : NodePlace) → branch_of (get_or found i d) ≡ n)
found_at found from end rule of n k i =
    let p = place_of (node_at rule n k) found i in
    let at = of.all p.0 no_place p.1 (ap rule_of (p.2 no_place)) in
    (p.0, at.0, at.1, λ d. ap branch_of (p.2 d))
