-- A change of the facts from its beginning to its end.
use Rattle.std.proofs.Common.{◌≡◌, ◌∙◌, ◌≤◌, ◌++◌, ℕ, [], Option, Some, None, ap, arith, inl, inr, refl, sym}
use Rattle.std.specs.BTreeMap.{BTreeMap, values}
use Rattle.cb_alpha.specs.AlphaMemories.{AlphaMemoryValue, IsEnded, index_of, live, live_in}
use Rattle.cb_alpha_network.specs.Networks.{AlphaNetworkValue, AlphasTurn, AreAlphas, HasNoFact, NetworkChangesFrom, memory_at, use_count}
use Rattle.cb_branch.specs.Branches.{HasAlpha, IsBranchOver}
use Rattle.cb_branch.specs.Alphas.{AlphaUse}
use Rattle.cb_branch.specs.Alphas.{Facts, live_facts, were_facts}
use Rattle.cb_branch.specs.Patterns.{branch_patterns}
use Rattle.cb_branch.specs.declared.branch.Branch.{Branch}
use Rattle.cb_facts.specs.FactLists.{IndexedFacts, fact_at, with_fact, without_fact}
use Rattle.cb_facts.specs.Facts.{FactValue}
use Rattle.cb_matches.specs.Changes.{IsDelta, IsNumber, come_of}
use Rattle.cb_matches.specs.Order.{IsRising}
use Rattle.cb_matches.specs.declared.delta.Delta.{Delta}
use Rattle.cb_nodes.proofs.Facts.{added_fact, before_taken, left_in, rising_with, rising_without, taken_fact}
use Rattle.cb_rete.proofs.Entered.{entered_in_change}
use Rattle.cb_rete.proofs.Listed.{numbers_found, numbers_listed}
use Rattle.cb_rete.proofs.Numbers.{IsOnce, tells_alike, tells_from_none}
use Rattle.cb_rete.specs.Changing.{AreRulesChanged, AreRulesReady, AreRulesTurned, IsTurning, TurnValue}
use Rattle.cb_rete.specs.Numbers.{IsNumberInRules, kept_numbers}
use Rattle.cb_rete.specs.Rules.{IsKeeping, kept_rules}
use Rattle.cb_rete.specs.declared.rule.Rule.{Rule}
use Rattle.cb_rule_keys.proofs.Answered.{come_is, gone_is, over}
use Rattle.cb_rule_keys.proofs.Numbered.{found_in}
use Rattle.cb_rule_keys.specs.Keys.{rule_keys}
use Rattle.cb_rule_keys.specs.Sums.{rules_sum}

-- ---- the facts

abbrev pub turn_of : AlphaNetworkValue → IndexedFacts → IndexedFacts → ℕ × FactValue → Option FactValue → TurnValue
turn_of v fs fs' f added = record { network = v; before = fs; after = fs'; fact = f; added = added }

pub assert_turning : (v : AlphaNetworkValue) (fs : IndexedFacts) (ix : ℕ) (f : FactValue) → IsRising fs → fact_at fs ix ≡ None → AlphasTurn v fs (with_fact fs ix f)
    → IsTurning (turn_of v fs (with_fact fs ix f) (ix, f) (Some f))
assert_turning v fs ix f rising free turns = record {
  rising = rising;
  rising_now = rising_with fs ix f free rising;
  differ = inl (free, refl);
  comes = λ g i absent. elim ((added_fact fs ix f free).is g i) as (λ _. Some f ≡ Some g.1) [
    | inl was ↦ absurd (absent was)
    | inr e ↦ ap (λ (it : ℕ × FactValue). Some it.1) (sym e)
  ];
  alphas = turns;
}

-- no fact has an index that is taken away
pub none_left : (fs : IndexedFacts) (ix : ℕ) (f : FactValue) → IsRising fs → fact_at fs ix ≡ Some f → fact_at (without_fact fs ix) ix ≡ None
none_left fs ix f rising there = by_answer (fact_at (without_fact fs ix) ix) refl
  where
    by_answer : (o : Option FactValue) → fact_at (without_fact fs ix) ix ≡ o → o ≡ None
    by_answer None h = refl
    by_answer (Some g) h = absurd ((taken_fact ix f fs rising there).absent (ix, g) (found_in ix (without_fact fs ix) g h) refl)

pub retract_turning : (v : AlphaNetworkValue) (fs : IndexedFacts) (ix : ℕ) (f : FactValue) → IsRising fs → fact_at fs ix ≡ Some f → AlphasTurn v fs (without_fact fs ix)
    → IsTurning (turn_of v fs (without_fact fs ix) (ix, f) None)
retract_turning v fs ix f rising there turns =
    let none = none_left fs ix f rising there in
    record {
      rising = rising;
      rising_now = rising_without ix f fs rising;
      differ = inr (none, sym (before_taken ix f fs rising there none));
      comes = λ g i absent. absurd (absent (left_in ix f fs g i));
      alphas = turns;
    }

some_index : (o : Option (ℕ × FactValue)) (ix : ℕ) → index_of o ≡ Some ix → (f : ℕ × FactValue) × (o ≡ Some f) × (f.0 ≡ ix)
some_index None ix h = cc
some_index (Some f) ix h = let e : f.0 ≡ ix = cc in (f, refl, e)

-- no alpha memory has a fact with an index that is free
pub no_fact : (v : AlphaNetworkValue) (fs : IndexedFacts) (ix : ℕ) (f : FactValue) → AreAlphas v fs → fact_at fs ix ≡ None → HasNoFact v ix
no_fact v fs ix f alphas free n p shape i h =
    let at = some_index (live (memory_at v n) i) ix h in
    let there = (alphas.over n p shape).has.are i at.0 at.1 in
    (added_fact fs ix f free).absent at.0 there.0 at.2

-- ---- the rules

module _ {T : Type 0} (stays : (facts facts' : Facts) (fs : IndexedFacts) (b : Branch T) → IsBranchOver facts fs b
    → ((k : ℕ) (u : AlphaUse) → HasAlpha b k u → (n : ℕ) → facts u.alpha n ≡ facts' u.alpha n) → IsBranchOver facts' fs b) where
  -- where the memories have changed, rules are ready
  pub all_ready : (v v' : AlphaNetworkValue) (fs fs' : IndexedFacts) (f : ℕ × FactValue) (added : Option FactValue) (rules : BTreeMap ℕ (Rule T)) → NetworkChangesFrom v v' → IsKeeping v fs rules
      → AreRulesReady (turn_of v' fs fs' f added) rules.entries
  all_ready v v' fs fs' f added rules changes keeping = record {
    named = keeping.named;
    each = λ e i n b h. record {
      over = stays (live_facts v.memories) (were_facts v'.memories) fs b (keeping.over e i n b h) (λ k u has m. sym ((changes.memories u.alpha).were m));
      entered = entered_in_change v v' e.1.id n b changes.shapes changes.users (λ m. (changes.memories m).joins) (keeping.entered e i n b h);
    };
  }

  live_ended : (m m' : AlphaMemoryValue) (n : ℕ) → IsEnded m m' → live m n ≡ live m' n
  live_ended m m' n ended = sym (ap (λ (o : Option ℕ). live_in m'.candidates o n) ended.gone ∙ ended.candidates n)

  -- and where the change has ended, they are as they are between changes
  pub all_turned : (turn : TurnValue) (v : AlphaNetworkValue) (old new : BTreeMap ℕ (Rule T)) (none delta : Delta) (meter meter' : ℕ) → v.shapes ≡ turn.network.shapes → v.users ≡ turn.network.users
      → ((n : ℕ) → IsEnded (memory_at turn.network n) (memory_at v n)) → AreAlphas v turn.after → none.gone.items ≡ [] → none.come.items ≡ []
      → none.gone_numbers.items ≡ [] → none.come_numbers.items ≡ [] → IsOnce (IsNumberInRules old.entries) → IsOnce (IsNumberInRules new.entries)
      → AreRulesChanged turn old new none delta meter meter' → AreRulesTurned turn v old new delta meter meter'
  all_turned turn v old new none delta meter meter' shapes users ended alphas none_gone none_come no_gone_numbers no_come_numbers once once_now changed = record {
    stay = changed.stay;
    named = changed.named;
    alphas = alphas;
    over = λ e i n b h. stays (live_facts turn.network.memories) (live_facts v.memories) turn.after b (changed.done e i n b h).over
        (λ k u has m. live_ended (memory_at turn.network u.alpha) (memory_at v u.alpha) m (ended u.alpha));
    entered = λ e i n b h. entered_in_change turn.network v e.1.id n b shapes users (λ m. (ended m).joins) (changed.done e i n b h).entered;
    gone = changed.told.gone ∙ ap (λ it. it ++ come_of (rule_keys (kept_rules (values old)) turn.after) (rule_keys (kept_rules (values old)) turn.before)) none_gone;
    come = changed.told.come ∙ ap (λ it. it ++ come_of (rule_keys (kept_rules (values old)) turn.before) (rule_keys (kept_rules (values old)) turn.after)) none_come;
    paid = changed.paid;
    numbers = tells_alike (IsNumberInRules old.entries) (IsNumber (kept_numbers (values old))) (IsNumberInRules new.entries) (IsNumber (kept_numbers (values new))) delta
        (numbers_listed old.entries) (numbers_found old.entries) (numbers_listed new.entries) (numbers_found new.entries)
        (tells_from_none (IsNumberInRules old.entries) (IsNumberInRules new.entries) none delta none_gone none_come no_gone_numbers no_come_numbers once once_now changed.numbers);
  }

module _ {T : Type 0} (turn : TurnValue) (v : AlphaNetworkValue) (old new : BTreeMap ℕ (Rule T)) (delta : Delta) (meter meter' : ℕ) (turned : AreRulesTurned turn v old new delta meter meter') where
  pub keeping_after : use_count v ≤ rules_sum branch_patterns (kept_rules (values old)) → IsKeeping v turn.after new
  keeping_after count = record {
    named = turned.named;
    alphas = turned.alphas;
    over = turned.over;
    entered = turned.entered;
    count = let e = ap (rules_sum branch_patterns) turned.stay in omega (arith, e, count);
  }

  pub delta_after : IsDelta (over (kept_rules (values old)) turn.before) (over (kept_rules (values old)) turn.after) delta
  delta_after = record {
    gone = gone_is (kept_rules (values old)) (kept_rules (values old)) turn.before turn.after delta.gone.items turned.gone;
    come = come_is (kept_rules (values old)) (kept_rules (values old)) turn.before turn.after delta.come.items turned.come;
  }
