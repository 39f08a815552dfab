-- Rules that are changed one after another, by the places that are found.
use Rattle.std.proofs.Common.{◌≡◌, ◌∙◌, ◌<◌, ◌≤◌, ◌+◌, ◌++◌, ℕ, Bool, true, false, List, Option, Some, None, arith, get_or, length, nat_cmp, nat_le, refl, subst, sym}
use Rattle.std.specs.BTreeMap.{BTreeMap, is_at, values}
use Rattle.std.specs.List.Sorted.{IsStrictlySortedBy}
use Rattle.std.specs.Map.{keys_of, lookup}
use Rattle.cb_alpha_network.specs.Places.{place_cmp}
use Rattle.cb_alpha_network.specs.declared.node_place.NodePlace.{NodePlace}
use Rattle.cb_matches.specs.Changes.{come_of}
use Rattle.cb_matches.specs.declared.delta.Delta.{Delta}
use Rattle.cb_rete.proofs.FoundPlaces.{all_of_rule, no_place, rule_of, rules_rise}
use Rattle.cb_rete.proofs.RuleNumbers.{AreRulesToldTo, rules_told_all, rules_told_further, rules_told_none, rules_told_one}
use Rattle.cb_rete.specs.Changing.{AreRulesChanged, AreRulesReady, IsRuleChangedAt, IsRuleChangedFrom, IsRuleDone, IsRuleReady, TurnValue, join_tests}
use Rattle.cb_rete.specs.Found.{AreAllOfRule, AreOfRule, IsOtherRule}
use Rattle.cb_rete.specs.Rules.{kept_rule, kept_rules}
use Rattle.cb_rete.specs.declared.rule.Rule.{Rule}
use Rattle.cb_rule_keys.proofs.Numbered.{found_in}
use Rattle.cb_rule_keys.proofs.Passed.{AreChanged, IsUnconcerned, all_left, all_lost, all_paid, all_told, none_changed, one_changed, passed}
use Rattle.cb_rule_keys.proofs.Ranged.{IsBound, begins, bound_below, goes_on, none_after, none_between}
use Rattle.cb_rule_keys.specs.Keys.{rule_keys}
use Rattle.cb_rule_keys.specs.Sums.{rules_sum}

le_is : (m n : ℕ) → nat_le m n ≡ true → m ≤ n
le_is m n t = grind (arith, t)

le_is_not : (m n : ℕ) → nat_le m n ≡ false → n < m
le_is_not m n t = grind (arith, t)

le_further : (b id n : ℕ) → b ≤ id → nat_le id n ≡ true → nat_le b n ≡ true
le_further b id n up t = grind (arith, up, t)

le_itself : (n : ℕ) → nat_le n n ≡ true
le_itself n = grind arith

module _ {T : Type 0} (turn : TurnValue) (found : List NodePlace) where
  -- rules of which those from a number on are left
  abbrev pub AreLeftFrom : BTreeMap ℕ (Rule T) → (ℕ → Bool) → List (ℕ × Rule T) → Delta → Delta → ℕ → ℕ → Type 0
  AreLeftFrom old left rules delta delta' meter meter' =
      AreChanged kept_rule (IsRuleReady turn) (IsRuleDone turn) turn.before turn.after (join_tests turn) (kept_rules (values old)) rules left
      delta'.gone.items (delta.gone.items ++ come_of (rule_keys (kept_rules (values old)) turn.after) (rule_keys (kept_rules (values old)) turn.before))
      delta'.come.items (delta.come.items ++ come_of (rule_keys (kept_rules (values old)) turn.before) (rule_keys (kept_rules (values old)) turn.after))
      meter' (meter + rules_sum (join_tests turn) (kept_rules (values old)))

  -- up to a number, which is not above those of the places that are left, the rules have turned
  pub record AreRulesTurnedTo (at : ℕ) (old rules : BTreeMap ℕ (Rule T)) (delta delta' : Delta) (meter meter' : ℕ) : Type 0 where
    pub below : ℕ
    pub bound : IsBound rule_of found 0 (length found) at below
    pub turned : AreLeftFrom old (nat_le below) rules.entries delta delta' meter meter'
    pub numbers : AreRulesToldTo below old.entries rules.entries delta delta'

  pub rules_none : (rules : BTreeMap ℕ (Rule T)) (delta : Delta) (meter : ℕ) → IsStrictlySortedBy nat_cmp (keys_of rules.entries) → AreRulesReady turn rules.entries → AreRulesTurnedTo 0 rules rules delta delta meter meter
  rules_none rules delta meter sorted ready = record {
    below = 0;
    bound = begins rule_of found 0 (length found);
    turned = all_left kept_rule (IsRuleReady turn) (IsRuleDone turn) turn.before turn.after (join_tests turn) rules.entries ready.named sorted ready.each delta.gone.items delta.come.items meter;
    numbers = rules_told_none rules.entries delta;
  }

  module _ (sorted : IsStrictlySortedBy place_cmp found)
      (unconcerned : (r : Rule T) → IsRuleReady turn r → ((i : ℕ) → i < length found → rule_of (get_or found i no_place) ≡ r.id → ⊥)
      → IsUnconcerned kept_rule (IsRuleReady turn) (IsRuleDone turn) turn.before turn.after (join_tests turn) r)
      (old rules : BTreeMap ℕ (Rule T)) (delta delta' : Delta) (meter meter' at : ℕ) (was : AreRulesTurnedTo at old rules delta delta' meter meter') where
    -- up to the rule that is found next
    pub rules_to_next : at < length found → AreLeftFrom old (nat_le (get_or found at no_place).rule) rules.entries delta delta' meter meter'
    rules_to_next within =
        passed kept_rule (IsRuleReady turn) (IsRuleDone turn) turn.before turn.after (join_tests turn) (kept_rules (values old)) rules.entries delta'.gone.items _ delta'.come.items _ meter' _
        (nat_le was.below) (nat_le (get_or found at no_place).rule)
        (λ n t. le_further was.below (get_or found at no_place).rule n (bound_below rule_of found 0 (length found) (omega arith) (rules_rise found sorted) at was.below was.bound no_place within) t)
        (λ e i t u ready. unconcerned e.1 ready
        (λ k l same. let number : e.0 ≡ e.1.id = was.turned.named e i in
        none_between rule_of found 0 (length found) (omega arith) (rules_rise found sorted) at was.below was.bound no_place within e.0 (le_is was.below e.0 t) (le_is_not (get_or found at no_place).rule e.0 u) k (omega arith) l (same ∙ sym number)))
        was.turned

    -- and to the end
    pub rules_to_end : length found ≤ at → AreRulesChanged turn old rules delta delta' meter meter'
    rules_to_end over =
        let end = passed kept_rule (IsRuleReady turn) (IsRuleDone turn) turn.before turn.after (join_tests turn) (kept_rules (values old)) rules.entries delta'.gone.items _ delta'.come.items _ meter' _
        (nat_le was.below) (λ n. false)
        (λ n t. let no : false ≡ true = t in absurd cc)
        (λ e i t u ready. unconcerned e.1 ready
        (λ k l same. let number : e.0 ≡ e.1.id = was.turned.named e i in
        none_after rule_of found 0 (length found) (omega arith) (rules_rise found sorted) at was.below was.bound over e.0 (le_is was.below e.0 t) k no_place (omega arith) l (same ∙ sym number)))
        was.turned in
        record {
          stay = end.stays;
          named = end.named;
          done = λ e i. end.done e i refl;
          told = record {
            gone = all_lost kept_rule (IsRuleReady turn) (IsRuleDone turn) turn.before turn.after (join_tests turn) (kept_rules (values old)) rules.entries delta'.gone.items _ delta'.come.items _ meter' _ end;
            come = all_told kept_rule (IsRuleReady turn) (IsRuleDone turn) turn.before turn.after (join_tests turn) (kept_rules (values old)) rules.entries delta'.gone.items _ delta'.come.items _ meter' _ end;
          };
          paid = all_paid kept_rule (IsRuleReady turn) (IsRuleDone turn) turn.before turn.after (join_tests turn) (kept_rules (values old)) rules.entries delta'.gone.items _ delta'.come.items _ meter' _ end;
          numbers = rules_told_all was.below old.entries rules.entries delta delta' was.numbers;
        }

    -- the rule that is found next
    pub rule_ready : at < length found → (r : Rule T) → lookup (is_at (nat_cmp (get_or found at no_place).rule)) rules.entries ≡ Some r → (r.id ≡ (get_or found at no_place).rule) × IsRuleReady turn r
    rule_ready within r there =
        let i = found_in (get_or found at no_place).rule rules.entries r there in (
          sym (was.turned.named ((get_or found at no_place).rule, r) i),
          (rules_to_next within).todo ((get_or found at no_place).rule, r) i (le_itself (get_or found at no_place).rule),
        )

    module _ (within : at < length found) (next : ℕ) (up : at < next) (low : next ≤ length found) (of : AreOfRule found at next) (stops : IsOtherRule found at next) where
      bound_next : IsBound rule_of found 0 (length found) next ((get_or found at no_place).rule + 1)
      bound_next = goes_on rule_of found 0 (length found) (omega arith) (rules_rise found sorted) at was.below was.bound no_place within next up low of stops

      below_next : was.below ≤ (get_or found at no_place).rule
      below_next = bound_below rule_of found 0 (length found) (omega arith) (rules_rise found sorted) at was.below was.bound no_place within

      -- its places
      pub places_here : AreAllOfRule found at next (get_or found at no_place).rule
      places_here = all_of_rule found at next was.below was.bound up low (bound_below rule_of found 0 (length found) (omega arith) (rules_rise found sorted) at was.below was.bound no_place within) bound_next of

      -- it is changed
      module _ (rules' : BTreeMap ℕ (Rule T)) (delta'' : Delta) (meter'' : ℕ) where
        by_rule : (o : Option (Rule T)) → lookup (is_at (nat_cmp (get_or found at no_place).rule)) rules.entries ≡ o → IsRuleChangedFrom turn (get_or found at no_place).rule o rules rules' delta' delta'' meter' meter''
            → AreLeftFrom old (nat_le ((get_or found at no_place).rule + 1)) rules'.entries delta delta'' meter meter''
        by_rule (Some r) h now =
            subst (λ (es : List (ℕ × Rule T)). AreLeftFrom old (nat_le ((get_or found at no_place).rule + 1)) es delta delta'' meter meter'') (sym now.1)
            (one_changed kept_rule (IsRuleReady turn) (IsRuleDone turn) turn.before turn.after (join_tests turn) (kept_rules (values old)) rules.entries (get_or found at no_place).rule delta' _ _ meter' _ (rules_to_next within) r now.0 delta'' meter'' h now.2.changed)
        by_rule None h now =
            subst (λ (n : ℕ). AreLeftFrom old (nat_le ((get_or found at no_place).rule + 1)) rules'.entries delta delta'' meter n) (sym now.2)
            (subst (λ (it : Delta). AreLeftFrom old (nat_le ((get_or found at no_place).rule + 1)) rules'.entries delta it meter meter') (sym now.1)
            (subst (λ (es : List (ℕ × Rule T)). AreLeftFrom old (nat_le ((get_or found at no_place).rule + 1)) es delta delta' meter meter') (sym now.0)
            (none_changed kept_rule (IsRuleReady turn) (IsRuleDone turn) turn.before turn.after (join_tests turn) (kept_rules (values old)) rules.entries (get_or found at no_place).rule delta' _ _ meter' _ (rules_to_next within) h)))

        numbers_by_rule : (o : Option (Rule T)) → lookup (is_at (nat_cmp (get_or found at no_place).rule)) rules.entries ≡ o → IsRuleChangedFrom turn (get_or found at no_place).rule o rules rules' delta' delta'' meter' meter''
            → AreRulesToldTo ((get_or found at no_place).rule + 1) old.entries rules'.entries delta delta''
        numbers_by_rule (Some r) h now =
            subst (λ (es : List (ℕ × Rule T)). AreRulesToldTo ((get_or found at no_place).rule + 1) old.entries es delta delta'') (sym now.1)
            (rules_told_one was.below old.entries rules.entries delta delta' was.numbers (get_or found at no_place).rule r now.0 delta'' below_next was.turned.rising h now.2.numbers)
        numbers_by_rule None h now =
            subst (λ (it : Delta). AreRulesToldTo ((get_or found at no_place).rule + 1) old.entries rules'.entries delta it) (sym now.1)
            (subst (λ (es : List (ℕ × Rule T)). AreRulesToldTo ((get_or found at no_place).rule + 1) old.entries es delta delta') (sym now.0)
            (rules_told_further was.below old.entries rules.entries delta delta' was.numbers ((get_or found at no_place).rule + 1) (let l = below_next in omega (arith, l))))

        pub rules_on : IsRuleChangedAt turn (get_or found at no_place).rule rules rules' delta' delta'' meter' meter'' → AreRulesTurnedTo next old rules' delta delta'' meter meter''
        rules_on now = record {
          below = (get_or found at no_place).rule + 1;
          bound = bound_next;
          turned = by_rule (lookup (is_at (nat_cmp (get_or found at no_place).rule)) rules.entries) refl now;
          numbers = numbers_by_rule (lookup (is_at (nat_cmp (get_or found at no_place).rule)) rules.entries) refl now;
        }
