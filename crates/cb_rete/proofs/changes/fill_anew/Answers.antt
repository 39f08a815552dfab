use Rattle.std.proofs.Common.{◌≡◌, ◌<◌, ◌∙◌, ◌++◌, ℕ, List, [], ap, arith, length, subst, sym}
use Rattle.std.specs.BTreeMap.{values}
use Rattle.std.specs.Map.{values_of}
use Rattle.cb_alpha_network.specs.Networks.{AlphaNetworkValue, IsShapeAt, MemoryValues, use_count}
use Rattle.cb_alpha_network.specs.declared.user.User.{User}
use Rattle.cb_branch.specs.Branches.{CanBeFilled}
use Rattle.cb_branch.specs.Alphas.{live_facts}
use Rattle.cb_branch.specs.Patterns.{branch_patterns}
use Rattle.cb_constraints.specs.PatternValues.{PatternValue}
use Rattle.cb_facts.specs.FactLists.{IndexedFacts}
use Rattle.cb_matches.specs.Changes.{IsNumber}
use Rattle.cb_rete.proofs.Entered.{entered_in_change}
use Rattle.cb_rete.proofs.Listed.{numbers_listed}
use Rattle.cb_rete.proofs.Numbers.{adds_all, have_weaker}
use Rattle.cb_rete.proofs.Lists.{got_all}
use Rattle.cb_rete.proofs.changes.fill_anew.Goals as goal
use Rattle.cb_rete.specs.Filling.{IsFilling}
use Rattle.cb_rete.specs.Numbers.{IsNumberInRules, kept_numbers}
use Rattle.cb_rete.specs.Rules.{AreRulesEntered, CanRuleBeFilled, kept_rules}
use Rattle.cb_rete.specs.declared.rule.Rule.{Rule}
use Rattle.cb_rule_keys.proofs.Numbered.{in_all, value_in}
use Rattle.cb_rule_keys.specs.Keys.{rule_keys}
use Rattle.cb_rule_keys.specs.Sums.{rules_sum}

pub fill_rules-requires-clause-plans : goal.fill_rules-requires-clause-plans
fill_rules-requires-clause-plans g c =
    let fs : IndexedFacts = c.requires.0 in
    let keeping = c.requires.1 in
    in_all CanRuleBeFilled (values c.args.rules.now)
    (λ r i. let e = value_in c.args.rules.now.entries r i in
    subst CanRuleBeFilled (sym e.2)
    (got_all CanBeFilled e.0.1.branches.items
    (λ n b h. c.what_is_kept_can_be_filled.ensures (live_facts c.args.alphas.now.memories) fs b (keeping.over e.0 e.1 n b h))))

pub returns-clause-keeping : goal.returns-clause-keeping
returns-clause-keeping g c =
    let keeping = c.requires.1 in
    let v : AlphaNetworkValue = c.args.alphas.now in
    let v' : AlphaNetworkValue = c.clear.new.self in
    let clear = c.clear.ensures in
    let is : IsFilling v' [] c.memories.result.now = record {
      memories = c.memories.ensures.memories;
      within = subst (λ (ms : MemoryValues). (n : ℕ) (p : PatternValue) → IsShapeAt v' n p → n < length ms) (sym c.memories.ensures.memories) c.memories.ensures.within;
      rising = tt;
      alphas = clear.alphas;
    } in
    let entered : AreRulesEntered v' c.args.rules.now.entries = λ e i n b h. entered_in_change v v' e.1.id n b clear.shapes clear.users clear.joins (keeping.entered e i n b h) in
    let filled = c.in_ok-fill_rules.ensures.filled v' [] is entered in
    let uses : use_count v' ≡ use_count v = ap (λ (us : List User). length us) clear.users in
    record {
      named = c.in_ok-fill_rules.ensures.named;
      alphas = clear.alphas;
      over = filled.over;
      entered = filled.entered;
      count = let e = ap (rules_sum branch_patterns) c.in_ok-fill_rules.ensures.stay in let most = keeping.count in omega (arith, e, uses, most);
    }

pub returns-clause-come : goal.returns-clause-come
returns-clause-come g c =
    let keeping = c.requires.1 in
    let v : AlphaNetworkValue = c.args.alphas.now in
    let v' : AlphaNetworkValue = c.clear.new.self in
    let clear = c.clear.ensures in
    let is : IsFilling v' [] c.memories.result.now = record {
      memories = c.memories.ensures.memories;
      within = subst (λ (ms : MemoryValues). (n : ℕ) (p : PatternValue) → IsShapeAt v' n p → n < length ms) (sym c.memories.ensures.memories) c.memories.ensures.within;
      rising = tt;
      alphas = clear.alphas;
    } in
    let entered : AreRulesEntered v' c.args.rules.now.entries = λ e i n b h. entered_in_change v v' e.1.id n b clear.shapes clear.users clear.joins (keeping.entered e i n b h) in
    let filled = c.in_ok-fill_rules.ensures.filled v' [] is entered in
    filled.come ∙ ap (λ it. it ++ rule_keys (kept_rules (values c.args.rules.now)) []) c.no_delta-delta.ensures.come

pub returns-clause-numbers : goal.returns-clause-numbers
returns-clause-numbers g c =
    let keeping = c.requires.1 in
    let v : AlphaNetworkValue = c.args.alphas.now in
    let v' : AlphaNetworkValue = c.clear.new.self in
    let clear = c.clear.ensures in
    let is : IsFilling v' [] c.memories.result.now = record {
      memories = c.memories.ensures.memories;
      within = subst (λ (ms : MemoryValues). (n : ℕ) (p : PatternValue) → IsShapeAt v' n p → n < length ms) (sym c.memories.ensures.memories) c.memories.ensures.within;
      rising = tt;
      alphas = clear.alphas;
    } in
    let entered : AreRulesEntered v' c.args.rules.now.entries = λ e i n b h. entered_in_change v v' e.1.id n b clear.shapes clear.users clear.joins (keeping.entered e i n b h) in
    let filled = c.in_ok-fill_rules.ensures.filled v' [] is entered in
    let es' : List (ℕ × Rule g.row.T.Denot) = c.fill_rules.new.rules.entries in
    have_weaker (IsNumberInRules es') (IsNumber (kept_numbers (values_of es'))) (numbers_listed es') c.fill_rules.new.come.items c.fill_rules.new.come_numbers.items
    (adds_all (IsNumberInRules es') c.no_delta-delta.result.come.items c.fill_rules.new.come.items c.no_delta-delta.result.come_numbers.items c.fill_rules.new.come_numbers.items
    c.no_delta-delta.ensures.come c.no_delta-delta.ensures.come_numbers filled.told_numbers)
