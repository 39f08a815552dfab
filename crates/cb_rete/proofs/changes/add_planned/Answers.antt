use Rattle.std.proofs.Common.{◌≡◌, ◌<◌, ◌∙◌, ◌++◌, ◌∷◌, ℕ, List, [], ap, length, subst, sym}
use Rattle.std.specs.BTreeMap.{values}
use Rattle.std.specs.Map.{values_of}
use Rattle.cb_alpha_network.specs.Networks.{AlphaNetworkValue, AreAlphas, IsShapeAt, MemoryValues}
use Rattle.cb_branch.specs.Alphas.{live_facts}
use Rattle.cb_constraints.specs.PatternValues.{PatternValue}
use Rattle.cb_facts.specs.FactLists.{IndexedFacts}
use Rattle.cb_matches.specs.Changes.{IsNumber}
use Rattle.cb_matches.specs.Networks.{Conditions}
use Rattle.cb_matches.specs.Order.{IsRising}
use Rattle.cb_nodes.proofs.Facts.{rising_base}
use Rattle.cb_rete.proofs.Adding.{keeping_with, kept_with, last}
use Rattle.cb_rete.proofs.Listed.{kept_once, numbers_found, numbers_listed}
use Rattle.cb_rete.proofs.MoreNumbers.{numbers_of_last, numbers_with}
use Rattle.cb_rete.proofs.Numbers.{Implies, adds_all, have_nothing, have_weaker}
use Rattle.cb_rete.proofs.changes.add_planned.Goals as goal
use Rattle.cb_rete.specs.Filling.{IsFilling}
use Rattle.cb_rete.specs.Numbers.{IsNumberInBranches, kept_numbers}
use Rattle.cb_rete.specs.Rules.{AreBranchesEntered, AreBranchesOver, IsKeeping, kept_rule, kept_rules}
use Rattle.cb_rete.specs.declared.rule.Rule.{Rule}
use Rattle.cb_rule_keys.proofs.Answered.{come_is, gone_is}
use Rattle.cb_rule_keys.proofs.Dropped.{added_keys, none_dropped}
use Rattle.cb_rule_keys.specs.Keys.{branch_keys}
use Rattle.cb_rules.specs.Elements.{Elements}

-- these memories are those of the network, over its facts
filling : (v : AlphaNetworkValue) (given : MemoryValues) (fs : IndexedFacts) → given ≡ v.memories → ((n : ℕ) (p : PatternValue) → IsShapeAt v n p → n < length v.memories)
    → IsRising fs → AreAlphas v fs → IsFilling v fs given
filling v given fs is within rising alphas = record {
  memories = is;
  within = subst (λ (ms : MemoryValues). (n : ℕ) (p : PatternValue) → IsShapeAt v n p → n < length ms) (sym is) within;
  rising = rising;
  alphas = alphas;
}

pub returns-clause-rules : goal.returns-clause-rules
returns-clause-rules g c =
    let new : Rule g.row.T.Denot = c.fill_rule.new.rule in
    kept_with c.args.rules.now c.insert.new.self c.args.rule new (c.in_ok-fill_rule.ensures.stay ∙ c.in_ok-enter_rule.ensures.stay) c.requires.above c.in_ok-insert.ensures.entries
    c.args.alphas.now c.enter_rule.new.network c.args.facts.now c.requires.keeping

pub returns-clause-keeping : goal.returns-clause-keeping
returns-clause-keeping g c =
    let fs : IndexedFacts = c.args.facts.now in
    let v' : AlphaNetworkValue = c.enter_rule.new.network in
    let entered : Rule g.row.T.Denot = c.enter_rule.new.rule in
    let new : Rule g.row.T.Denot = c.fill_rule.new.rule in
    let in_network = c.in_ok-enter_rule.ensures in
    let alphas = in_network.network.alphas c.requires.keeping.alphas in
    let filled = c.in_ok-fill_rule.ensures.filled v' fs (filling v' c.memories.result.now fs c.memories.ensures.memories c.memories.ensures.within (rising_base fs c.len-count.ensures.base) alphas) in_network.entered in
    let number : new.id ≡ entered.id = ap (λ (q : ℕ × List Elements). q.0) c.in_ok-fill_rule.ensures.stay in
    keeping_with c.args.rules.now c.insert.new.self c.args.rule new (c.in_ok-fill_rule.ensures.stay ∙ in_network.stay) c.requires.above c.in_ok-insert.ensures.entries
    c.args.alphas.now v' fs c.requires.keeping c.what_is_kept_stays.ensures in_network.network filled.over
    (subst (λ n. AreBranchesEntered v' n new.branches.items) (sym number) filled.entered)

pub returns-clause-delta : goal.returns-clause-delta
returns-clause-delta g c =
    let fs : IndexedFacts = c.args.facts.now in
    let rs : Conditions = kept_rules (values c.args.rules.now) in
    let r : ℕ × List Elements = kept_rule c.args.rule in
    let v' : AlphaNetworkValue = c.enter_rule.new.network in
    let in_network = c.in_ok-enter_rule.ensures in
    let alphas = in_network.network.alphas c.requires.keeping.alphas in
    let filled = c.in_ok-fill_rule.ensures.filled v' fs (filling v' c.memories.result.now fs c.memories.ensures.memories c.memories.ensures.within (rising_base fs c.len-count.ensures.base) alphas) in_network.entered in
    let told = filled.come ∙ ap (λ (q : ℕ × List Elements). c.no_delta-delta.result.come.items ++ branch_keys q.0 0 q.1 fs) in_network.stay in
    let come = told ∙ (ap (λ it. it ++ branch_keys r.0 0 r.1 fs) c.no_delta-delta.ensures.come ∙ added_keys rs r fs c.requires.above) in
    record {
      gone = gone_is rs (rs ++ r ∷ []) fs fs c.no_delta-delta.result.gone.items (c.no_delta-delta.ensures.gone ∙ none_dropped rs r fs);
      come = come_is rs (rs ++ r ∷ []) fs fs c.fill_rule.new.come.items come;
    }

pub returns-clause-numbers : goal.returns-clause-numbers
returns-clause-numbers g c =
    let fs : IndexedFacts = c.args.facts.now in
    let v' : AlphaNetworkValue = c.enter_rule.new.network in
    let new : Rule g.row.T.Denot = c.fill_rule.new.rule in
    let es : List (ℕ × Rule g.row.T.Denot) = c.args.rules.now.entries in
    let es' : List (ℕ × Rule g.row.T.Denot) = c.insert.new.self.entries in
    let in_network = c.in_ok-enter_rule.ensures in
    let alphas = in_network.network.alphas c.requires.keeping.alphas in
    let filled = c.in_ok-fill_rule.ensures.filled v' fs (filling v' c.memories.result.now fs c.memories.ensures.memories c.memories.ensures.within (rising_base fs c.len-count.ensures.base) alphas) in_network.entered in
    let number : new.id ≡ c.enter_rule.new.rule.id = ap (λ (q : ℕ × List Elements). q.0) c.in_ok-fill_rule.ensures.stay in
    let at_end : es' ≡ es ++ (new.id, new) ∷ [] =
    last c.args.rules.now c.insert.new.self c.args.rule new (c.in_ok-fill_rule.ensures.stay ∙ in_network.stay) c.requires.above c.in_ok-insert.ensures.entries c.args.alphas.now v' fs c.requires.keeping in
    let now : IsKeeping v' fs c.insert.new.self = returns-clause-keeping g c in
    let own : Implies (IsNumberInBranches c.enter_rule.new.rule.id new.branches.items) (IsNumber (kept_numbers (values_of es'))) =
    (λ k n h. numbers_listed es' k n (numbers_of_last new.id new es es' at_end k n (subst (λ (m : ℕ). IsNumberInBranches m new.branches.items k n) (sym number) h))) in
    record {
      once = kept_once es c.len-rules.ensures.ordered c.requires.keeping.named
          (λ e i j b h k m n. c.a_match_has_one_number.ensures (live_facts c.args.alphas.now.memories) fs b e.1.id j k m n (c.requires.keeping.over e i j b h));
      once_now = kept_once es' c.len-with.ensures.ordered now.named (λ e i j b h k m n. c.a_match_has_one_number.ensures (live_facts v'.memories) fs b e.1.id j k m n (now.over e i j b h));
      gone = have_nothing (IsNumber (kept_numbers (values_of es))) c.no_delta-delta.result.gone.items c.no_delta-delta.result.gone_numbers.items c.no_delta-delta.ensures.gone c.no_delta-delta.ensures.gone_numbers;
      come = have_weaker (IsNumberInBranches c.enter_rule.new.rule.id new.branches.items) (IsNumber (kept_numbers (values_of es'))) own c.fill_rule.new.come.items c.fill_rule.new.come_numbers.items
          (adds_all (IsNumberInBranches c.enter_rule.new.rule.id new.branches.items) c.no_delta-delta.result.come.items c.fill_rule.new.come.items c.no_delta-delta.result.come_numbers.items c.fill_rule.new.come_numbers.items
          c.no_delta-delta.ensures.come c.no_delta-delta.ensures.come_numbers filled.told_numbers);
      stay = λ k n h absent. numbers_listed es' k n (numbers_with new.id new es es' at_end k n (numbers_found es k n h));
    }
