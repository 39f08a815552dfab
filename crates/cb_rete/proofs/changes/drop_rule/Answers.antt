use Rattle.std.proofs.Common.{◌++◌, ℕ, List, nat_eq, not, ap, subst, sym, ◌∙◌}
use Rattle.std.specs.BTreeMap.{values}
use Rattle.std.specs.List.{filter, flat_map}
use Rattle.std.specs.Map.{values_of}
use Rattle.cb_branch.specs.Alphas.{live_facts}
use Rattle.cb_facts.specs.FactLists.{IndexedFacts}
use Rattle.cb_matches.specs.Chains.{In}
use Rattle.cb_matches.specs.Changes.{IsNumber}
use Rattle.cb_matches.specs.Networks.{Conditions}
use Rattle.cb_nodes.proofs.Facts.{rising_base}
use Rattle.cb_rete.proofs.Listed.{kept_once, numbers_found, numbers_listed}
use Rattle.cb_rete.proofs.MoreNumbers.{numbers_left}
use Rattle.cb_rete.proofs.Numbers.{adds_all, have_nothing, have_weaker}
use Rattle.cb_rete.proofs.changes.drop_rule.Goals as goal
use Rattle.cb_rete.specs.Numbers.{IsNumberInRules, kept_numbers}
use Rattle.cb_rete.specs.Rules.{kept_rule, kept_rules}
use Rattle.cb_rete.specs.declared.rule.Rule.{Rule}
use Rattle.cb_rule_keys.proofs.Answered.{come_is, gone_is}
use Rattle.cb_rule_keys.proofs.Dropped.{dropped, dropped_keys, none_added}
use Rattle.cb_rule_keys.proofs.Numbered.{numbers_own, numbers_rise}

pub returns-clause-keeping : goal.returns-clause-keeping
returns-clause-keeping g c = c.in_ok-drop_numbered.ensures.keeping c.args.facts.now c.requires.keeping

pub returns-clause-delta : goal.returns-clause-delta
returns-clause-delta g c =
    let fs : IndexedFacts = c.args.facts.now in
    let rs : Conditions = kept_rules (values c.args.rules.now) in
    let left : Conditions = filter (λ r. not (nat_eq c.args.id r.0)) rs in
    let numbers = numbers_own rs (numbers_rise kept_rule c.args.rules.now.entries c.requires.keeping.named c.len-rules.ensures.ordered) in
    let gone = c.in_ok-drop_numbered.ensures.gone fs (rising_base fs c.len-count.ensures.base) c.requires.keeping in
    record {
      gone = gone_is rs left fs fs c.drop_numbered.new.gone.items
          (gone ∙ (ap (λ it. it ++ flat_map (dropped c.args.id fs) rs) c.no_delta-delta.ensures.gone ∙ dropped_keys c.args.id fs rs numbers));
      come = come_is rs left fs fs c.no_delta-delta.result.come.items (c.no_delta-delta.ensures.come ∙ none_added c.args.id fs rs);
    }

pub returns-clause-numbers : goal.returns-clause-numbers
returns-clause-numbers g c =
    let fs : IndexedFacts = c.args.facts.now in
    let es : List (ℕ × Rule g.row.T.Denot) = c.args.rules.now.entries in
    let es' : List (ℕ × Rule g.row.T.Denot) = c.drop_numbered.new.rules.entries in
    let keeping = c.requires.keeping in
    let now = c.in_ok-drop_numbered.ensures.keeping fs keeping in
    let facts = live_facts c.args.alphas.now.memories in
    let gone = c.in_ok-drop_numbered.ensures.gone fs (rising_base fs c.len-count.ensures.base) keeping ∙ ap (λ it. it ++ flat_map (dropped c.args.id fs) (kept_rules (values_of es))) c.no_delta-delta.ensures.gone in
    record {
      once = kept_once es c.len-rules.ensures.ordered keeping.named (λ e i j b h k m n. c.a_match_has_one_number.ensures facts fs b e.1.id j k m n (keeping.over e i j b h));
      once_now = kept_once es' c.len-left.ensures.ordered now.named (λ e i j b h k m n. c.a_match_has_one_number.ensures (live_facts c.drop_numbered.new.alphas.memories) fs b e.1.id j k m n (now.over e i j b h));
      gone = have_weaker (IsNumberInRules es) (IsNumber (kept_numbers (values_of es))) (numbers_listed es) c.drop_numbered.new.gone.items c.drop_numbered.new.gone_numbers.items
          (adds_all (IsNumberInRules es) c.no_delta-delta.result.gone.items c.drop_numbered.new.gone.items c.no_delta-delta.result.gone_numbers.items c.drop_numbered.new.gone_numbers.items
          c.no_delta-delta.ensures.gone c.no_delta-delta.ensures.gone_numbers (c.in_ok-drop_numbered.ensures.numbers fs keeping));
      come = have_nothing (IsNumber (kept_numbers (values_of es'))) c.no_delta-delta.result.come.items c.no_delta-delta.result.come_numbers.items c.no_delta-delta.ensures.come c.no_delta-delta.ensures.come_numbers;
      stay = λ k n h absent.
          numbers_listed es' k n
          (numbers_left c.args.id es es' c.in_ok-drop_numbered.ensures.entries keeping.named fs
          (λ e i j b got key m has. c.a_number_is_that_of_a_match.ensures facts fs b e.1.id j key m (rising_base fs c.len-count.ensures.base) (keeping.over e i j b got) has)
          k n (numbers_found es k n h) (λ i. absent (subst (In k) (sym gone) i)));
    }
