use Rattle.std.proofs.Common.{◌≡◌, ◌∙◌, ◌++◌, ◌∷◌, ℕ, [], ap, rules}
use Rattle.std.specs.BTreeMap.{BTreeMap, values}
use Rattle.cb_rete.proofs.FilledRules.{fill_none, fill_one, filled_all, move_none, move_one}
use Rattle.cb_rete.proofs.filling.fill_rules.Goals as goal
use Rattle.cb_rete.specs.Rules.{kept_rules}
use Rattle.cb_rete.specs.declared.rule.Rule.{Rule}
use Rattle.cb_rule_keys.specs.Keys.{rule_keys}

pub loop-id-init : goal.loop-id-init
loop-id-init g c =
    let rules = c.args.rules.now in
    let all : c.into_iter-id-iterator.result ≡ rules.entries = c.into_iter-id-iterator.ensures.into_iter_gives.0 ∙ ap (λ (it : BTreeMap ℕ (Rule g.row.T.Denot)). it.entries) c.replace-id-items.ensures.value in
    let none : c.new-filled.result.entries ≡ [] = c.new-filled.ensures.empty in
    record {
      moved = move_none rules.entries c.into_iter-id-iterator.result c.new-filled.result.entries all none c.requires.named c.len-count.ensures.ordered c.requires.plans;
      filled = λ v fs is entered. fill_none v fs rules.entries c.into_iter-id-iterator.result c.new-filled.result.entries c.args.come.now.items c.args.come_numbers.now.items all none entered;
    }

pub loop-id-preserved : goal.loop-id-preserved
loop-id-preserved g c =
    let now = c.in_ok-fill_rule.ensures in
    let rs = kept_rules (values c.args.rules.now) in
    let was = c.loop-id.invariant in
    let cut : c.loop-id.id-iterator ≡ (c.in-Some.id, c.in-Some.rule) ∷ c.next.new.self = search rules in
    let put = c.in_ok-insert.ensures.entries in
    record {
      moved = move_one rs c.loop-id.filled.entries c.insert.new.self.entries c.loop-id.id-iterator c.next.new.self c.in-Some.id c.in-Some.rule c.fill_rule.new.rule cut put now.stay was.moved;
      filled = λ v fs is entered.
          fill_one rs c.loop-id.filled.entries c.insert.new.self.entries c.loop-id.id-iterator c.next.new.self c.in-Some.id c.in-Some.rule c.fill_rule.new.rule cut put now.stay was.moved v fs
          (c.args.come.now.items ++ rule_keys rs fs) c.args.come.now.items c.loop-id.come.items c.fill_rule.new.come.items c.args.come_numbers.now.items c.loop-id.come_numbers.items c.fill_rule.new.come_numbers.items (λ before. now.filled v fs is before) (was.filled v fs is entered);
    }

pub loop-id-preserved-in_ok-insert : goal.loop-id-preserved-in_ok-insert
loop-id-preserved-in_ok-insert g c =
    let now = c.in_ok-fill_rule.ensures in
    let rs = kept_rules (values c.args.rules.now) in
    let was = c.loop-id.invariant in
    let cut : c.loop-id.id-iterator ≡ (c.in-Some.id, c.in-Some.rule) ∷ c.next.new.self = search rules in
    let put = c.in_ok-insert.ensures.entries in
    record {
      moved = move_one rs c.loop-id.filled.entries c.insert.new.self.entries c.loop-id.id-iterator c.next.new.self c.in-Some.id c.in-Some.rule c.fill_rule.new.rule cut put now.stay was.moved;
      filled = λ v fs is entered.
          fill_one rs c.loop-id.filled.entries c.insert.new.self.entries c.loop-id.id-iterator c.next.new.self c.in-Some.id c.in-Some.rule c.fill_rule.new.rule cut put now.stay was.moved v fs
          (c.args.come.now.items ++ rule_keys rs fs) c.args.come.now.items c.loop-id.come.items c.fill_rule.new.come.items c.args.come_numbers.now.items c.loop-id.come_numbers.items c.fill_rule.new.come_numbers.items (λ before. now.filled v fs is before) (was.filled v fs is entered);
    }

pub returns-clause-filled : goal.returns-clause-filled
returns-clause-filled g c =
    λ v fs is entered.
    let none : c.loop-id.id-iterator ≡ [] = search rules in
    let was = c.loop-id.invariant.filled v fs is entered in
    record {
      over = λ e i. (was.done e i).over;
      entered = λ e i. (was.done e i).entered;
      come = filled_all v fs (c.args.come.now.items ++ rule_keys (kept_rules (values c.args.rules.now)) fs) c.args.come.now.items c.loop-id.come.items c.args.come_numbers.now.items c.loop-id.come_numbers.items c.loop-id.filled.entries c.loop-id.id-iterator none was;
      told_numbers = was.told_numbers;
    }
