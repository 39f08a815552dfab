use Rattle.std.proofs.Common.{◌≡◌, ◌≤◌, ℕ, List, Some, ap, arith, length, refl}
use Rattle.std.specs.BTreeMap.{values}
use Rattle.cb_alpha_network.specs.Networks.{AlphaNetworkValue, use_count}
use Rattle.cb_alpha_network.specs.declared.user.User.{User}
use Rattle.cb_branch.specs.Patterns.{branch_patterns}
use Rattle.cb_facts.specs.FactLists.{IndexedFacts, with_fact}
use Rattle.cb_facts.specs.Facts.{FactValue}
use Rattle.cb_matches.specs.Networks.{Conditions}
use Rattle.cb_nodes.proofs.Facts.{rising_base}
use Rattle.cb_rete.proofs.Bounds.{all_within}
use Rattle.cb_rete.proofs.Ended.{all_ready, assert_turning, delta_after, keeping_after, no_fact, turn_of}
use Rattle.cb_rete.proofs.Results.{always, if_on, if_on_too, if_one}
use Rattle.cb_rete.proofs.changes.assert_fact.Goals as goal
use Rattle.cb_rete.specs.Changing.{TurnValue}
use Rattle.cb_rete.specs.Rules.{kept_rules}
use Rattle.cb_rule_keys.specs.Sums.{rules_sum}

pub assert-requires-clause-free : goal.assert-requires-clause-free
assert-requires-clause-free g c = no_fact c.args.alphas.now c.args.facts.now c.args.ix c.args.fact c.requires.keeping.alphas c.requires.free

pub returns : goal.returns
returns g c =
    let fs : IndexedFacts = c.args.facts.now in
    let ix : ℕ = c.args.ix in
    let f : FactValue = c.args.fact in
    let v : AlphaNetworkValue = c.assert.new.self in
    let turn : TurnValue = turn_of v fs (with_fact fs ix f) (ix, f) (Some f) in
    let turning = assert_turning v fs ix f (rising_base fs c.len-count.ensures.base) c.requires.free (c.in_ok-assert.ensures.turn fs c.requires.keeping.alphas c.requires.free) in
    let ready = all_ready c.what_is_kept_stays.ensures c.args.alphas.now v fs (with_fact fs ix f) (ix, f) (Some f) c.args.rules.now c.in_ok-assert.ensures.changes c.requires.keeping in
    let uses : use_count v ≡ use_count c.args.alphas.now = ap (λ (us : List User). length us) c.in_ok-assert.ensures.changes.users in
    let rs : Conditions = kept_rules (values c.args.rules.now) in
    let most : use_count c.args.alphas.now ≤ rules_sum branch_patterns rs = c.requires.keeping.count in
    let few = c.assert.ensures.probes in
    let within = all_within c.each_pattern_may_be_tested.ensures turn turning.rising turning.rising_now rs in
    record {
      facts = always c.change_facts.result c.in_ok-add.ensures.ok;
      rules = if_on c.change_facts.result c.change_facts.ensures.turned (λ delta turned. (turned turn refl turning ready).stay);
      keeping = if_on_too c.change_facts.result c.change_facts.ensures.turned c.change_facts.ensures.count
          (λ delta turned count. keeping_after turn c.change_facts.new.alphas c.args.rules.now c.change_facts.new.rules delta c.assert.new.meter c.change_facts.new.meter (turned turn refl turning ready)
          (let most = c.requires.keeping.count in omega (arith, count, uses, most)));
      delta = if_one c.change_facts.result c.change_facts.ensures.turned
          (λ delta turned. delta_after turn c.change_facts.new.alphas c.args.rules.now c.change_facts.new.rules delta c.assert.new.meter c.change_facts.new.meter (turned turn refl turning ready));
      numbers = if_one c.change_facts.result c.change_facts.ensures.turned (λ delta turned. (turned turn refl turning ready).numbers);
      probes = if_on c.change_facts.result c.change_facts.ensures.turned
          (λ delta turned. let paid = (turned turn refl turning ready).paid in omega (arith, most, few, within, paid));
    }
