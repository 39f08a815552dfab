use Rattle.std.proofs.Common.{◌≡◌, ◌∙◌, ℕ, List, Some, None, ap, arith, length, refl, sym}
use Rattle.std.specs.BTreeMap.{values}
use Rattle.std.specs.Option.{option_copied}
use Rattle.cb_alpha_network.specs.Networks.{AlphaNetworkValue, use_count}
use Rattle.cb_alpha_network.specs.declared.user.User.{User}
use Rattle.cb_facts.specs.FactLists.{IndexedFacts, fact_at, without_fact}
use Rattle.cb_facts.specs.Facts.{FactValue}
use Rattle.cb_matches.specs.Networks.{Conditions}
use Rattle.cb_nodes.proofs.Facts.{rising_base}
use Rattle.cb_rete.proofs.Bounds.{all_within}
use Rattle.cb_rete.proofs.Ended.{all_ready, delta_after, keeping_after, retract_turning, turn_of}
use Rattle.cb_rete.proofs.Results.{always, if_on, if_on_too, if_one}
use Rattle.cb_rete.proofs.changes.retract_fact.Goals as goal
use Rattle.cb_rete.specs.Changing.{TurnValue}
use Rattle.cb_rete.specs.Rules.{kept_rules}

pub returns : goal.returns
returns g c =
    let fs : IndexedFacts = c.args.facts.now in
    let ix : ℕ = c.args.ix in
    let f : FactValue = c.in-Some.fact.now in
    let v : AlphaNetworkValue = c.retract.new.self in
    let there : fact_at fs ix ≡ Some f = sym c.get.ensures ∙ ap option_copied c.in-Some.is in
    let rising = rising_base fs c.len-count.ensures.base in
    let turn : TurnValue = turn_of v fs (without_fact fs ix) (ix, f) None in
    let turning = retract_turning v fs ix f rising there (c.in_ok-retract.ensures.turn fs c.requires.keeping.alphas rising there) in
    let ready = all_ready c.what_is_kept_stays.ensures c.args.alphas.now v fs (without_fact fs ix) (ix, f) None c.args.rules.now c.in_ok-retract.ensures.changes c.requires.keeping in
    let uses : use_count v ≡ use_count c.args.alphas.now = ap (λ (us : List User). length us) c.in_ok-retract.ensures.changes.users in
    let rs : Conditions = kept_rules (values c.args.rules.now) in
    let within = all_within c.each_pattern_may_be_tested.ensures turn turning.rising turning.rising_now rs in
    record {
      facts = always c.change_facts.result c.remove.ensures.removed;
      rules = if_on c.change_facts.result c.change_facts.ensures.turned (λ delta turned. (turned turn refl turning ready).stay);
      keeping = if_on_too c.change_facts.result c.change_facts.ensures.turned c.change_facts.ensures.count
          (λ delta turned count. keeping_after turn c.change_facts.new.alphas c.args.rules.now c.change_facts.new.rules delta c.args.meter.now c.change_facts.new.meter (turned turn refl turning ready)
          (let most = c.requires.keeping.count in omega (arith, count, uses, most)));
      delta = if_one c.change_facts.result c.change_facts.ensures.turned
          (λ delta turned. delta_after turn c.change_facts.new.alphas c.args.rules.now c.change_facts.new.rules delta c.args.meter.now c.change_facts.new.meter (turned turn refl turning ready));
      numbers = if_one c.change_facts.result c.change_facts.ensures.turned (λ delta turned. (turned turn refl turning ready).numbers);
      probes = if_on c.change_facts.result c.change_facts.ensures.turned
          (λ delta turned. let paid = (turned turn refl turning ready).paid in omega (arith, within, paid));
    }
