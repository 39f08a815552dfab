use Rattle.std.proofs.Common.{◌≡◌, ◌<◌, ◌∙◌, ℕ, List, ap, length, subst, sym}
use Rattle.cb_alpha_network.specs.Networks.{AlphaNetworkValue, AlphasTurn, HasChanged, IsShapeAt, MemoryValues, memory_at}
use Rattle.cb_alpha.specs.AlphaMemories.{IsEnded}
use Rattle.cb_alpha_network.specs.declared.node_place.NodePlace.{NodePlace}
use Rattle.cb_constraints.specs.PatternValues.{PatternValue}
use Rattle.cb_branch.specs.Alphas.{live_facts, were_facts}
use Rattle.cb_rete.proofs.Ended.{all_turned}
use Rattle.cb_rete.proofs.Listed.{rules_once}
use Rattle.cb_rete.proofs.Numbers.{IsOnce}
use Rattle.cb_rete.proofs.changes.change_facts.Goals as goal
use Rattle.cb_rete.specs.Changing.{IsTurn}
use Rattle.cb_rete.specs.Numbers.{IsNumberInRules}

pub returns-clause-turned : goal.returns-clause-turned
returns-clause-turned g c =
    λ turn was turning ready.
    let v : AlphaNetworkValue = c.places_changed.new.self in
    let stays : v ≡ c.args.alphas.now = c.in_ok-places_changed.ensures.same in
    let same : turn.network ≡ v = was ∙ sym stays in
    let given : MemoryValues = c.memories.result.now in
    let found : List NodePlace = c.as_slice.result.now in
    let memories : given ≡ v.memories = c.memories.ensures.memories in
    let is : IsTurn turn given found = record {
      turning = turning;
      memories = memories ∙ ap (λ (it : AlphaNetworkValue). it.memories) (sym same);
      within = subst (λ (it : AlphaNetworkValue). (n : ℕ) (p : PatternValue) → IsShapeAt it n p → n < length given) (sym same)
          (subst (λ (ms : MemoryValues). (n : ℕ) (p : PatternValue) → IsShapeAt v n p → n < length ms) (sym memories) c.memories.ensures.within);
      changed = subst (λ (it : AlphaNetworkValue). HasChanged it found) (sym was) (subst (λ (them : List NodePlace). HasChanged c.args.alphas.now them) (sym c.as_slice.ensures.value) c.in_ok-places_changed.ensures.changed);
    } in
    let done = c.in_ok-change_rules.ensures turn is ready in
    let end = c.end_change.ensures in
    let once : IsOnce (IsNumberInRules c.args.rules.now.entries) =
    rules_once c.args.rules.now.entries c.len-count.ensures.ordered ready.named
    (λ e i j b h k m n. c.a_match_has_one_number.ensures (were_facts turn.network.memories) turn.before b e.1.id j k m n (ready.each e i j b h).over) in
    let once_now : IsOnce (IsNumberInRules c.change_rules.new.rules.entries) =
    rules_once c.change_rules.new.rules.entries c.len-changed.ensures.ordered done.named
    (λ e i j b h k m n. c.a_match_has_one_number.ensures (live_facts turn.network.memories) turn.after b e.1.id j k m n (done.done e i j b h).over) in
    all_turned c.what_is_kept_stays.ensures turn c.end_change.new.self c.args.rules.now c.change_rules.new.rules c.no_delta-delta.result c.change_rules.new.delta c.args.meter.now c.change_rules.new.meter
    (end.shapes ∙ ap (λ (it : AlphaNetworkValue). it.shapes) (sym same)) (end.users ∙ ap (λ (it : AlphaNetworkValue). it.users) (sym same))
    (λ n. subst (λ (it : AlphaNetworkValue). IsEnded (memory_at it n) (memory_at c.end_change.new.self n)) (sym same) (end.ended n))
    (end.alphas turn.before turn.after (subst (λ (it : AlphaNetworkValue). AlphasTurn it turn.before turn.after) same turning.alphas))
    c.no_delta-delta.ensures.gone c.no_delta-delta.ensures.come c.no_delta-delta.ensures.gone_numbers c.no_delta-delta.ensures.come_numbers once once_now done
