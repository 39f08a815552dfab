use Rattle.std.proofs.Common.{ℕ, List}
use Rattle.cb_alpha_network.specs.declared.node_place.NodePlace.{NodePlace}
use Rattle.cb_rete.proofs.Rules.{places_here, rule_ready, rules_none, rules_on, rules_to_end}
use Rattle.cb_rete.proofs.Unconcerned.{rule_unconcerned}
use Rattle.cb_rete.proofs.changing.change_rules.Goals as goal

pub loop-at-init : goal.loop-at-init
loop-at-init g c = λ turn is ready. rules_none turn c.args.found.now c.args.rules.now c.args.delta.now c.args.meter.now c.len-count.ensures.ordered ready

pub loop-at-preserved : goal.loop-at-preserved
loop-at-preserved g c =
    λ turn is ready.
    let given = c.args.setting.now.alphas.now in
    let found : List NodePlace = c.args.found.now in
    let old = c.args.rules.now in
    let rules = c.loop-at.rules in
    let at : ℕ = c.loop-at.at in
    let law = c.what_no_pattern_takes_changes_nothing.ensures in
    let was = c.loop-at.invariant turn is ready in
    let unconcerned = rule_unconcerned c.what_is_kept_stays.ensures law.over law.matches turn given found is in
    let next = c.end_of_rule-end.ensures in
    let of = places_here turn found c.requires unconcerned old rules c.args.delta.now c.loop-at.delta c.args.meter.now c.loop-at.meter at was c.loop-at-test.true c.end_of_rule-end.result next.further next.within next.passed next.stops in
    let step = c.in_ok-change_found.ensures turn is of
    (λ r there. rule_ready turn found c.requires unconcerned old rules c.args.delta.now c.loop-at.delta c.args.meter.now c.loop-at.meter at was c.loop-at-test.true r there) in
    rules_on turn found c.requires unconcerned old rules c.args.delta.now c.loop-at.delta c.args.meter.now c.loop-at.meter at was c.loop-at-test.true c.end_of_rule-end.result next.further next.within next.passed next.stops
    c.change_found.new.rules c.change_found.new.delta c.change_found.new.meter step

pub returns : goal.returns
returns g c =
    λ turn is ready.
    let given = c.args.setting.now.alphas.now in
    let found : List NodePlace = c.args.found.now in
    let law = c.what_no_pattern_takes_changes_nothing.ensures in
    let was = c.loop-at.invariant turn is ready in
    let unconcerned = rule_unconcerned c.what_is_kept_stays.ensures law.over law.matches turn given found is in
    rules_to_end turn found c.requires unconcerned c.args.rules.now c.loop-at.rules c.args.delta.now c.loop-at.delta c.args.meter.now c.loop-at.meter c.loop-at.at was c.loop-at-test.false
