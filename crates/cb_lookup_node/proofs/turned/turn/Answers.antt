use Rattle.std.proofs.Common.{◌≡◌, ◌≢◌, ◌↔◌, ℕ, List, None, Some, rules, subst, sym}
use Rattle.cb_beta.proofs.Losses.{on_ok}
use Rattle.cb_lookup_node.proofs.turned.turn.Goals as goal
use Rattle.cb_lookup_node.specs.Internal.{Asks, HasTurned, IsFiledBy, IsGained, IsLost}
use Rattle.cb_matches.specs.Chains.{Chain, In}

pub returns-in-None-clause-turned : goal.returns-in-None-clause-turned
returns-in-None-clause-turned c =
    let alpha = c.args.alpha.now in
    let plain : c.args.comparison ≡ None = search rules in
    on_ok c.pass_turned.result
    (λ passed fields asks.
    let p = passed c.losing-lost.ensures.once c.gaining-gained.ensures.once in
    subst (λ it. HasTurned c.args.positive it fields alpha c.args.partials.now c.args.own.now c.pass_turned.new.own) (sym plain)
    (record {
      lost = c.losing-lost.result.now;
      gained = c.gaining-gained.result.now;
      between = p.0;
      losing = c.losing-lost.ensures.are fields asks.has_join asks.apart asks.went;
      gaining = c.gaining-gained.ensures.are fields asks.has_join asks.apart asks.went asks.came;
      goes = p.1;
      comes = p.2;
    }))
    c.pass_turned.ensures.passed

pub returns-in_ok-gained-in-Some-clause-turned : goal.returns-in_ok-gained-in-Some-clause-turned
returns-in_ok-gained-in-Some-clause-turned c =
    let alpha = c.args.alpha.now in
    let me = c.in-Some.comparison in
    let filing = c.args.partials.now in
    let compare : c.args.comparison ≡ Some me = search rules in
    let lost : c.as_slice.result.now ≡ c.in_ok-lost-in-Some.lost.items = c.as_slice.ensures.value in
    let gained : c.as_slice-in-Some.result.now ≡ c.in_ok-gained-in-Some.gained.items = c.as_slice-in-Some.ensures.value in
    on_ok c.pass_turned-in-Some.result
    (λ passed fields asked.
    let asks = subst (λ it. Asks it fields alpha c.args.join filing c.args.went.now c.args.came.now) compare asked in
    let p = passed (subst (Chain (λ (i : ℕ) (j : ℕ). i ≢ j)) (sym lost) c.in_ok-lost-in-Some.ensures.once) (subst (Chain (λ (i : ℕ) (j : ℕ). i ≢ j)) (sym gained) c.in_ok-gained-in-Some.ensures.once) in
    subst (λ it. HasTurned c.args.positive it fields alpha filing c.args.own.now c.pass_turned-in-Some.new.own) (sym compare)
    (record {
      lost = c.as_slice.result.now;
      gained = c.as_slice-in-Some.result.now;
      between = p.0;
      losing = λ n. subst (λ (it : List ℕ). In n it ↔ IsFiledBy (IsLost (Some me) fields alpha) filing n) (sym lost) (c.in_ok-lost-in-Some.ensures.are fields c.args.came.now asks n);
      gaining = λ n. subst (λ (it : List ℕ). In n it ↔ IsFiledBy (IsGained (Some me) fields alpha) filing n) (sym gained) (c.in_ok-gained-in-Some.ensures.are fields c.args.went.now asks n);
      goes = p.1;
      comes = p.2;
    }))
    c.pass_turned-in-Some.ensures.passed
