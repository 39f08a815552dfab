use Rattle.std.proofs.Common.{◌≡◌, ◌∙◌, ◌≤◌, ◌+◌, ◌*◌, ◌⊎◌, List, ℕ, ap, arith, get_or, inl, inr, length, subst, take}
use Rattle.std.proofs.Math.Seq.{take-length}
use Rattle.cb_alpha.specs.AlphaMemories.{live}
use Rattle.cb_join_node.proofs.Refiled.{filed_alike, one_filed}
use Rattle.cb_join_node.proofs.Tokens.{differ_by_number}
use Rattle.cb_join_node.proofs.node.join_come.Goals as goal
use Rattle.cb_join_node.specs.Joins.{Joins, JoinsOne}
use Rattle.cb_join_node.specs.Nodes.{Stays, tests_of}
use Rattle.cb_matches.specs.Chains.{In}
use Rattle.cb_matches.proofs.Lists.{in_at}
use Rattle.cb_token_lists.proofs.Arrivals.{none_come, one_more_comes}
use Rattle.cb_token_lists.specs.Growth.{Comes}
use Rattle.cb_token_lists.specs.Partials.{partial_at}

neither : {A : Type 0} → A ⊎ ⊥ → A
neither (inl a) = a
neither (inr h) = absurd h

none_tested : (t most : ℕ) → t ≤ t + 0 * most
none_tested t most = grind arith

one_more_tested : (t t₁ t₂ i most : ℕ) → t₁ ≤ t + i * most → t₂ ≤ t₁ + most → t₂ ≤ t + (i + 1) * most
one_more_tested t t₁ t₂ i most h k = grind arith

pub loop-number-init : goal.loop-number-init
loop-number-init g c =
    let at = partial_at c.args.lists.now.sources.now c.args.lists.now.lists.now c.args.from in (
      λ before filed.
          filed_alike c.args.asked.now.fields.items c.args.partials.now c.args.strays.now at (Stays before) (λ n. Stays before n ⊎ ⊥) (λ n h. inl h) (λ n h. neither h) filed,
      λ once has fields knows shape.
          none_come c.args.own.now (Joins c.args.asked.now.address c.args.asked.now.pattern (tests_of c.args.asked.now) at (λ n. In n (take 0 c.args.come.now)) (live c.args.alpha.now)) (λ t h. h.1),
      λ most has least. none_tested c.args.meter.now most,
    )

pub loop-number-preserved : goal.loop-number-preserved
loop-number-preserved g c =
    let x = c.args.asked.now.address in
    let p = c.args.asked.now.pattern in
    let ts = tests_of c.args.asked.now in
    let js = c.args.asked.now.fields.items in
    let alpha = c.args.alpha.now in
    let at = partial_at c.args.lists.now.sources.now c.args.lists.now.lists.now c.args.from in
    let xs = c.args.come.now in
    let i = c.loop-number.number-index in
    let n = get_or xs i 0 in
    let inv = c.loop-number.invariant in
    let b = c.loop-number.partials in
    let b' = c.join_partial.new.partials in
    let s = c.loop-number.strays in
    let s' = c.join_partial.new.strays in (
      λ before filed. one_filed js b b' s s' at (Stays before) xs i (omega arith) c.in_ok-join_partial.ensures.filed c.in_ok-join_partial.ensures.others (inv.0 before filed),
      λ once has fields knows shape.
          one_more_comes c.args.own.now c.loop-number.own c.join_partial.new.own (λ (k : ℕ). JoinsOne x p ts (at k) k (live alpha)) (differ_by_number x p ts at (live alpha)) xs i (omega arith) once
          (inv.1 once has fields knows shape)
          (c.in_ok-join_partial.ensures.come has fields (knows n (in_at xs i 0 (omega arith))) shape),
      λ most has least.
          let was = inv.2 most has least in
          let more = c.in_ok-join_partial.ensures.probes most has least in
          one_more_tested c.args.meter.now c.loop-number.meter c.join_partial.new.meter i most was more,
    )

pub returns-clause-come : goal.returns-clause-come
returns-clause-come g c once has fields knows shape =
    let at = partial_at c.args.lists.now.sources.now c.args.lists.now.lists.now c.args.from in
    let xs = c.args.come.now in
    let i = c.loop-number.number-index in
    let end : i ≡ length xs = omega (arith, c.loop-number-test.false, c.loop-number.auto.number-index-end) in
    subst (λ (it : List ℕ). Comes c.args.own.now c.loop-number.own (Joins c.args.asked.now.address c.args.asked.now.pattern (tests_of c.args.asked.now) at (λ n. In n it) (live c.args.alpha.now)))
    (ap (λ n. take n xs) end ∙ take-length xs) (c.loop-number.invariant.1 once has fields knows shape)

pub returns-clause-probes : goal.returns-clause-probes
returns-clause-probes g c most has least =
    let xs = c.args.come.now in
    let i = c.loop-number.number-index in
    let end : i ≡ length xs = omega (arith, c.loop-number-test.false, c.loop-number.auto.number-index-end) in
    subst (λ n. c.loop-number.meter ≤ c.args.meter.now + n * most) end (c.loop-number.invariant.2 most has least)
