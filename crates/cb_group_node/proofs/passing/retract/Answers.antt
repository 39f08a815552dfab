use Rattle.std.proofs.Common.{◌≡◌, ◌∙◌, List, ℕ, ap, arith, length, subst, take}
use Rattle.std.proofs.Math.Seq.{take-length}
use Rattle.cb_matches.specs.Chains.{In}
use Rattle.cb_group_node.specs.Internal.{GroupHolds}
use Rattle.cb_beta.specs.BetaMemories.{Loses}
use Rattle.cb_beta.proofs.Losses.{none_lost}
use Rattle.cb_group_node.proofs.Settled.{more_lost}
use Rattle.cb_group_node.proofs.passing.retract.Goals as goal

pub loop-number-init : goal.loop-number-init
loop-number-init c = none_lost c.args.own.now (λ t. ⊥ × (GroupHolds c.args.positive c.args.inside.now t.parent → ⊥)) (λ t h. h.0)

pub loop-number-preserved : goal.loop-number-preserved
loop-number-preserved c =
    more_lost (λ n. GroupHolds c.args.positive c.args.inside.now n → ⊥) c.args.own.now c.loop-number.own c.retract_one.new.own c.args.numbers.now c.loop-number.number-index (omega arith) c.loop-number.invariant c.in_ok-retract_one.ensures

pub returns : goal.returns
returns c =
    let xs = c.args.numbers.now in
    let i = c.loop-number.number-index in
    let end : i ≡ length xs = omega (arith, c.loop-number-test.false, c.loop-number.auto.number-index-end) in
    subst (λ (it : List ℕ). Loses c.args.own.now c.loop-number.own (λ t. In t.parent it × (GroupHolds c.args.positive c.args.inside.now t.parent → ⊥))) (ap (λ n. take n xs) end ∙ take-length xs) (c.loop-number.invariant)
