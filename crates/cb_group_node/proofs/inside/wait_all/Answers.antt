use Rattle.std.proofs.Common.{◌≡◌, ◌∙◌, List, ℕ, Some, ap, arith, length, subst, take}
use Rattle.std.proofs.Math.Seq.{take-length}
use Rattle.cb_matches.specs.Chains.{In}
use Rattle.cb_group_node.specs.Internal.{GroupHolds, Sets}
use Rattle.cb_group_node.proofs.Filing.{none_set, more_set_of}
use Rattle.cb_group_node.proofs.inside.wait_all.Goals as goal

pub loop-number-init : goal.loop-number-init
loop-number-init c = none_set c.args.waiting.now (λ n. ⊥ × (GroupHolds c.args.positive c.args.inside.now n → ⊥)) (Some 0) (λ n h. h.0)

pub loop-number-preserved : goal.loop-number-preserved
loop-number-preserved c =
    more_set_of (λ n. GroupHolds c.args.positive c.args.inside.now n → ⊥) c.args.waiting.now c.loop-number.waiting c.wait_one.new.waiting (Some 0) c.args.numbers.now c.loop-number.number-index (omega arith) c.loop-number.invariant c.in_ok-wait_one.ensures

pub returns : goal.returns
returns c =
    let xs = c.args.numbers.now in
    let i = c.loop-number.number-index in
    let end : i ≡ length xs = omega (arith, c.loop-number-test.false, c.loop-number.auto.number-index-end) in
    subst (λ (it : List ℕ). Sets c.args.waiting.now c.loop-number.waiting (λ n. In n it × (GroupHolds c.args.positive c.args.inside.now n → ⊥)) (Some 0)) (ap (λ n. take n xs) end ∙ take-length xs) (c.loop-number.invariant)
