use Rattle.std.proofs.Common.{◌≡◌, ◌∙◌, List, ℕ, ap, arith, get_or, inl, length, refl, subst, take}
use Rattle.std.proofs.Math.Seq.{take-length}
use Rattle.cb_lookup_node.proofs.Placed.{given_one, none_replaced, one_replaced}
use Rattle.cb_lookup_node.proofs.witnesses.Witnesses.give.Goals as goal
use Rattle.cb_lookup_node.specs.Internal.{AreReplaced, HasWitness}

pub loop-number-init : goal.loop-number-init
loop-number-init c = none_replaced c.args.self.now (HasWitness c.args.witness)

pub add-requires : goal.add-requires
add-requires c = (c.take_out.ensures.here (get_or c.args.numbers.now c.loop-number.number-index 0) (inl refl)).0

pub loop-number-preserved : goal.loop-number-preserved
loop-number-preserved c =
    let w = c.loop-number.self in
    let w₁ = c.take_out.new.self in
    let w' = record w₁ { given = c.add.new.self } in
    let n = get_or c.args.numbers.now c.loop-number.number-index 0 in
    one_replaced c.args.self.now w w' (HasWitness c.args.witness) c.args.numbers.now c.loop-number.number-index (omega arith) c.loop-number.invariant
    (given_one w w₁ w' n c.args.witness c.take_out.ensures c.in_ok-add.ensures.ok refl)

pub returns : goal.returns
returns c =
    let xs = c.args.numbers.now in
    let i = c.loop-number.number-index in
    let end : i ≡ length xs = omega (arith, c.loop-number-test.false, c.loop-number.auto.number-index-end) in
    subst (λ (it : List ℕ). AreReplaced c.args.self.now c.loop-number.self it (HasWitness c.args.witness)) (ap (λ n. take n xs) end ∙ take-length xs) c.loop-number.invariant
