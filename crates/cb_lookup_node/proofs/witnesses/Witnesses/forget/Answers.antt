use Rattle.std.proofs.Common.{◌≡◌, ◌∙◌, List, ℕ, ap, arith, length, subst, take}
use Rattle.std.proofs.Math.Seq.{take-length}
use Rattle.cb_lookup_node.proofs.Placed.{none_replaced, one_replaced}
use Rattle.cb_lookup_node.proofs.witnesses.Witnesses.forget.Goals as goal
use Rattle.cb_lookup_node.specs.Internal.{AreReplaced, IsOut}

pub loop-number-init : goal.loop-number-init
loop-number-init c = none_replaced c.args.self.now IsOut

pub loop-number-preserved : goal.loop-number-preserved
loop-number-preserved c =
    one_replaced c.args.self.now c.loop-number.self c.take_out.new.self IsOut c.args.numbers.now c.loop-number.number-index (omega arith) c.loop-number.invariant c.take_out.ensures

pub returns : goal.returns
returns c =
    let xs = c.args.numbers.now in
    let i = c.loop-number.number-index in
    let end : i ≡ length xs = omega (arith, c.loop-number-test.false, c.loop-number.auto.number-index-end) in
    subst (λ (it : List ℕ). AreReplaced c.args.self.now c.loop-number.self it IsOut) (ap (λ n. take n xs) end ∙ take-length xs) c.loop-number.invariant
