use Rattle.std.proofs.Common.{◌≡◌, ◌∙◌, ap, arith, length, subst, take}
use Rattle.std.proofs.Math.Seq.{take-length}
use Rattle.cb_lookup_node.proofs.Refiled.{none_forgotten, one_forgotten}
use Rattle.cb_lookup_node.proofs.filed.forget_all.Goals as goal
use Rattle.cb_lookup_node.specs.Internal.{AreForgotten}

pub loop-number-init : goal.loop-number-init
loop-number-init c = none_forgotten c.args.partials.now

pub loop-number-preserved : goal.loop-number-preserved
loop-number-preserved c =
    one_forgotten c.args.partials.now c.loop-number.partials c.remove.new.self c.args.numbers.now c.loop-number.number-index (omega arith) c.remove.ensures c.loop-number.invariant

pub returns : goal.returns
returns c =
    let xs = c.args.numbers.now in
    let i = c.loop-number.number-index in
    let end : i ≡ length xs = omega (arith, c.loop-number-test.false, c.loop-number.auto.number-index-end) in
    subst (AreForgotten c.args.partials.now c.loop-number.partials) (ap (λ n. take n xs) end ∙ take-length xs) c.loop-number.invariant
