use Rattle.std.proofs.Common.{◌≡◌, ◌∙◌, ap, arith, length, subst, take}
use Rattle.std.proofs.Math.Seq.{take-length}
use Rattle.cb_beta.proofs.FoundBy.{none_left, one_left}
use Rattle.cb_beta.specs.Internal.{AreLeft}
use Rattle.cb_beta.proofs.filing.leave.Goals as goal

pub loop-number-init : goal.loop-number-init
loop-number-init c = none_left c.args.groups.now

pub loop-number-preserved : goal.loop-number-preserved
loop-number-preserved c =
    one_left c.args.groups.now c.loop-number.groups c.remove.new.self c.args.numbers.now c.loop-number.number-index (omega arith) c.loop-number.invariant c.remove.ensures

pub returns : goal.returns
returns c =
    let ms = c.args.numbers.now in
    let i = c.loop-number.number-index in
    let end : i ≡ length ms = omega (arith, c.loop-number-test.false, c.loop-number.auto.number-index-end) in
    subst (AreLeft c.args.groups.now c.loop-number.groups) (ap (λ n. take n ms) end ∙ take-length ms) c.loop-number.invariant
