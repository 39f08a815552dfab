use Rattle.std.proofs.Common.{◌≡◌, ◌∙◌, List, ℕ, None, ap, arith, length, subst, take}
use Rattle.std.proofs.Math.Seq.{take-length}
use Rattle.cb_matches.specs.Chains.{In}
use Rattle.cb_group_node.specs.Internal.{Sets}
use Rattle.cb_group_node.proofs.Filing.{none_set, more_set}
use Rattle.cb_group_node.proofs.marks.remove_all.Goals as goal

pub loop-number-init : goal.loop-number-init
loop-number-init c = none_set c.args.groups.now (λ n. ⊥) None (λ n h. h)

pub loop-number-preserved : goal.loop-number-preserved
loop-number-preserved c =
    more_set c.args.groups.now c.loop-number.groups c.remove.new.self None c.args.numbers.now c.loop-number.number-index (omega arith) c.loop-number.invariant c.remove.ensures

pub returns : goal.returns
returns c =
    let xs = c.args.numbers.now in
    let i = c.loop-number.number-index in
    let end : i ≡ length xs = omega (arith, c.loop-number-test.false, c.loop-number.auto.number-index-end) in
    subst (λ (it : List ℕ). Sets c.args.groups.now c.loop-number.groups (λ n. In n it) None) (ap (λ n. take n xs) end ∙ take-length xs) (c.loop-number.invariant)
