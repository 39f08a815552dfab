use Rattle.std.proofs.Common.{◌≡◌, ◌∙◌, List, ℕ, ap, arith, length, subst, take}
use Rattle.std.proofs.Math.Seq.{take-length}
use Rattle.cb_group_node.proofs.Touching.{AreTouched}
use Rattle.cb_token_lists.specs.Partials.{Meets}
use Rattle.cb_group_node.proofs.Touching.{none_touched, more_touched}
use Rattle.cb_group_node.proofs.inside.touch.Goals as goal

pub loop-number-init : goal.loop-number-init
loop-number-init c below = none_touched (λ a i. Meets c.args.lists.now.sources.now c.args.lists.now.lists.now c.args.from a c.args.inner i) c.args.touched.now.items

pub loop-number-preserved : goal.loop-number-preserved
loop-number-preserved c below =
    more_touched (λ a i. Meets c.args.lists.now.sources.now c.args.lists.now.lists.now c.args.from a c.args.inner i) c.args.touched.now.items c.loop-number.touched.items c.touch_one.new.touched.items c.args.numbers.now c.loop-number.number-index (omega arith) (c.loop-number.invariant below) (c.in_ok-touch_one.ensures below)

pub returns : goal.returns
returns c below =
    let xs = c.args.numbers.now in
    let i = c.loop-number.number-index in
    let end : i ≡ length xs = omega (arith, c.loop-number-test.false, c.loop-number.auto.number-index-end) in
    subst (λ (it : List ℕ). AreTouched (λ a i. Meets c.args.lists.now.sources.now c.args.lists.now.lists.now c.args.from a c.args.inner i) it c.args.touched.now.items c.loop-number.touched.items) (ap (λ n. take n xs) end ∙ take-length xs) (c.loop-number.invariant below)
