use Rattle.std.proofs.Common.{◌≡◌, ◌∙◌, List, ℕ, ap, arith, length, subst, take}
use Rattle.std.proofs.Math.Seq.{take-length}
use Rattle.cb_matches.specs.Chains.{In}
use Rattle.cb_group_node.specs.Internal.{Enters}
use Rattle.cb_token_lists.specs.Partials.{Meets}
use Rattle.cb_group_node.proofs.Filing.{none_enter, more_enter}
use Rattle.cb_group_node.proofs.inside.enter.Goals as goal

pub loop-number-init : goal.loop-number-init
loop-number-init c below = none_enter (λ a i. Meets c.args.lists.now.sources.now c.args.lists.now.lists.now c.args.from a c.args.inner i) c.args.inside.now (λ n. ⊥) (λ n h. h)

pub loop-number-preserved : goal.loop-number-preserved
loop-number-preserved c below =
    more_enter (λ a i. Meets c.args.lists.now.sources.now c.args.lists.now.lists.now c.args.from a c.args.inner i) c.args.inside.now c.loop-number.inside c.enter_one.new.inside c.args.numbers.now c.loop-number.number-index (omega arith) (c.loop-number.invariant below) (c.in_ok-enter_one.ensures below)

pub returns : goal.returns
returns c below =
    let xs = c.args.numbers.now in
    let i = c.loop-number.number-index in
    let end : i ≡ length xs = omega (arith, c.loop-number-test.false, c.loop-number.auto.number-index-end) in
    subst (λ (it : List ℕ). Enters (λ a i. Meets c.args.lists.now.sources.now c.args.lists.now.lists.now c.args.from a c.args.inner i) (λ i. In i it) c.args.inside.now c.loop-number.inside) (ap (λ n. take n xs) end ∙ take-length xs) (c.loop-number.invariant below)
