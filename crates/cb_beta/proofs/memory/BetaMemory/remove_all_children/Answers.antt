use Rattle.std.proofs.Common.{◌≡◌, ◌∙◌, List, ℕ, ap, arith, length, subst, take}
use Rattle.std.proofs.Math.Seq.{take-length}
use Rattle.cb_beta.proofs.Losses.{none_lost, one_more}
use Rattle.cb_beta.specs.BetaMemories.{Loses}
use Rattle.cb_beta.proofs.memory.BetaMemory.remove_all_children.Goals as goal
use Rattle.cb_matches.specs.Chains.{In}

pub loop-parent-init : goal.loop-parent-init
loop-parent-init c = none_lost c.args.self.now (λ t. ⊥) (λ t h. h)

pub loop-parent-preserved : goal.loop-parent-preserved
loop-parent-preserved c =
    one_more c.args.self.now c.loop-parent.self c.remove_children.new.self c.args.parents.now c.loop-parent.parent-index (omega arith) c.loop-parent.invariant c.in_ok-remove_children.ensures.ok

pub returns : goal.returns
returns c =
    let ms = c.args.parents.now in
    let i = c.loop-parent.parent-index in
    let end : i ≡ length ms = omega (arith, c.loop-parent-test.false, c.loop-parent.auto.parent-index-end) in
    subst (λ (it : List ℕ). Loses c.args.self.now c.loop-parent.self (λ t. In t.parent it)) (ap (λ n. take n ms) end ∙ take-length ms) c.loop-parent.invariant
