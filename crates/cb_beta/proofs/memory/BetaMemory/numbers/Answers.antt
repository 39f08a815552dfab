use Rattle.std.proofs.Common.{◌≡◌, ◌∙◌, ◌+◌, ◌≤◌, List, ℕ, ap, arith, length, subst, sym}
use Rattle.cb_beta.proofs.LiveNumbers.{all_there, none_there, one_there}
use Rattle.cb_beta.specs.BetaMemories.{BetaMemoryValue}
use Rattle.cb_beta.specs.Internal.{AreLiveBelow}
use Rattle.cb_beta.proofs.memory.BetaMemory.numbers.Goals as goal
use Rattle.cb_beta.proofs.memory.BetaMemory.numbers.Goals.{then-is_there+in_ok-push, else-is_there}

pub loop-number-preserved : goal.loop-number-preserved
loop-number-preserved c =
    let m = c.args.self.now in
    let n = c.loop-number.number in
    let ns = c.loop-number.all.items in
    elim c.if-is_there.branch [
      | then-is_there+in_ok-push w ↦
          subst (λ (it : List ℕ). AreLiveBelow m (n + 1) it) (sym (ap (λ it. it.items) w.all-is ∙ w.in_ok-push.ensures.items))
          (one_there m n ns c.loop-number.invariant (sym c.is_there.ensures ∙ w.if-is_there.true))
      | else-is_there w ↦
          subst (λ (it : List ℕ). AreLiveBelow m (n + 1) it) (sym (ap (λ it. it.items) w.all-is))
          (none_there m n ns c.loop-number.invariant (sym c.is_there.ensures ∙ w.if-is_there.false))
    ]

pub returns : goal.returns
returns c =
    let tokens = c.self.inside.tokens.slots in
    let same : c.args.self.now.tokens ≡ tokens = ap (λ (it : BetaMemoryValue). it.tokens) (sym c.self.view_is) in
    let end : length tokens ≤ c.loop-number.number = omega (arith, c.loop-number-test.false, c.capacity.ensures.slots) in
    all_there c.args.self.now c.loop-number.number c.loop-number.all.items c.loop-number.invariant
    (subst (λ ts. length ts ≤ c.loop-number.number) (sym same) end)
