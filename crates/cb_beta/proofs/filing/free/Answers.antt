use Rattle.std.proofs.Common.{◌≡◌, ◌∙◌, ap, arith, length, subst, take}
use Rattle.std.proofs.Math.Seq.{take-length}
use Rattle.cb_beta.proofs.FoundBy.{one_freed}
use Rattle.cb_beta.specs.BetaMemories.{live_in}
use Rattle.cb_beta.specs.Tokens.{token_at}
use Rattle.cb_beta.proofs.filing.free.Goals as goal

pub loop-number-preserved : goal.loop-number-preserved
loop-number-preserved c =
    one_freed c.args.tokens.now.slots c.loop-number.tokens.slots c.try_remove.new.self.slots c.args.numbers.now c.loop-number.number-index (omega arith) c.loop-number.invariant
    c.try_remove.ensures.updates.changed c.try_remove.ensures.updates.others

pub returns : goal.returns
returns c i =
    let ms = c.args.numbers.now in
    let k = c.loop-number.number-index in
    let end : k ≡ length ms = omega (arith, c.loop-number-test.false, c.loop-number.auto.number-index-end) in
    subst (λ it. token_at c.loop-number.tokens.slots i ≡ live_in c.args.tokens.now.slots it i) (ap (λ n. take n ms) end ∙ take-length ms) (c.loop-number.invariant i)
