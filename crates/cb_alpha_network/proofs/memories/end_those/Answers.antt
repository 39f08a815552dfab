use Rattle.std.proofs.Common.{◌≡◌, ◌∙◌, List, ℕ, ap, arith, length, rules, subst, take}
use Rattle.std.proofs.Math.Seq.{take-length}
use Rattle.cb_alpha_network.proofs.OneByOne.{AreEnded, none_ended, one_ended}
use Rattle.cb_alpha_network.proofs.memories.end_those.Goals as goal

pub loop-number-init : goal.loop-number-init
loop-number-init c = record { ended = none_ended c.args.all.now.items; long = search rules }

pub loop-number-preserved : goal.loop-number-preserved
loop-number-preserved c = record {
  ended = one_ended c.args.numbers.now c.loop-number.number-index (omega arith) c.args.all.now.items c.loop-number.all.items c.end_at.new.all.items
      c.loop-number.invariant.ended c.end_at.ensures.at c.end_at.ensures.others;
  long = c.end_at.ensures.long ∙ c.loop-number.invariant.long;
}

pub returns : goal.returns
returns c =
    let ns = c.args.numbers.now in
    let i = c.loop-number.number-index in
    let end : i ≡ length ns = omega (arith, c.loop-number-test.false, c.loop-number.auto.number-index-end) in
    let are = subst (λ (it : List ℕ). AreEnded it c.args.all.now.items c.loop-number.all.items) (ap (λ n. take n ns) end ∙ take-length ns) c.loop-number.invariant.ended in
    record { ended = are.ended; others = are.others; long = c.loop-number.invariant.long }
