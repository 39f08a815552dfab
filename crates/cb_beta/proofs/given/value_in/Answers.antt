use Rattle.std.proofs.Common.{◌∙◌, sym}
use Rattle.cb_beta.proofs.Values.{last_gives, others_give}
use Rattle.cb_beta.proofs.given.value_in.Goals as goal

pub returns-then-eq : goal.returns-then-eq
returns-then-eq c =
    last_gives c.args.name.now c.loop-last.left.now c.in-Some.others.now c.in-Some.last.now c.in-Some.ensures.cases (sym c.eq.ensures ∙ c.if-eq.true)
    ∙ c.loop-last.invariant

pub loop-last-preserved : goal.loop-last-preserved
loop-last-preserved c =
    others_give c.args.name.now c.loop-last.left.now c.in-Some.others.now c.in-Some.last.now c.in-Some.ensures.cases (sym c.eq.ensures ∙ c.if-eq.false)
    ∙ c.loop-last.invariant
