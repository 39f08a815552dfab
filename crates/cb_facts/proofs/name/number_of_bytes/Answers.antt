use Rattle.std.proofs.Common.{◌∙◌, arith}
use Rattle.cb_facts.proofs.ShortNames.{fits, last_joins, of_few, of_many, with_none}
use Rattle.cb_facts.proofs.name.number_of_bytes.Goals as goal

pub returns-then-bytes-gt7 : goal.returns-then-bytes-gt7
returns-then-bytes-gt7 c = of_many c.args.bytes.now c.if-bytes-gt7.true

pub loop-last-init : goal.loop-last-init
loop-last-init c = with_none c.args.bytes.now

pub overflow_mul-number : goal.overflow_mul-number
overflow_mul-number c =
    omega (arith, fits c.args.bytes.now c.loop-last.left.now c.in-Some.others.now c.in-Some.last.now c.loop-last.number (λ i. omega (arith, c.type_inv.bytes i)) c.if-bytes-gt7.false c.in-Some.ensures.cases c.loop-last.invariant)

pub overflow_add-number : goal.overflow_add-number
overflow_add-number c =
    omega (arith, fits c.args.bytes.now c.loop-last.left.now c.in-Some.others.now c.in-Some.last.now c.loop-last.number (λ i. omega (arith, c.type_inv.bytes i)) c.if-bytes-gt7.false c.in-Some.ensures.cases c.loop-last.invariant)

pub loop-last-preserved : goal.loop-last-preserved
loop-last-preserved c =
    last_joins c.loop-last.left.now c.in-Some.others.now c.in-Some.last.now c.loop-last.number c.in-Some.ensures.cases ∙ c.loop-last.invariant

pub returns : goal.returns
returns c = of_few c.args.bytes.now c.loop-last.left.now c.loop-last.number (λ i. omega (arith, c.type_inv.bytes i)) c.if-bytes-gt7.false c.in_default.ensures.cases c.loop-last.invariant
