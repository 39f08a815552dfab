use Rattle.std.proofs.Common.{◌∙◌, ap, is_gt, sym}
use Rattle.cb_alpha.proofs.Ranges.{last_of, no_last, none_of, none_within}
use Rattle.cb_alpha.specs.Buckets.{IsFiledWith}
use Rattle.cb_alpha.proofs.value_ranges.last_between.Goals as goal

pub returns-then-is_gt : goal.returns-then-is_gt
returns-then-is_gt c vs is =
    let low = c.args.low.now in
    let high = c.args.high.now in
    no_last (IsFiledWith vs) low high (λ ws there w. none_within low high (sym (c.is_gt.ensures ∙ ap is_gt c.cmp.ensures) ∙ c.if-is_gt.true) ws w)

pub returns-in-Some : goal.returns-in-Some
returns-in-Some c vs is = last_of c.args.numbers.now vs is c.args.low.now c.args.high.now c.range.result (c.range.ensures.in_range tt) _ _ c.in-Some.ensures.steps

pub returns-in-None : goal.returns-in-None
returns-in-None c vs is =
    let low = c.args.low.now in
    let high = c.args.high.now in
    no_last (IsFiledWith vs) low high (none_of c.args.numbers.now vs is low high c.range.result (c.range.ensures.in_range tt) c.in-None.ensures.steps.0)
