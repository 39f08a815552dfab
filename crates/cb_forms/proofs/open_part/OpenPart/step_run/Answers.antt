use Rattle.std.proofs.Common.{◌+◌, ◌++◌, take, sym, ap, ◌∙◌, arith}
use Rattle.cb_forms.proofs.RunLaws.{passed-both}
use Rattle.cb_forms.proofs.Splits.{take-both}
use Rattle.cb_forms.proofs.open_part.OpenPart.step_run.Goals as goal

pub open-requires-clause-kept : goal.open-requires-clause-kept
open-requires-clause-kept c = (c.pass_gaps-gaps.ensures.passed 0).kept

pub returns : goal.returns
returns c =
    let s = c.args.bytes.now in
    let gaps = c.pass_gaps-gaps.result in
    let more = c.in_ok-more.more in
    record { within = omega (arith, c.pass_gaps-gaps.ensures.within, c.in_ok-more.ensures.within, c.split_at.ensures.back_len); passed = passed-both c.args.limit c.args.self.now.spelled.items (take gaps s) (take more c.split_at.result.1.now) (take (gaps + more) s) c.pass_gaps-gaps.new.self c.open.new.self (c.pass_gaps-gaps.ensures.passed c.args.limit) c.in_ok-more.ensures.passed (take-both gaps more s ∙ ap (λ it. take gaps s ++ take more it) (sym c.split_at.ensures.back)) }
