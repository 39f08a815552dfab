use Rattle.std.proofs.Common.{◌≡◌, ◌++◌, ◌∙◌, ap, codes}
use Rattle.std.specs.Fmt.{decimal}
use Rattle.cb_lines.proofs.LineLaws.{added_three}
use Rattle.cb_lines.specs.Lines.{noun_for}
use Rattle.cb_lines.proofs.totals.add_total.Goals as goal

pub returns : goal.returns
returns c =
    let digits : c.as_bytes.result.now ≡ decimal c.args.count = c.as_bytes.ensures.value ∙ c.format.ensures.text in
    let noun : c.noun_for.result.now ≡ noun_for c.args.count c.args.noun = c.noun_for.ensures in
    added_three c.args.lines.now.items _ _ _ (codes "For a total of ") (decimal c.args.count) (noun_for c.args.count c.args.noun)
    c.in_ok-extend_from_slice.ensures.items (c.in_ok-extend_from_slice-2.ensures.items ∙ ap (λ it. c.extend_from_slice.new.self.items ++ it) digits)
    (c.in_ok-extend_from_slice-3.ensures.items ∙ ap (λ it. c.extend_from_slice-2.new.self.items ++ it) noun)
