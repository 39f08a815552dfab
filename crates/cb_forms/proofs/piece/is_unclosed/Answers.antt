use Rattle.std.proofs.Common.{◌+◌, sym, ap, ◌∙◌, drop}
use Rattle.cb_forms.proofs.PieceLaws.{unclosed_from, unclosed-escaped, unclosed-more}
use Rattle.cb_forms.proofs.piece.is_unclosed.Goals as goal
use Rattle.cb_forms.proofs.piece.is_unclosed.Goals.{then-escaped, else-escaped+else-byte-eq34}

pub loop-byte-preserved : goal.loop-byte-preserved
loop-byte-preserved c =
    let s = c.args.body.now in
    let i = c.loop-byte.byte-index in
    elim c.if-escaped.branch [
      | then-escaped w ↦ ap (λ e. unclosed_from e (drop (i + 1) s)) w.escaped-is ∙ (sym (unclosed-escaped s i c.loop-byte.escaped c.loop-byte-test.true w.if-escaped.true) ∙ c.loop-byte.invariant)
      | else-escaped+else-byte-eq34 w ↦ ap (λ e. unclosed_from e (drop (i + 1) s)) w.escaped-is ∙ (sym (unclosed-more s i c.loop-byte.escaped c.loop-byte-test.true w.if-escaped.false w.if-byte-eq34.false) ∙ c.loop-byte.invariant)
    ]
