use Rattle.std.proofs.Common.{◌≡◌, ◌∷◌, take, drop, sym, ◌∙◌, arith}
use Rattle.cb_forms.specs.Items.{parts}
use Rattle.cb_forms.proofs.ReaderLaws.{part-begin, part-more, part-all, part-end}
use Rattle.cb_forms.proofs.reader.split_part.Goals as goal
use Rattle.cb_forms.proofs.reader.split_part.Goals.{then-loop-end-test+else-takes, else-loop-end-test}

pub loop-end-init : goal.loop-end-init
loop-end-init c = record {
  begun = omega arith;
  within = omega arith;
  so_far = rw (c.fresh-state.ensures.mode, c.fresh-state.ensures.depth) (part-begin c.args.text.now c.requires);
}

pub loop-end-preserved : goal.loop-end-preserved
loop-end-preserved c = record {
  begun = omega arith;
  within = omega arith;
  so_far = rw (c.after-state.ensures.mode, c.after-state.ensures.depth) (part-more c.args.text.now c.loop-end.end c.loop-end.state.mode c.loop-end.state.depth c.loop-end-test.true c.loop-end.invariant.so_far (sym c.takes.ensures ∙ c.if-takes.true));
}

pub returns-clause-cut : goal.returns-clause-cut
returns-clause-cut c =
    let s = c.args.text.now in
    let i = c.loop-end.end in
    let m = c.loop-end.state.mode in
    let d = c.loop-end.state.depth in
    let cut_is : parts s ≡ take i s ∷ parts (drop i s) = elim c.loop-end-test.branch [
      | then-loop-end-test+else-takes w ↦ part-end s i m d w.loop-end-test.true c.loop-end.invariant.so_far (sym w.takes.ensures ∙ w.if-takes.false)
      | else-loop-end-test w ↦ part-all s i m d w.loop-end-test.false c.loop-end.invariant.so_far
    ] in rw (c.split_at.ensures.front, c.split_at.ensures.back) cut_is
