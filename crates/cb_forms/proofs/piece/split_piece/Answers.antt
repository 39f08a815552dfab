use Rattle.std.proofs.Common.{◌≡◌, ◌<◌, ◌≤◌, ◌+◌, ◌∷◌, length, take, drop, sym, ◌∙◌, subst, arith}
use Rattle.cb_forms.specs.Pieces.{pieces}
use Rattle.cb_forms.specs.declared.lex_mode.LexMode.{LexMode}
use Rattle.cb_forms.proofs.PieceLaws.{IsPieceSoFar, piece-begin, piece-more, piece-run, piece-all, piece-end}
use Rattle.cb_forms.proofs.piece.split_piece.Goals as goal
use Rattle.cb_forms.proofs.piece.split_piece.Goals.{else-loop-end-test, then-loop-end-test+then-end-text, then-end-text-via-then-end-text, then-end-text-via-else-end-text+then-not-takes}

pub loop-end-init : goal.loop-end-init
loop-end-init c =
    let P : LexMode → Type 0 = λ m. IsPieceSoFar c.args.text.now 1 m in
    record { begun = omega arith; within = omega arith; so_far = subst P (sym c.fresh-mode.ensures) (piece-begin c.args.text.now c.requires) }

pub loop-end-preserved : goal.loop-end-preserved
loop-end-preserved c =
    let s = c.args.text.now in
    let i = c.loop-end.end + c.run-end.result in
    let m = c.loop-end.mode in
    let P : LexMode → Type 0 = λ m. IsPieceSoFar s (i + 1) m in
    let within : i ≤ length s = omega (arith, c.run-end.ensures.within, c.split_at.ensures.back_len) in
    let inside : i < length s = omega (arith, within, c.if-end-text.false) in
    let so_far = piece-run s c.split_at.result.1.now c.loop-end.end c.run-end.result m c.split_at.ensures.back c.loop-end.invariant.so_far c.run-end.ensures.stays in
    record {
      begun = omega arith;
      within = omega arith;
      so_far = subst P (sym c.after-mode.ensures) (piece-more s i m inside so_far (sym c.takes.ensures ∙ c.if-not-takes.false));
    }

pub returns-clause-cut : goal.returns-clause-cut
returns-clause-cut c =
    let s = c.args.text.now in
    let m = c.loop-end.mode in
    let e = c.loop-end-test.end in
    let cut_is : pieces s ≡ take e s ∷ pieces (drop e s) = elim c.loop-end-test.branch [
      | else-loop-end-test w ↦ rw w.end-is (piece-all s c.loop-end.end m w.loop-end-test.false c.loop-end.invariant.so_far)
      | then-loop-end-test+then-end-text w ↦
          let i = c.loop-end.end + w.run-end.result in
          let within : i ≤ length s = omega (arith, w.loop-end-test.true, w.run-end.ensures.within, w.split_at.ensures.back_len) in
          let so_far = piece-run s w.split_at.result.1.now c.loop-end.end w.run-end.result m w.split_at.ensures.back c.loop-end.invariant.so_far w.run-end.ensures.stays in
          rw w.end-is (elim w.then-end-text.branch [
            | then-end-text-via-then-end-text w' ↦ piece-all s i m (omega (arith, w'.if-end-text.true)) so_far
            | then-end-text-via-else-end-text+then-not-takes w' ↦ piece-end s i m (omega (arith, within, w'.if-end-text.false)) so_far (sym w'.takes.ensures ∙ w'.if-not-takes.true)
          ])
    ] in rw (c.split_at-2.ensures.front, c.split_at-2.ensures.back) cut_is
