use Rattle.std.proofs.Common.{get_or, take, arith}
use Rattle.std.proofs.lemmas.List.{take_more}
use Rattle.cb_forms.proofs.RunLaws.{stays_in-push}
use Rattle.cb_forms.proofs.lex_mode.LexMode.run.Goals as goal

pub loop-end-preserved : goal.loop-end-preserved
loop-end-preserved c =
    let s = c.args.bytes.now in
    let i = c.loop-end.end in
    let here = c.stays.ensures c.if-stays.true in record {
      within = omega arith;
      stays = rw (take_more s i 0 c.loop-end-test.true) (stays_in-push c.args.self (take i s) (get_or s i 0) c.loop-end.invariant.stays here.0 here.1);
    }
