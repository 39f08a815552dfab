use Rattle.std.proofs.Common.{get_or, take, arith}
use Rattle.std.proofs.lemmas.List.{take_more}
use Rattle.cb_forms.proofs.RunLaws.{stays-push}
use Rattle.cb_forms.proofs.scan_state.ScanState.still_run.Goals as goal

pub loop-end-preserved : goal.loop-end-preserved
loop-end-preserved c =
    let s = c.args.bytes.now in
    let i = c.loop-end.end in
    let m = c.args.self.mode in
    let d = c.args.self.depth in record {
      within = omega arith;
      stays = rw (take_more s i 0 c.loop-end-test.true) (stays-push m d (take i s) m d (get_or s i 0) m d c.loop-end.invariant.stays (c.stays.ensures c.if-stays.true));
    }
