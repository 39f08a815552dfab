use Rattle.std.proofs.Common.{◌+◌, ◌<◌, ◌≤◌, length, get_or, take, sym, ◌∙◌, arith}
use Rattle.std.proofs.lemmas.List.{take_more}
use Rattle.cb_forms.specs.Internal.ScanStates.{IsOpenStep}
use Rattle.cb_forms.proofs.OpenPartLaws.{depth-next}
use Rattle.cb_forms.proofs.RunLaws.{stays-push, stays-still}
use Rattle.cb_forms.proofs.scan_state.ScanState.open_run.Goals as goal

pub loop-end-preserved : goal.loop-end-preserved
loop-end-preserved c =
    let s = c.args.bytes.now in
    let i = c.loop-end.end + c.still_run-end.result in
    let at = c.loop-end.state in
    let next = c.after-next.result in
    let low = depth-next at.mode at.depth (get_or s i 0) in
    let was = c.loop-end.invariant.deep in
    let still = stays-still s c.split_at.result.1.now c.loop-end.end c.still_run-end.result c.args.self.mode c.args.self.depth at.mode at.depth c.loop-end.invariant.stays c.split_at.ensures.back c.still_run-end.ensures.stays in
    let within : i ≤ length s = omega (arith, c.still_run-end.ensures.within, c.split_at.ensures.back_len) in
    let inside : i < length s = omega (arith, within, c.if-end-bytes.false) in
    let here : IsOpenStep at.mode at.depth (get_or s i 0) next.mode next.depth = record {
      takes = sym c.takes.ensures ∙ c.if-not-takes.false;
      mode_is = c.after-next.ensures.mode;
      depth_is = c.after-next.ensures.depth;
      opens = sym c.is_open.ensures ∙ c.if-not-is_open.false;
    } in record {
      within = omega arith;
      deep = omega (arith, c.after-next.ensures.depth, low, was);
      stays = rw (take_more s i 0 inside) (stays-push c.args.self.mode c.args.self.depth (take i s) at.mode at.depth (get_or s i 0) next.mode next.depth still here);
    }

pub returns-then-end-bytes-clause-stays : goal.returns-then-end-bytes-clause-stays
returns-then-end-bytes-clause-stays c =
    stays-still c.args.bytes.now c.split_at.result.1.now c.loop-end.end c.still_run-end.result c.args.self.mode c.args.self.depth c.loop-end.state.mode c.loop-end.state.depth c.loop-end.invariant.stays c.split_at.ensures.back c.still_run-end.ensures.stays

pub returns-then-not-is_open-clause-stays : goal.returns-then-not-is_open-clause-stays
returns-then-not-is_open-clause-stays c =
    stays-still c.args.bytes.now c.split_at.result.1.now c.loop-end.end c.still_run-end.result c.args.self.mode c.args.self.depth c.loop-end.state.mode c.loop-end.state.depth c.loop-end.invariant.stays c.split_at.ensures.back c.still_run-end.ensures.stays
