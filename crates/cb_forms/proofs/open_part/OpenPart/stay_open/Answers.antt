use Rattle.std.proofs.Common.{◌≡◌, ◌≤◌, ℕ, ◌-◌, List, ◌++◌, length, take, ap, ◌∙◌, subst, arith}
use Rattle.std.proofs.lemmas.List.{length-take-le, take-take}
use Rattle.cb_forms.specs.Internal.ScanStates.{StaysOpen}
use Rattle.cb_forms.proofs.RunLaws.{passed-open}
use Rattle.cb_forms.proofs.open_part.OpenPart.stay_open.Goals as goal

pub returns : goal.returns
returns c =
    let old = c.args.self.now in
    let s = c.args.bytes.now in
    let n = c.open_run-end.result.0 in
    let state = c.open_run-end.result.1 in
    let room = c.min-room.result in
    let low : n ≤ room = omega (arith, c.open_run-end.ensures.within, c.split_at.ensures.front_len) in
    let same : take n c.split_at.result.0.now ≡ take n s = ap (take n) c.split_at.ensures.front ∙ take-take n room s low in
    let run : c.split_at-2.result.0.now ≡ take n s = c.split_at-2.ensures.front ∙ same in
    let P : List ℕ → Type 0 = λ run. StaysOpen old.state.mode old.state.depth run state.mode state.depth in
    let inside : n ≤ length s = omega (arith, c.min-room.ensures, low) in
    let long = length-take-le n s inside in
    let short : length (take n s) ≤ c.args.limit - length old.bytes = omega (arith, c.min-room.ensures, c.saturating_sub.ensures, c.len.ensures.value, long, low) in
    record { within = inside; passed = passed-open c.args.limit (take n s) old _ c.requires.kept c.requires.some short (subst P same c.open_run-end.ensures.stays) (c.in_ok-extend.ensures ∙ ap (λ it. old.bytes ++ it) run) (c.with_run-self.ensures ∙ ap (λ it. old.spelled.items ++ it) run) }
