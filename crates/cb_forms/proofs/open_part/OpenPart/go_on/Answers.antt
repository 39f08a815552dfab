use Rattle.std.proofs.Common.{◌<◌, ◌≤◌, [], ◌∷◌, ◌++◌, length, refl, sym, ap, ◌∙◌, arith}
use Rattle.std.proofs.lemmas.List.{nil_from_length, length_push}
use Rattle.cb_forms.specs.Cuts.{item_readings}
use Rattle.cb_forms.specs.Internal.Cuts.{open_bytes}
use Rattle.cb_forms.specs.Items.{ended_readings}
use Rattle.cb_forms.specs.Internal.ScanStates.{IsStateIn}
use Rattle.cb_forms.proofs.OpenPartLaws.{state-goes, depth-next, kept-open, open-no_gap-push, reaches-item, reaches-comment, reaches-longer}
use Rattle.cb_forms.proofs.ScanStateLaws.{state-push}
use Rattle.cb_forms.proofs.open_part.OpenPart.go_on.Goals as goal

pub returns-then-kept-eq0 : goal.returns-then-kept-eq0
returns-then-kept-eq0 c =
    let old = c.args.self.now in
    let none = nil_from_length old.bytes (sym c.len-kept.ensures.value ∙ c.if-kept-eq0.true) in
    reaches-comment c.args.limit old.spelled.items c.args.byte old _ refl c.requires.kept c.requires.takes none none c.after-self.ensures.mode c.after-self.ensures.depth c.and-self.ensures

pub returns-then-is_full : goal.returns-then-is_full
returns-then-is_full c =
    let old = c.args.self.now in
    let b = c.args.byte in
    let some : 0 < length old.bytes = omega (arith, c.len-kept.ensures.value, c.if-kept-eq0.false) in
    let open_is = kept-open old.spelled.items old.bytes c.requires.kept.bytes_are some in
    let same = ap length open_is.1 in
    let longer = length_push old.spelled.items b in
    reaches-longer c.args.limit (old.spelled.items ++ b ∷ []) _ (open-no_gap-push old.spelled.items b open_is.0) (omega (arith, same, longer, c.len-kept.ensures.value, c.if-is_full.true)) c.clear.ensures

pub take_ended-requires : goal.take_ended-requires
take_ended-requires c =
    let some : 0 < length c.args.self.now.bytes = omega (arith, c.len-kept.ensures.value, c.if-kept-eq0.false) in
    let goes = state-goes c.args.self.now c.args.byte c.push.new.self c.requires.kept c.requires.takes some c.in_ok-push.ensures in
    rw (c.after-self.ensures.mode, c.after-self.ensures.depth) goes.1

pub returns : goal.returns
returns c =
    let old = c.args.self.now in
    let b = c.args.byte in
    let some : 0 < length old.bytes = omega (arith, c.len-kept.ensures.value, c.if-kept-eq0.false) in
    let open_is = kept-open old.spelled.items old.bytes c.requires.kept.bytes_are some in
    let goes = state-goes old b c.push.new.self c.requires.kept c.requires.takes some c.in_ok-push.ensures in
    let at : IsStateIn (old.spelled.items ++ b ∷ []) c.after-self.result.mode c.after-self.result.depth = rw (c.after-self.ensures.mode, c.after-self.ensures.depth) (state-push old.spelled.items old.state.mode old.state.depth b c.requires.kept.state_is c.requires.takes) in
    let longer = length_push old.spelled.items b in
    let same = ap length open_is.1 in
    let low = depth-next old.state.mode old.state.depth b in
    let deep = c.requires.kept.depth_fits in
    let fits : length (old.spelled.items ++ b ∷ []) ≤ c.args.limit = omega (arith, c.if-is_full.false, c.len-kept.ensures.value) in
    let depth_fits : c.after-self.result.depth ≤ length (old.spelled.items ++ b ∷ []) = rw c.after-self.ensures.depth (omega arith) in
    reaches-item c.args.limit (old.spelled.items ++ b ∷ []) [] (item_readings c.in_ok-item.item) c.of.result _ (open-no_gap-push old.spelled.items b open_is.0) fits at c.and-self.ensures (c.in_ok-item.ensures.bytes ∙ ap open_bytes goes.0) depth_fits c.of.ensures.fits c.of.ensures.items (c.in_ok-item.ensures.item ∙ ap ended_readings goes.0)
