use Rattle.std.proofs.Common.{◌∷◌, [], ◌++◌, length, get_or, take, sym, ap, ◌∙◌, arith}
use Rattle.std.proofs.lemmas.List.{take_rest, length-drop}
use Rattle.cb_forms.proofs.RunLaws.{passed-both, passed-one, take-first}
use Rattle.cb_forms.proofs.open_part.OpenPart.open.Goals as goal

pub returns : goal.returns
returns c =
    let s = c.args.bytes.now in
    let n = c.in_ok-more.more in
    let rest_is = ap length (take_rest s 1) in
    let shorter = length-drop 1 s in
    record { within = omega (arith, rest_is, shorter, c.in_ok-more.ensures.within, c.in-len1-up.len_at_least); passed = passed-both c.args.limit c.args.self.now.spelled.items _ _ _ c.begin_item.new.self c.stay_open.new.self (passed-one c.args.limit c.args.self.now.spelled.items (get_or s 0 0) c.begin_item.new.self (c.in_ok-begin_item.ensures.begun.taken c.if-not-branch.false)) c.in_ok-more.ensures.passed (take-first n s c.in-len1-up.len_at_least ∙ ap (λ it. (get_or s 0 0 ∷ []) ++ take n it) (sym (take_rest s 1))) }
