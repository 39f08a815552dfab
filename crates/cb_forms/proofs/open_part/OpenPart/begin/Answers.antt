use Rattle.std.proofs.Common.{◌≡◌, ◌==◌, true, [], ◌∷◌, ◌++◌, sym, ap, ◌∙◌, arith}
use Rattle.std.proofs.lemmas.Bool.{or_left, or_right, eq-eqb}
use Rattle.cb_forms.specs.Bytes.{is_blank}
use Rattle.cb_forms.specs.Cuts.{item_readings}
use Rattle.cb_forms.specs.Internal.Cuts.{opened_readings, open_bytes}
use Rattle.cb_forms.specs.Items.{is_gap, ended_readings}
use Rattle.cb_forms.specs.Internal.ScanStates.{IsStateIn}
use Rattle.cb_forms.proofs.OpenPartLaws.{kept-state, opened-says, reaches-gap, reaches-item, no_gap-fresh, depth-fresh}
use Rattle.cb_forms.proofs.ScanStateLaws.{state-fresh}
use Rattle.cb_forms.proofs.open_part.OpenPart.begin.Goals as goal
use Rattle.cb_forms.proofs.open_part.OpenPart.begin.Goals.{then-is_blank-via-then-is_blank, then-is_blank-via-else-is_blank+then-byte-eq59}

pub take_open-requires : goal.take_open-requires
take_open-requires c = kept-state c.args.self.now c.requires

pub returns-then-is_blank : goal.returns-then-is_blank
returns-then-is_blank c =
    let b = c.args.byte in
    let gap : is_gap (b ∷ []) ≡ true = elim c.then-is_blank.branch [
      | then-is_blank-via-then-is_blank w ↦ or_left (is_blank b) (b == 59) (sym c.is_blank.ensures ∙ w.if-is_blank.true)
      | then-is_blank-via-else-is_blank+then-byte-eq59 w ↦ or_right (is_blank b) (b == 59) (eq-eqb b 59 w.if-byte-eq59.true)
    ] in
    let first : item_readings c.in_ok-first.first ≡ opened_readings c.args.self.now.spelled.items = opened-says c.args.self.now (item_readings c.in_ok-first.first) c.requires c.in_ok-first.ensures.item in
    reaches-gap c.args.limit b (opened_readings c.args.self.now.spelled.items) c.of.result _ gap c.fresh-self.ensures.mode c.fresh-self.ensures.depth (c.and-self.ensures ∙ ap (λ it. it ++ b ∷ []) c.new.ensures) c.in_ok-first.ensures.bytes c.of.ensures.fits (c.of.ensures.items ∙ ap (λ it. it ++ []) first)

pub take_ended-requires : goal.take_ended-requires
take_ended-requires c =
    let b = c.args.byte in
    let bytes : c.push.new.self ≡ b ∷ [] = c.in_ok-push.ensures ∙ ap (λ it. it ++ b ∷ []) c.in_ok-first.ensures.bytes in
    rw (bytes, c.fresh-self.ensures.mode, c.fresh-self.ensures.depth) (state-fresh b)

pub returns : goal.returns
returns c =
    let b = c.args.byte in
    let bytes : c.push.new.self ≡ b ∷ [] = c.in_ok-push.ensures ∙ ap (λ it. it ++ b ∷ []) c.in_ok-first.ensures.bytes in
    let first : item_readings c.in_ok-first.first ≡ opened_readings c.args.self.now.spelled.items = opened-says c.args.self.now (item_readings c.in_ok-first.first) c.requires c.in_ok-first.ensures.item in
    let at : IsStateIn (b ∷ []) c.fresh-self.result.mode c.fresh-self.result.depth = rw (c.fresh-self.ensures.mode, c.fresh-self.ensures.depth) (state-fresh b) in
    reaches-item c.args.limit (b ∷ []) (opened_readings c.args.self.now.spelled.items) (item_readings c.in_ok-second.second) c.of-2.result _ (no_gap-fresh b (sym c.is_blank.ensures ∙ c.if-is_blank.false) c.if-byte-eq59.false) (omega (arith, c.if-limit-eq0.false)) at (c.and-self.ensures ∙ ap (λ it. it ++ b ∷ []) c.new.ensures) (c.in_ok-second.ensures.bytes ∙ ap open_bytes bytes) (rw c.fresh-self.ensures.depth (depth-fresh b)) c.of-2.ensures.fits (c.of-2.ensures.items ∙ ap (λ it. it ++ item_readings c.in_ok-second.second) first) (c.in_ok-second.ensures.item ∙ ap ended_readings bytes)
