use Rattle.std.proofs.Common.{◌≡◌, ◌∙◌, ◌-◌, ap, arith, drop, refl, subst, sym, take}
use Rattle.std.proofs.lemmas.List.{at_drop_all}
use Rattle.cb_number_map.proofs.Windows.{ended_here, seen_here, window_seen}
use Rattle.cb_number_map.specs.Slots.{WindowsEndAtUnused, first_number, number_in}
use Rattle.cb_number_map.proofs.table.Table.number.Goals as goal

pub returns-then-is_unused : goal.returns-then-is_unused
returns-then-is_unused c =
    let key = c.args.key in
    let from = c.window-from.result.0 in
    let to = c.window-from.result.1 in
    let xs = c.as_slice-slots.result.now in
    let same : xs ≡ c.args.self.now = c.as_slice-slots.ensures.value ∙ c.self.view_is in
    let ends : WindowsEndAtUnused xs = subst WindowsEndAtUnused (sym c.as_slice-slots.ensures.value) c.self.invariant in
    sym (ended_here key from to xs c.loop-slot.slot-index c.window-from.ensures.from c.window-from.ensures.to ends (omega arith) (c.if-is_unused.ensures.0 refl))
    ∙ (c.loop-slot.invariant
    ∙ (window_seen key from to xs c.window-from.ensures.from c.window-from.ensures.to ∙ ap (λ it. number_in it key) same))

pub returns-in-Some : goal.returns-in-Some
returns-in-Some c =
    let key = c.args.key in
    let from = c.window-from.result.0 in
    let to = c.window-from.result.1 in
    let xs = c.as_slice-slots.result.now in
    let same : xs ≡ c.args.self.now = c.as_slice-slots.ensures.value ∙ c.self.view_is in
    sym (seen_here key c.in-Some.number (take (to - from) (drop from xs)) c.loop-slot.slot-index (omega arith) (sym c.in-Some.ensures))
    ∙ (c.loop-slot.invariant
    ∙ (window_seen key from to xs c.window-from.ensures.from c.window-from.ensures.to ∙ ap (λ it. number_in it key) same))

pub returns : goal.returns
returns c =
    let key = c.args.key in
    let from = c.window-from.result.0 in
    let to = c.window-from.result.1 in
    let xs = c.as_slice-slots.result.now in
    let same : xs ≡ c.args.self.now = c.as_slice-slots.ensures.value ∙ c.self.view_is in
    sym (at_drop_all (first_number key) (take (to - from) (drop from xs)) c.loop-slot.slot-index (omega arith))
    ∙ (c.loop-slot.invariant
    ∙ (window_seen key from to xs c.window-from.ensures.from c.window-from.ensures.to ∙ ap (λ it. number_in it key) same))
