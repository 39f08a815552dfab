use Rattle.std.proofs.Common.{◌≡◌, ◌-◌, ℤ, Some, length, of_z, refl, rules, slice_get, subst, sym, to_z, w64}
use Rattle.cb_agenda.proofs.LaneCalls.{emptied_settles, other_settles, popped_filled, popped_is, some_popped}
use Rattle.cb_agenda.proofs.LaneLaws.{saliences_rise}
use Rattle.cb_agenda.proofs.lanes.pop_from.Goals as goal

pub returns-in_err-stamp-clause-none : goal.returns-in_err-stamp-clause-none
returns-in_err-stamp-clause-none c = λ h.
    let s = c.in_ok-salience.salience in
    let u = to_z w64 (of_z w64 s) in
    let level : u ≡ s = search rules in
    let ls = c.args.lanes.now.entries in
    let ms = c.pop_at.new.lanes.entries in
    let up = saliences_rise ls c.pop_at.ensures.ordered in
    let at = c.in_ok-salience.ensures.some s refl in
    let last : slice_get ls (length ls - 1) ≡ Some (u, at.0) = subst (λ (v : ℤ). slice_get ls (length ls - 1) ≡ Some (v, at.0)) (sym level) at.1 in
    absurd (some_popped c.args.strategy u at.0 ls ms up c.requires.filled last (c.in_err-stamp.ensures.took at.0))

pub returns-in_err-stamp-clause-filled : goal.returns-in_err-stamp-clause-filled
returns-in_err-stamp-clause-filled c =
    let s = c.in_ok-salience.salience in
    let u = to_z w64 (of_z w64 s) in
    let level : u ≡ s = search rules in
    let ls = c.args.lanes.now.entries in
    let ms = c.pop_at.new.lanes.entries in
    let up = saliences_rise ls c.pop_at.ensures.ordered in
    let at = c.in_ok-salience.ensures.some s refl in
    let last : slice_get ls (length ls - 1) ≡ Some (u, at.0) = subst (λ (v : ℤ). slice_get ls (length ls - 1) ≡ Some (v, at.0)) (sym level) at.1 in
    absurd (some_popped c.args.strategy u at.0 ls ms up c.requires.filled last (c.in_err-stamp.ensures.took at.0))

pub returns-then-emptied-clause-some : goal.returns-then-emptied-clause-some
returns-then-emptied-clause-some c =
    let s = c.in_ok-salience.salience in
    let u = to_z w64 (of_z w64 s) in
    let level : u ≡ s = search rules in
    let ls = c.args.lanes.now.entries in
    let ms = c.pop_at.new.lanes.entries in
    let up = saliences_rise ls c.pop_at.ensures.ordered in
    let at = c.in_ok-salience.ensures.some s refl in
    let last : slice_get ls (length ls - 1) ≡ Some (u, at.0) = subst (λ (v : ℤ). slice_get ls (length ls - 1) ≡ Some (v, at.0)) (sym level) at.1 in
    let settled = emptied_settles c.args.strategy u c.in_ok-stamp.field-0 at.0 ls ms up last (c.in_ok-stamp.ensures.took at.0) c.remove.new.self.entries c.if-emptied.true c.remove.ensures.entries in
    popped_is c.args.strategy u c.in_ok-stamp.field-0 at.0 ls ms up last (c.in_ok-stamp.ensures.took at.0) c.remove.new.self.entries settled

pub returns-then-emptied-clause-filled : goal.returns-then-emptied-clause-filled
returns-then-emptied-clause-filled c =
    let s = c.in_ok-salience.salience in
    let u = to_z w64 (of_z w64 s) in
    let level : u ≡ s = search rules in
    let ls = c.args.lanes.now.entries in
    let ms = c.pop_at.new.lanes.entries in
    let up = saliences_rise ls c.pop_at.ensures.ordered in
    let at = c.in_ok-salience.ensures.some s refl in
    let last : slice_get ls (length ls - 1) ≡ Some (u, at.0) = subst (λ (v : ℤ). slice_get ls (length ls - 1) ≡ Some (v, at.0)) (sym level) at.1 in
    let settled = emptied_settles c.args.strategy u c.in_ok-stamp.field-0 at.0 ls ms up last (c.in_ok-stamp.ensures.took at.0) c.remove.new.self.entries c.if-emptied.true c.remove.ensures.entries in
    popped_filled c.args.strategy u c.in_ok-stamp.field-0 at.0 ls ms up last (c.in_ok-stamp.ensures.took at.0) c.remove.new.self.entries c.requires.filled settled

pub returns-else-emptied-clause-some : goal.returns-else-emptied-clause-some
returns-else-emptied-clause-some c =
    let s = c.in_ok-salience.salience in
    let u = to_z w64 (of_z w64 s) in
    let level : u ≡ s = search rules in
    let ls = c.args.lanes.now.entries in
    let ms = c.pop_at.new.lanes.entries in
    let up = saliences_rise ls c.pop_at.ensures.ordered in
    let at = c.in_ok-salience.ensures.some s refl in
    let last : slice_get ls (length ls - 1) ≡ Some (u, at.0) = subst (λ (v : ℤ). slice_get ls (length ls - 1) ≡ Some (v, at.0)) (sym level) at.1 in
    let settled = other_settles c.args.strategy u c.in_ok-stamp.field-0 at.0 ls ms up last (c.in_ok-stamp.ensures.took at.0) c.if-emptied.false in
    popped_is c.args.strategy u c.in_ok-stamp.field-0 at.0 ls ms up last (c.in_ok-stamp.ensures.took at.0) ms settled

pub returns-else-emptied-clause-filled : goal.returns-else-emptied-clause-filled
returns-else-emptied-clause-filled c =
    let s = c.in_ok-salience.salience in
    let u = to_z w64 (of_z w64 s) in
    let level : u ≡ s = search rules in
    let ls = c.args.lanes.now.entries in
    let ms = c.pop_at.new.lanes.entries in
    let up = saliences_rise ls c.pop_at.ensures.ordered in
    let at = c.in_ok-salience.ensures.some s refl in
    let last : slice_get ls (length ls - 1) ≡ Some (u, at.0) = subst (λ (v : ℤ). slice_get ls (length ls - 1) ≡ Some (v, at.0)) (sym level) at.1 in
    let settled = other_settles c.args.strategy u c.in_ok-stamp.field-0 at.0 ls ms up last (c.in_ok-stamp.ensures.took at.0) c.if-emptied.false in
    popped_filled c.args.strategy u c.in_ok-stamp.field-0 at.0 ls ms up last (c.in_ok-stamp.ensures.took at.0) ms c.requires.filled settled
