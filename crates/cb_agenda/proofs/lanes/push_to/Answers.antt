use Rattle.std.proofs.Common.{◌≡◌, ◌∷◌, BTreeMap, ℤ, [], None, Some, ap, int_cmp, of_z, rules, subst, sym, to_z, w64, ◌∙◌}
use Rattle.std.specs.BTreeMap.{insert_entry, is_at}
use Rattle.std.specs.Map.{lookup, set_value}
use Rattle.std.specs.Option.{option_copied_mut}
use Rattle.cb_agenda.proofs.LaneCalls.{filled_at, on_err, on_ok, pushed_filled}
use Rattle.cb_agenda.proofs.LaneLaws.{begun, filled_more, filled_set, pushed, saliences_rise, set_same}
use Rattle.cb_agenda.specs.Internal.{AreFilled, Line, laned}
use Rattle.cb_agenda.proofs.lanes.push_to.Goals as goal

pub returns-in-Some-clause-ok : goal.returns-in-Some-clause-ok
returns-in-Some-clause-ok c =
    let old = c.args.lanes.now in
    let there : lookup (is_at (int_cmp c.args.rank.salience)) old.entries ≡ Some c.in-Some.lane.now = sym c.get_mut.ensures.value ∙ ap option_copied_mut c.in-Some.is in
    on_ok _ _ c.push.result
    (λ is. ap laned ((c.get_mut.follows.holds c.push.new.self).0 ∙ ap (set_value (is_at (int_cmp c.args.rank.salience)) old.entries) is)
    ∙ pushed c.args.rank.salience c.args.rank.stamp c.args.place c.in-Some.lane.now old.entries (saliences_rise old.entries c.get_mut.ensures.ordered) c.requires there)
    c.push.ensures.ok

pub returns-in-Some-clause-err : goal.returns-in-Some-clause-err
returns-in-Some-clause-err c =
    let old = c.args.lanes.now in
    let there : lookup (is_at (int_cmp c.args.rank.salience)) old.entries ≡ Some c.in-Some.lane.now = sym c.get_mut.ensures.value ∙ ap option_copied_mut c.in-Some.is in
    on_err _ _ c.push.result
    (λ is. ap laned ((c.get_mut.follows.holds c.push.new.self).0 ∙ ap (set_value (is_at (int_cmp c.args.rank.salience)) old.entries) is ∙ set_same (is_at (int_cmp c.args.rank.salience)) c.in-Some.lane.now old.entries there))
    c.push.ensures.err

pub returns-in-Some-clause-filled : goal.returns-in-Some-clause-filled
returns-in-Some-clause-filled c = λ h.
    let old = c.args.lanes.now in
    let there : lookup (is_at (int_cmp c.args.rank.salience)) old.entries ≡ Some c.in-Some.lane.now = sym c.get_mut.ensures.value ∙ ap option_copied_mut c.in-Some.is in
    let some = pushed_filled c.push.result (c.args.rank.stamp, c.args.place) c.in-Some.lane.now c.push.new.self c.push.ensures.ok c.push.ensures.err
    (filled_at (is_at (int_cmp c.args.rank.salience)) c.in-Some.lane.now old.entries h there) in
    subst AreFilled (sym (c.get_mut.follows.holds c.push.new.self).0) (filled_set (is_at (int_cmp c.args.rank.salience)) old.entries c.push.new.self some h)

pub returns-in_ok-insert-in-None-clause-ok : goal.returns-in_ok-insert-in-None-clause-ok
returns-in_ok-insert-in-None-clause-ok c =
    let old = c.args.lanes.now in
    let none : lookup (is_at (int_cmp c.args.rank.salience)) old.entries ≡ None = sym c.get_mut.ensures.value ∙ ap option_copied_mut c.in-None.is in
    let level : to_z w64 (of_z w64 c.args.rank.salience) ≡ c.args.rank.salience = search rules in
    let is : c.insert.new.self.entries ≡ insert_entry int_cmp old.entries c.args.rank.salience ((c.args.rank.stamp, c.args.place) ∷ []) =
    c.in_ok-insert-in-None.ensures.entries ∙ (ap (λ (m : BTreeMap ℤ Line). insert_entry int_cmp m.entries (to_z w64 (of_z w64 c.args.rank.salience)) c.in_ok-lane-in-None.lane) c.get_mut.follows.holds-at-none
    ∙ (ap (λ (u : ℤ). insert_entry int_cmp old.entries u c.in_ok-lane-in-None.lane) level ∙ ap (insert_entry int_cmp old.entries c.args.rank.salience) c.in_ok-lane-in-None.ensures)) in
    ap laned is ∙ begun c.args.rank.salience c.args.rank.stamp c.args.place old.entries (saliences_rise old.entries c.get_mut.ensures.ordered) none

pub returns-in_ok-insert-in-None-clause-filled : goal.returns-in_ok-insert-in-None-clause-filled
returns-in_ok-insert-in-None-clause-filled c = λ h.
    let old = c.args.lanes.now in
    let level : to_z w64 (of_z w64 c.args.rank.salience) ≡ c.args.rank.salience = search rules in
    let is : c.insert.new.self.entries ≡ insert_entry int_cmp old.entries c.args.rank.salience ((c.args.rank.stamp, c.args.place) ∷ []) =
    c.in_ok-insert-in-None.ensures.entries ∙ (ap (λ (m : BTreeMap ℤ Line). insert_entry int_cmp m.entries (to_z w64 (of_z w64 c.args.rank.salience)) c.in_ok-lane-in-None.lane) c.get_mut.follows.holds-at-none
    ∙ (ap (λ (u : ℤ). insert_entry int_cmp old.entries u c.in_ok-lane-in-None.lane) level ∙ ap (insert_entry int_cmp old.entries c.args.rank.salience) c.in_ok-lane-in-None.ensures)) in
    subst AreFilled (sym is) (filled_more c.args.rank.salience old.entries ((c.args.rank.stamp, c.args.place) ∷ []) (λ e. cc) h)
