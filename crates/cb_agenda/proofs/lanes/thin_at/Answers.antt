use Rattle.std.proofs.Common.{◌≡◌, ◌⊎◌, ◌∙◌, BTreeMap, ℤ, [], None, Some, ap, filter, int_cmp, of_z, rules, subst, sym, to_z, w64}
use Rattle.std.specs.BTreeMap.{get, is_at}
use Rattle.std.specs.Map.{lookup, set_value}
use Rattle.cb_agenda.proofs.LaneCalls.{found_set, none_set, some_same, thin_lane}
use Rattle.cb_agenda.proofs.LaneLaws.{saliences_rise}
use Rattle.cb_agenda.specs.Internal.{Line, laned, active_at, stays}
use Rattle.cb_agenda.proofs.lanes.thin_at.Goals as goal

pub returns-in-Some-clause-thinned : goal.returns-in-Some-clause-thinned
returns-in-Some-clause-thinned c =
    let level : to_z w64 (of_z w64 c.args.salience) ≡ c.args.salience = search rules in
    let new = (c.get_mut.follows.lender c.thin.new.self).entries in
    subst (λ (u : ℤ). (laned new ≡ laned c.args.lanes.now.entries) ⊎ (laned new ≡ filter (stays (active_at c.args.activations.now) u) (laned c.args.lanes.now.entries))) level
    (thin_lane (active_at c.args.activations.now) (to_z w64 (of_z w64 c.args.salience)) c.in-Some.lane.now c.thin.new.self c.args.lanes.now.entries new
    (saliences_rise c.args.lanes.now.entries c.get_mut.ensures.ordered) (sym c.in-Some.ensures.value) (c.get_mut.follows.holds c.thin.new.self).0 c.thin.ensures)

pub returns-in-Some-clause-set : goal.returns-in-Some-clause-set
returns-in-Some-clause-set c =
    let level : to_z w64 (of_z w64 c.args.salience) ≡ c.args.salience = search rules in
    (c.thin.new.self, subst (λ (u : ℤ). (c.get_mut.follows.lender c.thin.new.self).entries ≡ set_value (is_at (int_cmp u)) c.args.lanes.now.entries c.thin.new.self) level (c.get_mut.follows.holds c.thin.new.self).0)

pub returns-in-Some-clause-empty : goal.returns-in-Some-clause-empty
returns-in-Some-clause-empty c = λ h.
    let level : to_z w64 (of_z w64 c.args.salience) ≡ c.args.salience = search rules in
    let new = (c.get_mut.follows.lender c.thin.new.self).entries in
    subst (λ (u : ℤ). lookup (is_at (int_cmp u)) new ≡ Some []) level
    (found_set (is_at (int_cmp (to_z w64 (of_z w64 c.args.salience)))) c.thin.new.self c.in-Some.lane.now c.args.lanes.now.entries new (sym c.in-Some.ensures.value) (c.get_mut.follows.holds c.thin.new.self).0
    ∙ ap (λ (xs : Line). Some xs) (c.is_empty.ensures.yes h))

pub returns-in-Some-clause-other : goal.returns-in-Some-clause-other
returns-in-Some-clause-other c = λ h e.
    let level : to_z w64 (of_z w64 c.args.salience) ≡ c.args.salience = search rules in
    let new = (c.get_mut.follows.lender c.thin.new.self).entries in
    let at : lookup (is_at (int_cmp c.args.salience)) new ≡ Some c.thin.new.self = subst (λ (u : ℤ). lookup (is_at (int_cmp u)) new ≡ Some c.thin.new.self) level
    (found_set (is_at (int_cmp (to_z w64 (of_z w64 c.args.salience)))) c.thin.new.self c.in-Some.lane.now c.args.lanes.now.entries new (sym c.in-Some.ensures.value) (c.get_mut.follows.holds c.thin.new.self).0) in
    c.is_empty.ensures.no h (some_same (sym at ∙ e))

pub returns-in-None-clause-set : goal.returns-in-None-clause-set
returns-in-None-clause-set c =
    let level : to_z w64 (of_z w64 c.args.salience) ≡ c.args.salience = search rules in (
      [],
      ap (λ (m : BTreeMap ℤ Line). m.entries) c.get_mut.follows.holds-at-none ∙ subst (λ (u : ℤ). c.args.lanes.now.entries ≡ set_value (is_at (int_cmp u)) c.args.lanes.now.entries []) level
          (sym (none_set (is_at (int_cmp (to_z w64 (of_z w64 c.args.salience)))) [] c.args.lanes.now.entries (sym c.in-None.ensures.value))),
    )

pub returns-in-None-clause-other : goal.returns-in-None-clause-other
returns-in-None-clause-other c = λ h e.
    let level : to_z w64 (of_z w64 c.args.salience) ≡ c.args.salience = search rules in
    let at : get int_cmp c.args.lanes.now c.args.salience ≡ None = subst (λ (u : ℤ). get int_cmp c.args.lanes.now u ≡ None) level (sym c.in-None.ensures.value) in
    let still : get int_cmp c.get_mut.follows.lender-at-none c.args.salience ≡ None = ap (λ (m : BTreeMap ℤ Line). get int_cmp m c.args.salience) c.get_mut.follows.holds-at-none ∙ at in
    no_some (sym still ∙ e)
  where
    no_some : {a : Line} → None ≡ Some a → ⊥
    no_some h = cc
