use Rattle.std.proofs.Common.{List, int_cmp, of_z, subst, to_z, w64}
use Rattle.std.specs.BTreeMap.{is_at}
use Rattle.cb_agenda.proofs.DueLaws.{thin_rises, thinned_is}
use Rattle.cb_agenda.proofs.LaneCalls.{settled_after, settled_gone, settled_kept, thinned_there}
use Rattle.cb_agenda.specs.Internal.{Placed, Thinned, active_at, laned}
use Rattle.cb_agenda.proofs.lanes.Lanes.thin.Goals as goal

pub invariant_of-self : goal.invariant_of-self
invariant_of-self c =
    let s = to_z w64 (of_z w64 c.args.salience) in
    let p = is_at (int_cmp s) in
    let find = active_at c.args.activations.now in
    let es = laned c.self.inside.lanes.entries in
    let ms = c.thin_at.new.lanes.entries in
    let settled = settled_gone p ms c.remove.new.self.entries (c.thin_at.ensures.empty c.if-thin_at.true) c.remove.ensures.entries in
    let thinned = thinned_there find s p es ms c.remove.new.self.entries c.thin_at.ensures.thinned settled in (
      thin_rises find s es (laned c.remove.new.self.entries) thinned c.self.invariant.0,
      settled_after p c.self.inside.lanes.entries ms c.remove.new.self.entries c.thin_at.ensures.set.0 c.self.invariant.1 c.thin_at.ensures.set.1 settled,
    )

pub invariant_of-self-else-thin_at : goal.invariant_of-self-else-thin_at
invariant_of-self-else-thin_at c =
    let s = to_z w64 (of_z w64 c.args.salience) in
    let p = is_at (int_cmp s) in
    let find = active_at c.args.activations.now in
    let es = laned c.self.inside.lanes.entries in
    let ms = c.thin_at.new.lanes.entries in
    let settled = settled_kept p ms (c.thin_at.ensures.other c.if-thin_at.false) in
    let thinned = thinned_there find s p es ms ms c.thin_at.ensures.thinned settled in (
      thin_rises find s es (laned ms) thinned c.self.invariant.0,
      settled_after p c.self.inside.lanes.entries ms ms c.thin_at.ensures.set.0 c.self.invariant.1 c.thin_at.ensures.set.1 settled,
    )

pub returns-then-thin_at-clause-thinned : goal.returns-then-thin_at-clause-thinned
returns-then-thin_at-clause-thinned c =
    let s = to_z w64 (of_z w64 c.args.salience) in
    let p = is_at (int_cmp s) in
    let find = active_at c.args.activations.now in
    let es = laned c.self.inside.lanes.entries in
    let ms = c.thin_at.new.lanes.entries in
    let settled = settled_gone p ms c.remove.new.self.entries (c.thin_at.ensures.empty c.if-thin_at.true) c.remove.ensures.entries in
    let thinned = thinned_there find s p es ms c.remove.new.self.entries c.thin_at.ensures.thinned settled in
    subst (λ (xs : List Placed). Thinned find xs (laned c.remove.new.self.entries)) c.self.view_is (thinned_is find s es (laned c.remove.new.self.entries) thinned)

pub returns-then-thin_at-clause-rising : goal.returns-then-thin_at-clause-rising
returns-then-thin_at-clause-rising c =
    let s = to_z w64 (of_z w64 c.args.salience) in
    let p = is_at (int_cmp s) in
    let find = active_at c.args.activations.now in
    let es = laned c.self.inside.lanes.entries in
    let ms = c.thin_at.new.lanes.entries in
    let settled = settled_gone p ms c.remove.new.self.entries (c.thin_at.ensures.empty c.if-thin_at.true) c.remove.ensures.entries in
    let thinned = thinned_there find s p es ms c.remove.new.self.entries c.thin_at.ensures.thinned settled in
    thin_rises find s es (laned c.remove.new.self.entries) thinned c.self.invariant.0

pub returns-else-thin_at-clause-thinned : goal.returns-else-thin_at-clause-thinned
returns-else-thin_at-clause-thinned c =
    let s = to_z w64 (of_z w64 c.args.salience) in
    let p = is_at (int_cmp s) in
    let find = active_at c.args.activations.now in
    let es = laned c.self.inside.lanes.entries in
    let ms = c.thin_at.new.lanes.entries in
    let settled = settled_kept p ms (c.thin_at.ensures.other c.if-thin_at.false) in
    let thinned = thinned_there find s p es ms ms c.thin_at.ensures.thinned settled in
    subst (λ (xs : List Placed). Thinned find xs (laned ms)) c.self.view_is (thinned_is find s es (laned ms) thinned)

pub returns-else-thin_at-clause-rising : goal.returns-else-thin_at-clause-rising
returns-else-thin_at-clause-rising c =
    let s = to_z w64 (of_z w64 c.args.salience) in
    let p = is_at (int_cmp s) in
    let find = active_at c.args.activations.now in
    let es = laned c.self.inside.lanes.entries in
    let ms = c.thin_at.new.lanes.entries in
    let settled = settled_kept p ms (c.thin_at.ensures.other c.if-thin_at.false) in
    let thinned = thinned_there find s p es ms ms c.thin_at.ensures.thinned settled in
    thin_rises find s es (laned ms) thinned c.self.invariant.0
