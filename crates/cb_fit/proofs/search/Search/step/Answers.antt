use Rattle.std.proofs.Common.{arith, ◌≡◌, ◌∙◌, ◌++◌, ◌+◌, ◌-◌, ◌≤◌, ◌∷◌, [], IsSomeAnd, ap, length, map, refl, replicate, rules, subst, sym}
use Rattle.std.proofs.lemmas.Grind.{flat_map-append}
use Rattle.std.proofs.lemmas.List.{length-map}
use Rattle.std.specs.List.{flat_map}
use Rattle.cb_constraints.specs.Constraints.{constraint_of}
use Rattle.cb_constraints.specs.PartValues.{asked_slot}
use Rattle.cb_constraints.specs.Internal.RowFields.{row_fields}
use Rattle.cb_fit.proofs.Choices.{all-open-kept, all-ways-kept, group-count, next-order, next-taken, with-number}
use Rattle.cb_fit.proofs.Standing.{after-group, keeps-through, next-count}
use Rattle.cb_fit.proofs.Takes.{on-ok}
use Rattle.cb_fit.specs.Internal.{begun_at, endings}
use Rattle.cb_fit.specs.Internal.Choices.{AreUpTo, IsOpen, KeepsFirst, as_ways, choice_ways, constraints_from, cuts_before, followed_by_rows, group_from, ways_after, ways_if, ways_left}
use Rattle.cb_fit.specs.WayValues.{way_of}
use Rattle.cb_fit.specs.Ways.{after_cuts, way_with, ways_of_slots}
use Rattle.cb_fit.specs.Internal.Searches.{search_of}
use Rattle.cb_fit.proofs.search.Search.step.Goals as goal

pub take-requires : goal.take-requires
take-requires g c =
    let is = subst (λ o. IsSomeAnd o (IsOpen (search_of g.L.Lookup.bindings c.args.self) c.args.cuts.now)) c.in-Some.is c.requires.choice in
    record { choice = is.choice; inside = is.inside }

pub go_on-requires : goal.go_on-requires
go_on-requires g c =
    let is = subst (λ o. IsSomeAnd o (IsOpen (search_of g.L.Lookup.bindings c.args.self) c.args.cuts.now)) c.in-Some.is c.requires.choice in
    let order : c.in-Some.choice.to ≤ c.in-Some-2.to = search rules in
    let last : c.in-Some-2.to ≤ c.in-Some.choice.last = search rules in
    let cuts : c.take.new.cuts ≡ cuts_before c.in-Some.choice c.args.cuts.now ++ ((c.in-Some-2.to - c.in-Some.choice.at) ∷ replicate (length c.in-Some.choice.ones.now) 1) = search rules in
    let ones = length-map c.in-Some.choice.ones.now constraint_of in
    record {
      rest = (is.choice.rest, is.choice.wanted);
      within = omega (arith, is.choice.within, last);
      ended = λ e. omega (arith, is.choice.alone e, is.choice.ended e, order, last);
      rows = is.rows;
      place = after-group (search_of g.L.Lookup.bindings c.args.self) (row_fields c.in-Some.choice.fields) (cuts_before c.in-Some.choice c.args.cuts.now) c.take.new.cuts c.in-Some.choice.at c.in-Some-2.to (c.in-Some-2.to + length c.in-Some.choice.ones.now) (length c.in-Some.choice.ones.now)
          (constraint_of c.in-Some.choice.constraint.now) (map constraint_of c.in-Some.choice.ones.now) (map constraint_of c.in-Some.choice.rest.now) is.inside.place (omega (arith, is.choice.begun, order)) ones refl cuts;
      next = next-count (search_of g.L.Lookup.bindings c.args.self) (length (cuts_before c.in-Some.choice c.args.cuts.now) + length (constraints_from c.in-Some.choice)) (length c.take.new.cuts + length c.in-Some.choice.rest.now) (map asked_slot c.in-Some.choice.rows.now)
          (group-count c.in-Some.choice (cuts_before c.in-Some.choice c.args.cuts.now) c.take.new.cuts (c.in-Some-2.to - c.in-Some.choice.at) cuts) is.inside.next;
    }

pub returns-clause-open : goal.returns-clause-open
returns-clause-open g c =
    let is = subst (λ o. IsSomeAnd o (IsOpen (search_of g.L.Lookup.bindings c.args.self) c.args.cuts.now)) c.in-Some.is c.requires.choice in
    let order : AreUpTo c.in-Some.choice.number c.args.choices.now.items = with-number c.args.next c.in-Some.choice c.args.choices.now.items c.in-Some.is c.requires.order in
    let taken : KeepsFirst c.in-Some.choice.number c.args.cuts.now c.take.new.cuts = search rules in
    let kept : KeepsFirst c.in-Some.choice.number c.args.cuts.now c.go_on.new.cuts =
    keeps-through c.in-Some.choice.number (length c.take.new.cuts) c.args.cuts.now c.take.new.cuts c.go_on.new.cuts taken.1 taken c.in_ok-next.ensures.keeps in
    let before = c.in_ok-open_others.ensures.order order in
    on-ok c.open_next.result
    (λ f. f (search_of g.L.Lookup.bindings c.args.self) c.go_on.new.cuts c.in_ok-next.ensures.open (next-order c.in-Some.choice.number (length c.take.new.cuts) c.in_ok-next.next c.open_others.new.choices.items taken.1 before c.in_ok-next.ensures.order)
    (all-open-kept (search_of g.L.Lookup.bindings c.args.self) c.in-Some.choice.number c.args.cuts.now c.go_on.new.cuts c.open_others.new.choices.items before kept (c.in_ok-open_others.ensures.open (search_of g.L.Lookup.bindings c.args.self) c.args.cuts.now is order c.requires.open)))
    c.open_next.ensures.open

pub returns-clause-ways : goal.returns-clause-ways
returns-clause-ways g c =
    let before = cuts_before c.in-Some.choice c.args.cuts.now in
    let fields = row_fields c.in-Some.choice.fields in
    let rest = map constraint_of c.in-Some.choice.rest.now in
    let at = c.in-Some-2.to + length c.in-Some.choice.ones.now in
    let rows = map asked_slot c.in-Some.choice.rows.now in
    let order : AreUpTo c.in-Some.choice.number c.args.choices.now.items = with-number c.args.next c.in-Some.choice c.args.choices.now.items c.in-Some.is c.requires.order in
    let keeps : KeepsFirst c.in-Some.choice.number c.args.cuts.now c.take.new.cuts = search rules in
    let kept : KeepsFirst c.in-Some.choice.number c.args.cuts.now c.go_on.new.cuts =
    keeps-through c.in-Some.choice.number (length c.take.new.cuts) c.args.cuts.now c.take.new.cuts c.go_on.new.cuts keeps.1 keeps c.in_ok-next.ensures.keeps in
    let taken : group_from (search_of g.L.Lookup.bindings c.args.self) (cuts_before c.in-Some.choice c.args.cuts.now) c.in-Some.choice c.in-Some.choice.to (c.in-Some.choice.last + 1 - c.in-Some.choice.to)
    ≡ begun_at (search_of g.L.Lookup.bindings c.args.self) (row_fields c.in-Some.choice.fields) c.take.new.cuts (c.in-Some-2.to + length c.in-Some.choice.ones.now) ∷ group_from (search_of g.L.Lookup.bindings c.args.self) (cuts_before c.in-Some.choice c.args.cuts.now) c.in-Some.choice (c.in-Some-2.to + 1) (c.in-Some.choice.last - c.in-Some-2.to) = search rules in
    let both : choice_ways (search_of g.L.Lookup.bindings c.args.self) (cuts_before c.in-Some.choice c.args.cuts.now) c.in-Some.choice ≡ followed_by_rows rows c.args.self.slots.now (endings rest (begun_at (search_of g.L.Lookup.bindings c.args.self) fields c.take.new.cuts at)) ++ ways_after (search_of g.L.Lookup.bindings c.args.self) before c.in-Some.choice c.in-Some-2.to =
    ap (λ begun. followed_by_rows rows c.args.self.slots.now (flat_map (endings rest) begun)) taken
    ∙ flat_map-append (λ t. map (after_cuts t.cuts) (ways_of_slots rows c.args.self.slots.now t.env)) (endings rest (begun_at (search_of g.L.Lookup.bindings c.args.self) fields c.take.new.cuts at))
    (flat_map (endings rest) (group_from (search_of g.L.Lookup.bindings c.args.self) before c.in-Some.choice (c.in-Some-2.to + 1) (c.in-Some.choice.last - c.in-Some-2.to))) in
    on-ok c.open_next.result
    (λ f. next-taken (way_with c.args.self.body.now (g.L.Lookup.bindings c.args.self.before.now)) (map way_of c.args.kept.now.items) (map way_of c.go_on.new.kept.items)
    (followed_by_rows rows c.args.self.slots.now (endings rest (begun_at (search_of g.L.Lookup.bindings c.args.self) fields c.take.new.cuts at)))
    (ways_after (search_of g.L.Lookup.bindings c.args.self) before c.in-Some.choice c.in-Some-2.to)
    (choice_ways (search_of g.L.Lookup.bindings c.args.self) before c.in-Some.choice)
    (ways_if (search_of g.L.Lookup.bindings c.args.self) c.go_on.new.cuts c.in_ok-next.next)
    (ways_left (search_of g.L.Lookup.bindings c.args.self) c.args.cuts.now c.args.choices.now.items)
    (ways_left (search_of g.L.Lookup.bindings c.args.self) c.go_on.new.cuts c.open_others.new.choices.items)
    (ways_left (search_of g.L.Lookup.bindings c.args.self) c.go_on.new.cuts c.open_next.new.choices.items)
    c.in_ok-next.ensures.ways
    (all-ways-kept (search_of g.L.Lookup.bindings c.args.self) c.in-Some.choice.number c.args.cuts.now c.go_on.new.cuts c.open_others.new.choices.items (c.in_ok-open_others.ensures.order order) kept ∙ c.in_ok-open_others.ensures.ways (search_of g.L.Lookup.bindings c.args.self) c.args.cuts.now)
    (f (search_of g.L.Lookup.bindings c.args.self) c.go_on.new.cuts) both
    ∙ ap (λ o. map way_of c.args.kept.now.items ++ as_ways (search_of g.L.Lookup.bindings c.args.self) (ways_if (search_of g.L.Lookup.bindings c.args.self) c.args.cuts.now o ++ ways_left (search_of g.L.Lookup.bindings c.args.self) c.args.cuts.now c.args.choices.now.items)) (sym c.in-Some.is))
    c.open_next.ensures.ways

pub overflow_add-rest : goal.overflow_add-rest
overflow_add-rest g c =
    let is = subst (λ o. IsSomeAnd o (IsOpen (search_of g.L.Lookup.bindings c.args.self) c.args.cuts.now)) c.in-Some.is c.requires.choice in
    let last : c.in-Some-2.to ≤ c.in-Some.choice.last = search rules in
    omega (arith, is.choice.room, last)

pub returns-in_default-2-clause-open : goal.returns-in_default-2-clause-open
returns-in_default-2-clause-open g c =
    let order : AreUpTo c.in-Some.choice.number c.args.choices.now.items = with-number c.args.next c.in-Some.choice c.args.choices.now.items c.in-Some.is c.requires.order in
    let kept : KeepsFirst c.in-Some.choice.number c.args.cuts.now c.take.new.cuts = search rules in
    all-open-kept (search_of g.L.Lookup.bindings c.args.self) c.in-Some.choice.number c.args.cuts.now c.take.new.cuts c.args.choices.now.items order kept c.requires.open

pub returns-in_default-2-clause-ways : goal.returns-in_default-2-clause-ways
returns-in_default-2-clause-ways g c =
    let order : AreUpTo c.in-Some.choice.number c.args.choices.now.items = with-number c.args.next c.in-Some.choice c.args.choices.now.items c.in-Some.is c.requires.order in
    let kept : KeepsFirst c.in-Some.choice.number c.args.cuts.now c.take.new.cuts = search rules in
    let none : group_from (search_of g.L.Lookup.bindings c.args.self) (cuts_before c.in-Some.choice c.args.cuts.now) c.in-Some.choice c.in-Some.choice.to (c.in-Some.choice.last + 1 - c.in-Some.choice.to) ≡ [] = search rules in
    ap (λ ts. map way_of c.args.kept.now.items ++ as_ways (search_of g.L.Lookup.bindings c.args.self) ts)
    (all-ways-kept (search_of g.L.Lookup.bindings c.args.self) c.in-Some.choice.number c.args.cuts.now c.take.new.cuts c.args.choices.now.items order kept
    ∙ (ap (λ begun. followed_by_rows (map asked_slot c.in-Some.choice.rows.now) c.args.self.slots.now (flat_map (endings (map constraint_of c.in-Some.choice.rest.now)) begun) ++ ways_left (search_of g.L.Lookup.bindings c.args.self) c.args.cuts.now c.args.choices.now.items) (sym none)
    ∙ ap (λ o. ways_if (search_of g.L.Lookup.bindings c.args.self) c.args.cuts.now o ++ ways_left (search_of g.L.Lookup.bindings c.args.self) c.args.cuts.now c.args.choices.now.items) (sym c.in-Some.is)))
