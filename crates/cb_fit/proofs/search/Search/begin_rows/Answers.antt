use Rattle.std.proofs.Common.{arith, ◌≡◌, ◌∙◌, ◌++◌, ◌+◌, ◌∷◌, [], List, Some, ap, length, map, refl, rules, subst, sym}
use Rattle.cb_constraints.specs.Constraints.{Constraint, constraint_of}
use Rattle.cb_constraints.specs.PartValues.{asked_slot}
use Rattle.cb_constraints.specs.PatternValues.{SlotValue}
use Rattle.cb_constraints.specs.Rows.{segments_wanted}
use Rattle.cb_facts.specs.Values.{fields_in}
use Rattle.cb_fit.proofs.Choices.{all-ended, as_many_tries, begun_row, not-before, number-is, of_choice, opened}
use Rattle.cb_fit.proofs.Looked.{other_slots_may}
use Rattle.cb_fit.proofs.Splits.{none-left}
use Rattle.cb_fit.proofs.Standing.{keeps-through, next-count, row-begins, rows-after}
use Rattle.cb_fit.specs.Internal.{begun_at, endings, env_after, may_take_slots, taken_by}
use Rattle.cb_fit.specs.Internal.Choices.{KeepsFirst, as_ways, followed_by_rows, segments_in}
use Rattle.cb_fit.specs.Internal.Standing.{AreNext, IsAt}
use Rattle.cb_fit.specs.WayValues.{way_of}
use Rattle.cb_fit.specs.Ways.{after_cuts, slot_at, ways_of_row}
use Rattle.cb_fit.specs.Internal.Searches.{search_of}
use Rattle.cb_fit.proofs.search.Search.begin_rows.Goals as goal

pub returns-then-not-is_empty-clause-ways : goal.returns-then-not-is_empty-clause-ways
returns-then-not-is_empty-clause-ways g c =
    let split : c.loop-row.left.now ≡ c.in-Some.row.now ∷ c.in-Some.others.now = search rules in
    let value : slot_at c.in-Some.row.now.place c.args.self.slots.now ≡ Some c.in-Some-slot_value.value.now = search rules in
    let ways : map (after_cuts c.loop-row.cuts) (ways_of_row c.in-Some.row.now.row (fields_in c.in-Some-slot_value.value.now) (env_after (search_of g.L.Lookup.bindings c.args.self) c.loop-row.cuts)) ≡ endings (map constraint_of c.in-Some-2.rest.constraints.now) (begun_at (search_of g.L.Lookup.bindings c.args.self) (fields_in c.in-Some-slot_value.value.now) c.begin_row.new.cuts c.in-Some-2.rest.at) = search rules in
    let row = begun_row c.loop-row.left.now c.in-Some.others.now c.in-Some.row.now (search_of g.L.Lookup.bindings c.args.self) c.in-Some-slot_value.value.now (fields_in c.in-Some-slot_value.value.now) c.loop-row.cuts
    (endings (map constraint_of c.in-Some-2.rest.constraints.now) (begun_at (search_of g.L.Lookup.bindings c.args.self) (fields_in c.in-Some-slot_value.value.now) c.begin_row.new.cuts c.in-Some-2.rest.at)) split value refl ways in
    ap (λ xs. map way_of c.args.kept.now.items ++ as_ways (search_of g.L.Lookup.bindings c.args.self) xs)
    (of_choice (search_of g.L.Lookup.bindings c.args.self) c.begin_row.new.cuts c.new.result c.in-Some.others.now (endings (map constraint_of c.in-Some-2.rest.constraints.now) (begun_at (search_of g.L.Lookup.bindings c.args.self) (fields_in c.in-Some-slot_value.value.now) c.begin_row.new.cuts c.in-Some-2.rest.at)) (c.new.ensures.ways (search_of g.L.Lookup.bindings c.args.self) c.begin_row.new.cuts) c.new.ensures.rows (number-is c.new.result c.len.result (length c.begin_row.new.cuts) c.len.ensures c.new.ensures.number) ∙ (sym row ∙ c.loop-row.invariant.1))

pub begin_row-requires-clause-place : goal.begin_row-requires-clause-place
begin_row-requires-clause-place g c =
    let split : c.loop-row.left.now ≡ c.in-Some.row.now ∷ c.in-Some.others.now = search rules in
    let value : slot_at c.in-Some.row.now.place c.args.self.slots.now ≡ Some c.in-Some-slot_value.value.now = search rules in
    row-begins (search_of g.L.Lookup.bindings c.args.self) c.loop-row.cuts (asked_slot c.in-Some.row.now) (map asked_slot c.in-Some.others.now) c.in-Some-slot_value.value.now (fields_in c.in-Some-slot_value.value.now)
    (subst (λ rows. AreNext (search_of g.L.Lookup.bindings c.args.self) (length c.loop-row.cuts) (map asked_slot rows)) split c.loop-row.invariant.3) value refl

pub returns-then-not-is_empty-clause-open : goal.returns-then-not-is_empty-clause-open
returns-then-not-is_empty-clause-open g c =
    let split : c.loop-row.left.now ≡ c.in-Some.row.now ∷ c.in-Some.others.now = search rules in
    let count : length c.begin_row.new.cuts + length c.in-Some-2.rest.constraints.now ≡ length c.loop-row.cuts + length c.in-Some.row.now.row = search rules in
    let next = subst (λ rows. AreNext (search_of g.L.Lookup.bindings c.args.self) (length c.loop-row.cuts) (map asked_slot rows)) split c.loop-row.invariant.3 in
    let place : IsAt (search_of g.L.Lookup.bindings c.args.self) (fields_in c.in-Some-slot_value.value.now) c.begin_row.new.cuts c.in-Some-2.rest.at (map constraint_of c.in-Some-2.rest.constraints.now) = search rules in
    opened (search_of g.L.Lookup.bindings c.args.self) c.begin_row.new.cuts c.new.result c.in-Some.others.now c.new.ensures.choice
    (c.new.ensures.inside (search_of g.L.Lookup.bindings c.args.self) c.begin_row.new.cuts c.len.ensures place
    (next-count (search_of g.L.Lookup.bindings c.args.self) (length c.loop-row.cuts + length c.in-Some.row.now.row) (length c.begin_row.new.cuts + length c.in-Some-2.rest.constraints.now) (map asked_slot c.in-Some.others.now) (sym count)
    (rows-after (search_of g.L.Lookup.bindings c.args.self) (length c.loop-row.cuts) (asked_slot c.in-Some.row.now) (map asked_slot c.in-Some.others.now) next)))
    c.new.ensures.rows (number-is c.new.result c.len.result (length c.begin_row.new.cuts) c.len.ensures c.new.ensures.number)
    (other_slots_may (asked_slot c.in-Some.row.now) (map asked_slot c.in-Some.others.now) c.args.self.slots.now (ap (λ rows. may_take_slots (map asked_slot rows) c.args.self.slots.now) (sym split) ∙ c.loop-row.invariant.0))

pub returns-then-not-is_empty-clause-keeps : goal.returns-then-not-is_empty-clause-keeps
returns-then-not-is_empty-clause-keeps g c =
    let keeps : KeepsFirst (length c.loop-row.cuts) c.loop-row.cuts c.begin_row.new.cuts = search rules in
    keeps-through (length c.args.cuts.now) (length c.loop-row.cuts) c.args.cuts.now c.loop-row.cuts c.begin_row.new.cuts c.loop-row.invariant.4.1 c.loop-row.invariant.4 keeps

pub returns-then-not-is_empty-clause-order : goal.returns-then-not-is_empty-clause-order
returns-then-not-is_empty-clause-order g c =
    let keeps : KeepsFirst (length c.loop-row.cuts) c.loop-row.cuts c.begin_row.new.cuts = search rules in
    not-before c.new.result (length c.args.cuts.now) (length c.begin_row.new.cuts) (omega (arith, keeps.1, c.loop-row.invariant.4.1)) (number-is c.new.result c.len.result (length c.begin_row.new.cuts) c.len.ensures c.new.ensures.number)

pub returns-then-not-is_empty-clause-tries : goal.returns-then-not-is_empty-clause-tries
returns-then-not-is_empty-clause-tries g c =
    let split : c.loop-row.left.now ≡ c.in-Some.row.now ∷ c.in-Some.others.now = search rules in
    let segments : segments_wanted (map constraint_of c.in-Some-2.rest.constraints.now) ≡ segments_wanted c.in-Some.row.now.row = search rules in
    as_many_tries c.new.result (segments_wanted (map constraint_of c.in-Some-2.rest.constraints.now) + segments_in (map asked_slot c.in-Some.others.now)) (segments_in (map asked_slot c.args.rows.now))
    (ap (λ n. n + segments_in (map asked_slot c.in-Some.others.now)) segments ∙ (sym (ap (λ rows. segments_in (map asked_slot rows)) split) ∙ c.loop-row.invariant.2))
    c.new.ensures.tries

pub loop-row-preserved : goal.loop-row-preserved
loop-row-preserved g c =
    let split : c.loop-row.left.now ≡ c.in-Some.row.now ∷ c.in-Some.others.now = search rules in
    let value : slot_at c.in-Some.row.now.place c.args.self.slots.now ≡ Some c.in-Some-slot_value.value.now = search rules in
    let ways : map (after_cuts c.loop-row.cuts) (ways_of_row c.in-Some.row.now.row (fields_in c.in-Some-slot_value.value.now) (env_after (search_of g.L.Lookup.bindings c.args.self) c.loop-row.cuts)) ≡ endings (map constraint_of c.in-Some-2.rest.constraints.now) (begun_at (search_of g.L.Lookup.bindings c.args.self) (fields_in c.in-Some-slot_value.value.now) c.begin_row.new.cuts c.in-Some-2.rest.at) = search rules in
    let row = begun_row c.loop-row.left.now c.in-Some.others.now c.in-Some.row.now (search_of g.L.Lookup.bindings c.args.self) c.in-Some-slot_value.value.now (fields_in c.in-Some-slot_value.value.now) c.loop-row.cuts
    (endings (map constraint_of c.in-Some-2.rest.constraints.now) (begun_at (search_of g.L.Lookup.bindings c.args.self) (fields_in c.in-Some-slot_value.value.now) c.begin_row.new.cuts c.in-Some-2.rest.at)) split value refl ways in
    let none : c.in-Some-2.rest.constraints.now ≡ [] = none-left c.in-Some-2.rest.constraints.now c.is_empty.result c.is_empty.ensures c.if-not-is_empty.false in
    let ended : c.in-Some-2.rest.at ≡ length (fields_in c.in-Some-slot_value.value.now) = search rules in
    let segments : segments_wanted (map constraint_of c.in-Some-2.rest.constraints.now) ≡ segments_wanted c.in-Some.row.now.row = search rules in
    let count : length c.begin_row.new.cuts + length c.in-Some-2.rest.constraints.now ≡ length c.loop-row.cuts + length c.in-Some.row.now.row = search rules in
    let next = subst (λ rows. AreNext (search_of g.L.Lookup.bindings c.args.self) (length c.loop-row.cuts) (map asked_slot rows)) split c.loop-row.invariant.3 in
    let keeps : KeepsFirst (length c.loop-row.cuts) c.loop-row.cuts c.begin_row.new.cuts = search rules in
    let last : (endings (map constraint_of c.in-Some-2.rest.constraints.now) (begun_at (search_of g.L.Lookup.bindings c.args.self) (fields_in c.in-Some-slot_value.value.now) c.begin_row.new.cuts c.in-Some-2.rest.at)) ≡ taken_by (search_of g.L.Lookup.bindings c.args.self) c.begin_row.new.cuts ∷ [] =
    ap (λ cs. endings (map constraint_of cs) (begun_at (search_of g.L.Lookup.bindings c.args.self) (fields_in c.in-Some-slot_value.value.now) c.begin_row.new.cuts c.in-Some-2.rest.at)) none ∙ all-ended (fields_in c.in-Some-slot_value.value.now) c.in-Some-2.rest.at c.begin_row.new.cuts (env_after (search_of g.L.Lookup.bindings c.args.self) c.begin_row.new.cuts) ended in (
      other_slots_may (asked_slot c.in-Some.row.now) (map asked_slot c.in-Some.others.now) c.args.self.slots.now (ap (λ rows. may_take_slots (map asked_slot rows) c.args.self.slots.now) (sym split) ∙ c.loop-row.invariant.0),
      ap (followed_by_rows (map asked_slot c.in-Some.others.now) c.args.self.slots.now) (sym last) ∙ (sym row ∙ c.loop-row.invariant.1),
      none-here c.in-Some.row.now.row (map asked_slot c.in-Some.others.now) (sym segments ∙ ap (λ cs. segments_wanted (map constraint_of cs)) none) ∙ (sym (ap (λ rows. segments_in (map asked_slot rows)) split) ∙ c.loop-row.invariant.2),
      next-count (search_of g.L.Lookup.bindings c.args.self) (length c.loop-row.cuts + length c.in-Some.row.now.row) (length c.begin_row.new.cuts) (map asked_slot c.in-Some.others.now) (sym count ∙ (ap (λ cs. length c.begin_row.new.cuts + length cs) none ∙ omega arith))
          (rows-after (search_of g.L.Lookup.bindings c.args.self) (length c.loop-row.cuts) (asked_slot c.in-Some.row.now) (map asked_slot c.in-Some.others.now) next),
      keeps-through (length c.args.cuts.now) (length c.loop-row.cuts) c.args.cuts.now c.loop-row.cuts c.begin_row.new.cuts c.loop-row.invariant.4.1 c.loop-row.invariant.4 keeps,
    )
  where
    none-here : (row : List Constraint) (ss : List SlotValue) → segments_wanted row ≡ 0 → segments_in ss ≡ segments_wanted row + segments_in ss
    none-here row ss e = omega (arith, e)
