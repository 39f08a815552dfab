use Rattle.std.proofs.Common.{◌≡◌, ◌∙◌, ◌+◌, ◌-◌, ◌≤◌, ◌∷◌, [], ap, length, map, refl, rules, sym}
use Rattle.cb_constraints.specs.Constraints.{constraint_of}
use Rattle.cb_constraints.specs.Internal.RowFields.{row_fields}
use Rattle.cb_fit.proofs.Numbers.{first_place, no-numbers, no_place}
use Rattle.cb_fit.proofs.Standing.{kept-again, within-taken}
use Rattle.cb_fit.specs.Internal.{begun_at, begun_if, with_group}
use Rattle.cb_fit.specs.Internal.Choices.{cuts_before, group_from}
use Rattle.cb_fit.specs.Internal.Searches.{search_of}
use Rattle.cb_fit.proofs.choice.Choice.take.Goals as goal

pub loop-to-init : goal.loop-to-init
loop-to-init g c = (
  no-numbers (with_group (constraint_of c.args.self.now.constraint.now) (map constraint_of c.args.self.now.ones.now) (begun_at (search_of g.L.Lookup.bindings c.args.search) (row_fields c.args.self.now.fields) (cuts_before c.args.self.now c.args.cuts.now) c.args.self.now.at)) (c.args.self.now.to - c.args.self.now.at) c.args.self.now.to,
  (refl, within-taken c.args.self.now.number c.args.cuts.now c.requires.inside.number),
)

pub loop-to-preserved : goal.loop-to-preserved
loop-to-preserved g c =
    let cut : c.truncate.new.self ≡ cuts_before c.args.self.now c.args.cuts.now = c.truncate.ensures ∙ c.loop-to.invariant.1.0 in
    let none : group_from (search_of g.L.Lookup.bindings c.args.search) (cuts_before c.args.self.now c.args.cuts.now) c.args.self.now c.loop-to.to 1 ≡ [] =
    ap (λ before. group_from (search_of g.L.Lookup.bindings c.args.search) before c.args.self.now c.loop-to.to 1) (sym cut)
    ∙ (c.in_ok-take_up_to.ensures.taken ∙ ap (λ b. begun_if b (begun_at (search_of g.L.Lookup.bindings c.args.search) (row_fields c.args.self.now.fields) c.take_up_to.new.cuts (c.loop-to.to + length c.args.self.now.ones.now))) c.if-branch.false) in
    let order : c.args.self.now.to ≤ c.loop-to.to = search rules in (
      no_place (with_group (constraint_of c.args.self.now.constraint.now) (map constraint_of c.args.self.now.ones.now) (begun_at (search_of g.L.Lookup.bindings c.args.search) (row_fields c.args.self.now.fields) (cuts_before c.args.self.now c.args.cuts.now) c.args.self.now.at))
          c.args.self.now.at c.args.self.now.to c.loop-to.to c.requires.choice.begun order c.loop-to.invariant.0 none,
      kept-again c.args.self.now.number c.args.cuts.now c.loop-to.cuts c.truncate.new.self c.take_up_to.new.cuts c.truncate.ensures c.loop-to.invariant.1 c.in_ok-take_up_to.ensures.keeps,
    )

pub returns-then-branch-clause-taken : goal.returns-then-branch-clause-taken
returns-then-branch-clause-taken g c =
    let cut : c.truncate.new.self ≡ cuts_before c.args.self.now c.args.cuts.now = c.truncate.ensures ∙ c.loop-to.invariant.1.0 in
    let one : group_from (search_of g.L.Lookup.bindings c.args.search) (cuts_before c.args.self.now c.args.cuts.now) c.args.self.now c.loop-to.to 1 ≡ begun_at (search_of g.L.Lookup.bindings c.args.search) (row_fields c.args.self.now.fields) c.take_up_to.new.cuts (c.loop-to.to + length c.args.self.now.ones.now) ∷ [] =
    ap (λ before. group_from (search_of g.L.Lookup.bindings c.args.search) before c.args.self.now c.loop-to.to 1) (sym cut)
    ∙ (c.in_ok-take_up_to.ensures.taken ∙ ap (λ b. begun_if b (begun_at (search_of g.L.Lookup.bindings c.args.search) (row_fields c.args.self.now.fields) c.take_up_to.new.cuts (c.loop-to.to + length c.args.self.now.ones.now))) c.if-branch.true) in
    let order : c.args.self.now.to ≤ c.loop-to.to = search rules in
    let last : c.loop-to.to ≤ c.args.self.now.last = search rules in
    first_place (with_group (constraint_of c.args.self.now.constraint.now) (map constraint_of c.args.self.now.ones.now) (begun_at (search_of g.L.Lookup.bindings c.args.search) (row_fields c.args.self.now.fields) (cuts_before c.args.self.now c.args.cuts.now) c.args.self.now.at))
    c.args.self.now.at c.args.self.now.to c.loop-to.to c.args.self.now.last (begun_at (search_of g.L.Lookup.bindings c.args.search) (row_fields c.args.self.now.fields) c.take_up_to.new.cuts (c.loop-to.to + length c.args.self.now.ones.now)) c.requires.choice.begun order last c.loop-to.invariant.0 one

pub returns-else-branch-clause-taken : goal.returns-else-branch-clause-taken
returns-else-branch-clause-taken g c =
    let cut : c.truncate.new.self ≡ cuts_before c.args.self.now c.args.cuts.now = c.truncate.ensures ∙ c.loop-to.invariant.1.0 in
    let none : group_from (search_of g.L.Lookup.bindings c.args.search) (cuts_before c.args.self.now c.args.cuts.now) c.args.self.now c.loop-to.to 1 ≡ [] =
    ap (λ before. group_from (search_of g.L.Lookup.bindings c.args.search) before c.args.self.now c.loop-to.to 1) (sym cut)
    ∙ (c.in_ok-take_up_to.ensures.taken ∙ ap (λ b. begun_if b (begun_at (search_of g.L.Lookup.bindings c.args.search) (row_fields c.args.self.now.fields) c.take_up_to.new.cuts (c.loop-to.to + length c.args.self.now.ones.now))) c.if-branch.false) in
    let reached : c.loop-to.to ≡ c.args.self.now.last = search rules in
    no_place (with_group (constraint_of c.args.self.now.constraint.now) (map constraint_of c.args.self.now.ones.now) (begun_at (search_of g.L.Lookup.bindings c.args.search) (row_fields c.args.self.now.fields) (cuts_before c.args.self.now c.args.cuts.now) c.args.self.now.at))
    c.args.self.now.at c.args.self.now.to c.args.self.now.last c.requires.choice.begun c.requires.choice.order
    (ap (λ to. group_from (search_of g.L.Lookup.bindings c.args.search) (cuts_before c.args.self.now c.args.cuts.now) c.args.self.now c.args.self.now.to (to - c.args.self.now.to)) (sym reached) ∙ c.loop-to.invariant.0)
    (ap (λ to. group_from (search_of g.L.Lookup.bindings c.args.search) (cuts_before c.args.self.now c.args.cuts.now) c.args.self.now to 1) (sym reached) ∙ none)
