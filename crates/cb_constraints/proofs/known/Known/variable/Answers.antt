use Rattle.std.proofs.Common.{◌≡◌, ◌∙◌, None, Some, length, ap, option_map, rules, slice_index_or, sym}
use Rattle.std.proofs.lemmas.Result.{IfOk-weaker}
use Rattle.cb_constraints.specs.Binders.{constraints_in}
use Rattle.cb_constraints.specs.Internal.Places.{first_place, if_before}
use Rattle.cb_constraints.specs.Holding.{tested_value}
use Rattle.cb_constraints.specs.Internal.Values.{values}
use Rattle.cb_constraints.proofs.KnownLaws.{found_at_place, found_before}
use Rattle.cb_constraints.proofs.TakenLaws.{taken_if_before}
use Rattle.cb_constraints.proofs.known.Known.variable.Goals as goal
use Rattle.cb_exprs.specs.Bindings.{value_at}

pub returns-in-Some : goal.returns-in-Some
returns-in-Some g c =
    let had : value_at c.args.name.now (g.L.Lookup.bindings c.args.self.now.before.now).variables ≡ Some c.in-Some.value = search rules in
    sym (found_before c.args.name.now (constraints_in c.args.self.now.body.now) (values c.args.self.now.took.now) (tested_value c.args.self.now.tested) (g.L.Lookup.bindings c.args.self.now.before.now) c.args.check c.in-Some.value had)

pub returns-in-Some-first_before : goal.returns-in-Some-first_before
returns-in-Some-first_before g c =
    let none : value_at c.args.name.now (g.L.Lookup.bindings c.args.self.now.before.now).variables ≡ None = search rules in
    let place : if_before (length (values c.args.self.now.took.now)) c.args.check (first_place c.args.name.now (constraints_in c.args.self.now.body.now)) ≡ Some c.in-Some-first_before.place = search rules in
    IfOk-weaker c.value_at_one.result _ _
    (λ found is. is
    ∙ (sym (taken_if_before (values c.args.self.now.took.now) (tested_value c.args.self.now.tested) c.args.check (first_place c.args.name.now (constraints_in c.args.self.now.body.now))
    ∙ ap (option_map (λ p. slice_index_or (values c.args.self.now.took.now) p.constraint (tested_value c.args.self.now.tested))) place)
    ∙ sym (found_at_place c.args.name.now (constraints_in c.args.self.now.body.now) (values c.args.self.now.took.now) (tested_value c.args.self.now.tested) (g.L.Lookup.bindings c.args.self.now.before.now) c.args.check none)))
    c.value_at_one.ensures

pub returns-in-None : goal.returns-in-None
returns-in-None g c =
    let none : value_at c.args.name.now (g.L.Lookup.bindings c.args.self.now.before.now).variables ≡ None = search rules in
    let place : if_before (length (values c.args.self.now.took.now)) c.args.check (first_place c.args.name.now (constraints_in c.args.self.now.body.now)) ≡ None = search rules in
    sym (found_at_place c.args.name.now (constraints_in c.args.self.now.body.now) (values c.args.self.now.took.now) (tested_value c.args.self.now.tested) (g.L.Lookup.bindings c.args.self.now.before.now) c.args.check none
    ∙ (taken_if_before (values c.args.self.now.took.now) (tested_value c.args.self.now.tested) c.args.check (first_place c.args.name.now (constraints_in c.args.self.now.body.now))
    ∙ ap (option_map (λ p. slice_index_or (values c.args.self.now.took.now) p.constraint (tested_value c.args.self.now.tested))) place))
