use Rattle.std.proofs.Common.{arith, ◌∙◌, ◌++◌, ◌<◌, ap, flat_map, length, map, slice_get}
use Rattle.cb_constraints.specs.Binders.{constraints_in}
use Rattle.cb_constraints.specs.Bound.{given, given_if, newly_bound}
use Rattle.cb_constraints.specs.Internal.Known.{bindings_after}
use Rattle.cb_constraints.specs.Internal.Values.{values}
use Rattle.cb_exprs.specs.Bindings.{value_at}
use Rattle.cb_constraints.proofs.GivenLaws.{all_given, at_its_place, first_within, given_after, given_ended, given_on}
use Rattle.cb_constraints.proofs.given.newly_bound.Goals as goal

pub loop-name-init : goal.loop-name-init
loop-name-init g c =
    let after = bindings_after (constraints_in c.args.body.now) (values c.args.took) (g.L.Lookup.bindings c.args.before.now) in
    ap (λ vs. vs ++ flat_map (given (g.L.Lookup.bindings c.args.before.now) after) (map (λ e. e.0) c.variables-variables.result.now)) c.new-bound.ensures.items
    ∙ all_given c.args.body.now (g.L.Lookup.bindings c.args.before.now) after c.variables-variables.result.now c.variables-variables.ensures

pub give-requires : goal.give-requires
give-requires g c =
    let cs = constraints_in c.args.body.now in
    let e = c.loop-name-item.result in
    let within : e.1.constraint < length cs =
    first_within e.0 cs e.1 (at_its_place cs c.variables-variables.result.now c.loop-name.name-index e c.variables-variables.ensures c.loop-name-test.true c.loop-name-item.is) in
    omega arith

pub loop-name-preserved : goal.loop-name-preserved
loop-name-preserved g c =
    let cs = constraints_in c.args.body.now in
    let vs = values c.args.took in
    let e = c.loop-name-item.result in
    given_on (given (g.L.Lookup.bindings c.args.before.now) (bindings_after cs vs (g.L.Lookup.bindings c.args.before.now))) c.variables-variables.result.now c.loop-name.name-index e c.loop-name.bound.items
    (given_if e.0 (value_at e.0 (g.L.Lookup.bindings c.args.before.now).variables) (slice_get vs e.1.constraint)) c.give.new.bound.items
    (newly_bound c.args.body.now (g.L.Lookup.bindings c.args.before.now) (bindings_after cs vs (g.L.Lookup.bindings c.args.before.now)))
    c.loop-name-test.true c.loop-name-item.is c.in_ok-give.ensures
    (given_after e.0 cs vs (g.L.Lookup.bindings c.args.before.now) e.1 c.requires
    (at_its_place cs c.variables-variables.result.now c.loop-name.name-index e c.variables-variables.ensures c.loop-name-test.true c.loop-name-item.is))
    c.loop-name.invariant

pub returns : goal.returns
returns g c =
    let cs = constraints_in c.args.body.now in
    let vs = values c.args.took in
    let after = bindings_after cs vs (g.L.Lookup.bindings c.args.before.now) in
    given_ended (given (g.L.Lookup.bindings c.args.before.now) after) c.variables-variables.result.now c.loop-name.name-index c.loop-name.bound.items (newly_bound c.args.body.now (g.L.Lookup.bindings c.args.before.now) after)
    c.loop-name-test.false c.loop-name.invariant
