use Rattle.std.proofs.Common.{◌∙◌, ap, subst, sym}
use Rattle.cb_constraints.specs.Binders.{constraints_in}
use Rattle.cb_constraints.specs.Constraints.{constraint_of, demand_of}
use Rattle.cb_constraints.specs.Holding.{Follows, Meets, after_demand, checks_in, tested_value}
use Rattle.cb_constraints.proofs.FollowLaws.{known_follows}
use Rattle.cb_constraints.specs.Internal.Values.{values_taken}
use Rattle.cb_facts.specs.Facts.{content_of}
use Rattle.cb_fit.proofs.Standing.{holds-next, known-is, met-next, next-here}
use Rattle.cb_fit.proofs.Takes.{ok-then}
use Rattle.cb_fit.specs.Internal.Searches.{search_of}
use Rattle.cb_fit.proofs.search.Search.field_holds.Goals as goal

pub returns-then-branch : goal.returns-then-branch
returns-then-branch g c n is =
    holds-next (search_of g.L.Lookup.bindings c.args.self) c.args.cuts.now c.len.result n (constraint_of c.args.constraint.now) (tested_value c.args.tested) c.len.ensures (c.in_ok-holds_of_all.ensures c.if-branch.true) c.requires.next is

pub meets_beyond_constants-requires-clause-follows : goal.meets_beyond_constants-requires-clause-follows
meets_beyond_constants-requires-clause-follows g c =
    let took = c.known-known.result.took.now in
    let is = known-is (search_of g.L.Lookup.bindings c.args.self) c.args.cuts.now (tested_value c.args.tested) c.known-known.result.body.now took.body.now (content_of took.content.now) took.cuts.now (tested_value c.known-known.result.tested) (g.L.Lookup.bindings c.known-known.result.before.now)
    c.known-known.ensures.body (ap (λ t. t.body.now) c.known-known.ensures.took ∙ c.taken-took.ensures.body) (ap content_of (ap (λ t. t.content.now) c.known-known.ensures.took ∙ c.taken-took.ensures.content))
    (ap (λ t. t.cuts.now) c.known-known.ensures.took ∙ c.taken-took.ensures.cuts) (ap tested_value c.known-known.ensures.tested) (ap g.L.Lookup.bindings c.known-known.ensures.before) in
    subst (λ f. Follows f (demand_of c.args.constraint.now.demand) (tested_value c.args.tested)) (sym is)
    (known_follows (constraints_in c.args.self.body.now) (values_taken c.args.self.body.now (content_of c.args.self.content.now) c.args.cuts.now) (tested_value c.args.tested) (g.L.Lookup.bindings c.args.self.before.now)
    (constraint_of c.args.constraint.now) c.requires.next.0 (next-here (search_of g.L.Lookup.bindings c.args.self) c.args.cuts.now (constraint_of c.args.constraint.now) c.requires.next))

pub returns : goal.returns
returns g c =
    let took = c.known-known.result.took.now in
    let is = known-is (search_of g.L.Lookup.bindings c.args.self) c.args.cuts.now (tested_value c.args.tested) c.known-known.result.body.now took.body.now (content_of took.content.now) took.cuts.now (tested_value c.known-known.result.tested) (g.L.Lookup.bindings c.known-known.result.before.now)
    c.known-known.ensures.body (ap (λ t. t.body.now) c.known-known.ensures.took ∙ c.taken-took.ensures.body) (ap content_of (ap (λ t. t.content.now) c.known-known.ensures.took ∙ c.taken-took.ensures.content))
    (ap (λ t. t.cuts.now) c.known-known.ensures.took ∙ c.taken-took.ensures.cuts) (ap tested_value c.known-known.ensures.tested) (ap g.L.Lookup.bindings c.known-known.ensures.before) in
    ok-then c.meets_beyond_constants.result
    (λ holds met n next. met-next (search_of g.L.Lookup.bindings c.args.self) c.args.cuts.now n (constraint_of c.args.constraint.now) (tested_value c.args.tested) holds c.requires.next next
    (subst (λ f. Meets holds (f (checks_in (demand_of c.args.constraint.now.demand))) (after_demand (demand_of c.args.constraint.now.demand) (tested_value c.args.tested) (f 0))) is met))
    c.meets_beyond_constants.ensures
