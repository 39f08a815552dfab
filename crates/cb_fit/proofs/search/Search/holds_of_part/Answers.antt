use Rattle.std.proofs.Common.{◌∙◌, ◌++◌, ◌-◌, ◌∷◌, [], ap, drop, length, refl, subst, sym, take, true}
use Rattle.cb_constraints.specs.Binders.{constraints_in}
use Rattle.cb_constraints.specs.Constraints.{constraint_of, demand_of}
use Rattle.cb_constraints.specs.Holding.{Follows, Meets, after_demand, checks_in, tested_value}
use Rattle.cb_constraints.proofs.FollowLaws.{known_follows}
use Rattle.cb_constraints.specs.Internal.Known.{bindings_before}
use Rattle.cb_constraints.specs.Internal.RowFields.{row_fields}
use Rattle.cb_constraints.specs.Internal.Values.{values_taken}
use Rattle.cb_facts.specs.Facts.{content_of}
use Rattle.cb_facts.specs.declared.value.Value.TheVariants as value
use Rattle.cb_fit.proofs.Standing.{first-next, holds-next, known-is, met-next, next-here, nothing-met, segment-met, segment-next, segment-tested}
use Rattle.cb_fit.proofs.Takes.{ok-then}
use Rattle.cb_fit.specs.Internal.{env_after}
use Rattle.cb_fit.specs.Internal.Searches.{search_of}
use Rattle.cb_fit.proofs.search.Search.holds_of_part.Goals as goal

pub returns-in-Nothing : goal.returns-in-Nothing
returns-in-Nothing g c =
    let v = value.Multi (take (c.args.to - c.args.from) (drop c.args.from (row_fields c.args.fields))) in
    segment-met (constraint_of c.args.constraint.now) (take (c.args.to - c.args.from) (drop c.args.from (row_fields c.args.fields))) (env_after (search_of g.L.Lookup.bindings c.args.self) c.args.cuts.now) (env_after (search_of g.L.Lookup.bindings c.args.self) (c.args.cuts.now ++ (c.args.to - c.args.from) ∷ [])) true c.requires.segment
    (met-next (search_of g.L.Lookup.bindings c.args.self) c.args.cuts.now (c.args.to - c.args.from) (constraint_of c.args.constraint.now) v true
    (first-next (search_of g.L.Lookup.bindings c.args.self) (row_fields c.args.fields) c.args.cuts.now c.args.from (constraint_of c.args.constraint.now) [] c.requires.place)
    (segment-next (search_of g.L.Lookup.bindings c.args.self) (row_fields c.args.fields) c.args.cuts.now c.args.from c.args.to (constraint_of c.args.constraint.now) [] c.requires.place c.requires.segment)
    (nothing-met (demand_of c.args.constraint.now.demand) v (bindings_before (constraints_in c.args.self.body.now) (values_taken c.args.self.body.now (content_of c.args.self.content.now) c.args.cuts.now) v (g.L.Lookup.bindings c.args.self.before.now)) (ap demand_of c.in-Nothing.is)))

pub returns-then-holds_of_all : goal.returns-then-holds_of_all
returns-then-holds_of_all g c =
    let v = value.Multi (take (c.args.to - c.args.from) (drop c.args.from (row_fields c.args.fields))) in
    segment-met (constraint_of c.args.constraint.now) (take (c.args.to - c.args.from) (drop c.args.from (row_fields c.args.fields))) (env_after (search_of g.L.Lookup.bindings c.args.self) c.args.cuts.now) (env_after (search_of g.L.Lookup.bindings c.args.self) (c.args.cuts.now ++ (c.args.to - c.args.from) ∷ [])) true c.requires.segment
    (holds-next (search_of g.L.Lookup.bindings c.args.self) c.args.cuts.now (length c.args.cuts.now) (c.args.to - c.args.from) (constraint_of c.args.constraint.now) v refl (c.requires.all c.if-holds_of_all.true)
    (first-next (search_of g.L.Lookup.bindings c.args.self) (row_fields c.args.fields) c.args.cuts.now c.args.from (constraint_of c.args.constraint.now) [] c.requires.place)
    (segment-next (search_of g.L.Lookup.bindings c.args.self) (row_fields c.args.fields) c.args.cuts.now c.args.from c.args.to (constraint_of c.args.constraint.now) [] c.requires.place c.requires.segment))

pub meets-requires : goal.meets-requires
meets-requires g c =
    let took = c.known-known.result.took.now in
    let is = known-is (search_of g.L.Lookup.bindings c.args.self) c.args.cuts.now c.in_ok-segment.segment c.known-known.result.body.now took.body.now (content_of took.content.now) took.cuts.now (tested_value c.known-known.result.tested) (g.L.Lookup.bindings c.known-known.result.before.now)
    c.known-known.ensures.body (ap (λ t. t.body.now) c.known-known.ensures.took ∙ c.taken-took.ensures.body) (ap content_of (ap (λ t. t.content.now) c.known-known.ensures.took ∙ c.taken-took.ensures.content))
    (ap (λ t. t.cuts.now) c.known-known.ensures.took ∙ c.taken-took.ensures.cuts) (ap tested_value c.known-known.ensures.tested) (ap g.L.Lookup.bindings c.known-known.ensures.before) in
    let next = first-next (search_of g.L.Lookup.bindings c.args.self) (row_fields c.args.fields) c.args.cuts.now c.args.from (constraint_of c.args.constraint.now) [] c.requires.place in
    subst (λ f. Follows f (demand_of c.args.constraint.now.demand) c.in_ok-segment.segment) (sym is)
    (known_follows (constraints_in c.args.self.body.now) (values_taken c.args.self.body.now (content_of c.args.self.content.now) c.args.cuts.now) c.in_ok-segment.segment (g.L.Lookup.bindings c.args.self.before.now)
    (constraint_of c.args.constraint.now) next.0 (next-here (search_of g.L.Lookup.bindings c.args.self) c.args.cuts.now (constraint_of c.args.constraint.now) next))

pub returns : goal.returns
returns g c =
    let took = c.known-known.result.took.now in
    let is = known-is (search_of g.L.Lookup.bindings c.args.self) c.args.cuts.now c.in_ok-segment.segment c.known-known.result.body.now took.body.now (content_of took.content.now) took.cuts.now (tested_value c.known-known.result.tested) (g.L.Lookup.bindings c.known-known.result.before.now)
    c.known-known.ensures.body (ap (λ t. t.body.now) c.known-known.ensures.took ∙ c.taken-took.ensures.body) (ap content_of (ap (λ t. t.content.now) c.known-known.ensures.took ∙ c.taken-took.ensures.content))
    (ap (λ t. t.cuts.now) c.known-known.ensures.took ∙ c.taken-took.ensures.cuts) (ap tested_value c.known-known.ensures.tested) (ap g.L.Lookup.bindings c.known-known.ensures.before) in
    let next = first-next (search_of g.L.Lookup.bindings c.args.self) (row_fields c.args.fields) c.args.cuts.now c.args.from (constraint_of c.args.constraint.now) [] c.requires.place in
    ok-then c.meets.result
    (λ holds met. segment-tested (search_of g.L.Lookup.bindings c.args.self) (row_fields c.args.fields) c.args.cuts.now c.args.from c.args.to (constraint_of c.args.constraint.now) c.in_ok-segment.segment holds c.requires.place c.requires.segment c.in_ok-segment.ensures
    (λ n value. met-next (search_of g.L.Lookup.bindings c.args.self) c.args.cuts.now n (constraint_of c.args.constraint.now) c.in_ok-segment.segment holds next value
    (subst (λ f. Meets holds (f (checks_in (demand_of c.args.constraint.now.demand))) (after_demand (demand_of c.args.constraint.now.demand) c.in_ok-segment.segment (f 0))) is met)))
    c.meets.ensures
