use Rattle.std.proofs.Common.{◌≡◌, ◌∙◌, ◌++◌, ◌==◌, ◌∷◌, [], Some, ap, false, length, map, rules, subst, sym, true}
use Rattle.std.proofs.lemmas.List.{append-nil}
use Rattle.cb_fit.proofs.Choices.{last-tries, last-ways, taken-up}
use Rattle.cb_fit.proofs.Enough.{all_are_enough, some_are_enough, some_kept}
use Rattle.cb_fit.specs.Internal.Choices.{AreEnough, as_ways, kept_with, ways_left}
use Rattle.cb_fit.specs.WayValues.{way_of}
use Rattle.cb_fit.specs.Internal.Searches.{search_of}
use Rattle.cb_fit.proofs.search.Search.run_from.Goals as goal

pub step-requires : goal.step-requires
step-requires g c =
    let last : c.loop-next.choices.items ≡ c.pop.new.self.items ++ c.in-Some.next ∷ [] = search rules in
    let up = taken-up (search_of g.L.Lookup.bindings c.args.self) c.loop-next.cuts c.loop-next.choices.items c.pop.new.self.items c.in-Some.next last c.loop-next.invariant.0 in
    record { choice = up.choice; «open» = up.others; order = up.order }

pub loop-next-smaller : goal.loop-next-smaller
loop-next-smaller g c =
    let last : c.loop-next.choices.items ≡ c.pop.new.self.items ++ c.in-Some.next ∷ [] = search rules in
    last-tries c.loop-next.choices.items c.pop.new.self.items c.step.new.choices.items c.in-Some.next last c.in_ok-step.ensures.tries

pub loop-next-preserved : goal.loop-next-preserved
loop-next-preserved g c =
    let last : c.loop-next.choices.items ≡ c.pop.new.self.items ++ c.in-Some.next ∷ [] = search rules in (
      c.in_ok-step.ensures.open,
      c.in_ok-step.ensures.ways
          ∙ (ap (λ xs. map way_of c.loop-next.kept.items ++ as_ways (search_of g.L.Lookup.bindings c.args.self) xs) (last-ways (search_of g.L.Lookup.bindings c.args.self) c.loop-next.cuts c.loop-next.choices.items c.pop.new.self.items c.in-Some.next last)
          ∙ c.loop-next.invariant.1),
    )

pub returns-then-not-is_empty : goal.returns-then-not-is_empty
returns-then-not-is_empty g c =
    let last : c.loop-next.choices.items ≡ c.pop.new.self.items ++ c.in-Some.next ∷ [] = search rules in
    let all = c.in_ok-step.ensures.ways
    ∙ (ap (λ xs. map way_of c.loop-next.kept.items ++ as_ways (search_of g.L.Lookup.bindings c.args.self) xs) (last-ways (search_of g.L.Lookup.bindings c.args.self) c.loop-next.cuts c.loop-next.choices.items c.pop.new.self.items c.in-Some.next last)
    ∙ c.loop-next.invariant.1) in
    let one : c.args.is_one_enough ≡ true = search rules in
    let some : (length c.step.new.kept.items == 0) ≡ false = search rules in
    subst (λ b. AreEnough b (map way_of c.step.new.kept.items) (kept_with (search_of g.L.Lookup.bindings c.args.self) c.args.cuts.now c.args.kept.now.items (Some c.args.first))) (sym one)
    (some_are_enough (map way_of c.step.new.kept.items) (as_ways (search_of g.L.Lookup.bindings c.args.self) (ways_left (search_of g.L.Lookup.bindings c.args.self) c.step.new.cuts c.step.new.choices.items)) _ (some_kept c.step.new.kept.items some) all)

pub returns : goal.returns
returns g c =
    let none : c.loop-next.choices.items ≡ [] = search rules in
    all_are_enough c.args.is_one_enough _ _
    (sym (ap (λ cs. map way_of c.loop-next.kept.items ++ as_ways (search_of g.L.Lookup.bindings c.args.self) (ways_left (search_of g.L.Lookup.bindings c.args.self) c.loop-next.cuts cs)) none ∙ append-nil (map way_of c.loop-next.kept.items)) ∙ c.loop-next.invariant.1)
