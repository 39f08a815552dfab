use Rattle.std.proofs.Common.{◌≡◌, ◌++◌, [], ◌∷◌, drop, map}
use Rattle.std.specs.List.{filter}
use Rattle.cb_rematch.proofs.satisfy.+satisfying.Given as goal
use Rattle.cb_rules.specs.Elements.{element_of, elements}
use Rattle.cb_matches.specs.Matches.{after_all, group_holds}

abbrev pub invariant-satisfy_all-loop-element : goal.invariant-satisfy_all-loop-element
invariant-satisfy_all-loop-element g l =
    after_all (elements (map element_of (drop l.element-index l.branch))) l.setting.facts.now l.all.items ≡ after_all (elements (map element_of l.branch)) l.setting.facts.now l.initial.all.items

abbrev pub invariant-satisfy_group-loop-partial : goal.invariant-satisfy_group-loop-partial
invariant-satisfy_group-loop-partial g l =
    l.all.items ++ filter (λ m. group_holds l.positive (after_all (elements (map element_of l.inner)) l.setting.facts.now (m ∷ []))) l.partial-iterator.rest.items
    ≡ filter (λ m. group_holds l.positive (after_all (elements (map element_of l.inner)) l.setting.facts.now (m ∷ []))) l.initial.partial-iterator.rest.items
