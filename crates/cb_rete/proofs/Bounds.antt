-- How often patterns may be tested: the tests for shapes, and those of the joins.
use Rattle.std.proofs.Common.{◌≡◌, ◌≤◌, ◌+◌, List, [], ◌∷◌, Option, ap, ap₂, arith, refl}
use Rattle.cb_branch.specs.Patterns.{shape_tests}
use Rattle.cb_facts.specs.FactLists.{IndexedFacts}
use Rattle.cb_facts.specs.Facts.{FactValue}
use Rattle.cb_matches.specs.Networks.{Conditions}
use Rattle.cb_matches.specs.Order.{IsRising}
use Rattle.cb_matches.specs.Probes.{branch_probes, branches_probes, rules_probes}
use Rattle.cb_rete.specs.Changing.{TurnValue, join_tests}
use Rattle.cb_rule_keys.proofs.Sums.{rules_within}
use Rattle.cb_rule_keys.specs.Sums.{branches_sum, rules_sum}
use Rattle.cb_rules.specs.Elements.{Elements}

-- the bound of rules as sums
branches_bound : (added : Option FactValue) (fs fs' : IndexedFacts) (bs : List Elements) → branches_probes added fs fs' bs ≡ branches_sum (branch_probes added fs fs') bs
branches_bound added fs fs' [] = refl
branches_bound added fs fs' (es ∷ bs) = ap (λ n. branch_probes added fs fs' es + n) (branches_bound added fs fs' bs)

rules_bound : (added : Option FactValue) (fs fs' : IndexedFacts) (rs : Conditions) → rules_probes added fs fs' rs ≡ rules_sum (branch_probes added fs fs') rs
rules_bound added fs fs' [] = refl
rules_bound added fs fs' (r ∷ rs) = ap₂ (λ m n. m + n) (branches_bound added fs fs' r.1) (rules_bound added fs fs' rs)

-- those of joins and those for shapes together are within it
module _ (each : (added : Option FactValue) (fs fs' : IndexedFacts) (es : Elements) → IsRising fs → IsRising fs' → shape_tests added es ≤ branch_probes added fs fs' es)
    (turn : TurnValue) (rising : IsRising turn.before) (rising_now : IsRising turn.after) (rs : Conditions) where
  pub all_within : rules_sum (join_tests turn) rs + rules_sum (shape_tests turn.added) rs ≤ rules_probes turn.added turn.before turn.after rs
  all_within =
      let e = rules_bound turn.added turn.before turn.after rs in
      let l = rules_within (join_tests turn) (shape_tests turn.added) (branch_probes turn.added turn.before turn.after)
      (λ es. let few = each turn.added turn.before turn.after es rising rising_now in omega (arith, few)) rs in
      omega (arith, e, l)
