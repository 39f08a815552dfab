-- How often patterns may be tested where a fact is added or taken out.
use Rattle.std.specs.Prelude.{◌+◌, ◌*◌, ℕ, Bool, List, [], ◌∷◌, Option, Some, None, length, not, if◌then◌else◌}
use Rattle.std.specs.Cmp.Lexicographic.{pointwise}
use Rattle.std.specs.List.{filter, list_any}
use Rattle.cb_constraints.specs.PatternValues.{PatternValue}
use Rattle.cb_facts.specs.FactLists.{IndexedFacts}
use Rattle.cb_facts.specs.Facts.{FactValue}
use Rattle.cb_fit.specs.Shapes.{has_shape}
use Rattle.cb_matches.specs.Keys.{part_eq}
use Rattle.cb_matches.specs.Matches.{Partial, after, no_parts}
use Rattle.cb_matches.specs.Networks.{Conditions}
use Rattle.cb_rules.specs.Elements.{Element, pattern, test, group, Elements, no_elements, element}

-- the fact has the shape of the pattern
abbrev pub is_candidate : PatternValue → ℕ × FactValue → Bool
is_candidate p f = has_shape p f.1

-- one of these has the parts of m
abbrev pub has_parts : List Partial → Partial → Bool
has_parts ms m = list_any (λ n. pointwise part_eq m.parts n.parts) ms

-- of the new partial matches those that were not there before, and those that were
unfoldable pub partials_come : List Partial → List Partial → List Partial
partials_come old new = filter (λ m. not (has_parts old m)) new

unfoldable pub partials_kept : List Partial → List Partial → List Partial
partials_kept old new = filter (has_parts old) new

-- how often a pattern may be tested on the fact that is added, if one is: once for the shape, and where the fact has it, with each
-- partial match that was before the pattern and still is
abbrev pub added_probes : PatternValue → Option FactValue → ℕ → ℕ
added_probes p None kept = 0
added_probes p (Some f) kept = 1 + (if has_shape p f then kept else 0)

abbrev mutual
  -- how often the pattern of an element, or those of a group, may be tested, where the facts and the partial matches before the
  -- element were these, and are those now: each partial match that came with each fact that has the shape, and the fact that is added
  pub element_probes : Option FactValue → IndexedFacts → IndexedFacts → Element → List Partial → List Partial → ℕ
  element_probes added fs fs' (pattern x p) old new =
      length (partials_come old new) * length (filter (is_candidate p) fs') + added_probes p added (length (partials_kept old new))
  element_probes added fs fs' (test t) old new = 0
  element_probes added fs fs' (group positive inner) old new = probes added fs fs' inner old new

  -- the same of elements, from left to right
  pub probes : Option FactValue → IndexedFacts → IndexedFacts → Elements → List Partial → List Partial → ℕ
  probes added fs fs' no_elements old new = 0
  probes added fs fs' (element e es) old new = element_probes added fs fs' e old new + probes added fs fs' es (after e fs old) (after e fs' new)

-- the same of a branch, of branches and of rules
abbrev pub branch_probes : Option FactValue → IndexedFacts → IndexedFacts → Elements → ℕ
branch_probes added fs fs' es = probes added fs fs' es (no_parts ∷ []) (no_parts ∷ [])

abbrev pub branches_probes : Option FactValue → IndexedFacts → IndexedFacts → List Elements → ℕ
branches_probes added fs fs' [] = 0
branches_probes added fs fs' (es ∷ more) = branch_probes added fs fs' es + branches_probes added fs fs' more

abbrev pub rules_probes : Option FactValue → IndexedFacts → IndexedFacts → Conditions → ℕ
rules_probes added fs fs' [] = 0
rules_probes added fs fs' (r ∷ more) = branches_probes added fs fs' r.1 + rules_probes added fs fs' more
