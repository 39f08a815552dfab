-- The matches of a branch: all ways to satisfy its elements, from left to right, with facts that are there.
use Rattle.std.specs.Prelude.{ℕ, Bool, true, false, List, [], ◌∷◌, ◌++◌, Option, Some, None, map, flat_map}
use Rattle.std.specs.List.{filter}
use Rattle.std.specs.Option.{option_map_or}
use Rattle.cb_constraints.specs.Holding.{value_if_any}
use Rattle.cb_constraints.specs.PatternValues.{PatternValue}
use Rattle.cb_eval.specs.Logic.{is_true}
use Rattle.cb_rules.specs.Elements.{Element, pattern, test, group, Elements, no_elements, element}
use Rattle.cb_eval.specs.Evaluation.{value_of}
use Rattle.cb_exprs.specs.Bindings.{Bindings, no_bindings, with_variable, with_variables}
use Rattle.cb_exprs.specs.Terms.{Term}
use Rattle.cb_facts.specs.FactLists.{IndexedFacts}
use Rattle.cb_facts.specs.Facts.{FactValue}
use Rattle.cb_facts.specs.declared.value.Value.TheVariants as value
use Rattle.cb_fit.specs.Ways.{WayValue, ways}
use Rattle.cb_matches.specs.Keys.{PartValue}

-- a partial match: what each pattern so far took, from left to right, and what variables have by it
pub record Partial : Type 0 where
  pub parts : List PartValue
  pub env : Bindings

abbrev pub no_parts : Partial
no_parts = record { parts = []; env = no_bindings }

-- the variable of `?f <-`, if there is one, has the address of the fact
abbrev pub with_address : Option (List ℕ) → ℕ → Bindings → Bindings
with_address None ix env = env
with_address (Some x) ix env = with_variable x (value.Fact ix) env

-- a partial match, and then the fact with this index in this way
abbrev pub grown : Option (List ℕ) → ℕ → Partial → WayValue → Partial
grown x ix m w = record {
  parts = m.parts ++ record { index = ix; cuts = w.cuts } ∷ [];
  env = with_variables w.bound (with_address x ix m.env);
}

-- a partial match, and then a fact in each way in which it fits the pattern
abbrev pub extended : Option (List ℕ) → PatternValue → Partial → ℕ × FactValue → List Partial
extended x p m f = map (grown x f.0 m) (ways p f.1 (with_address x f.0 m.env))

-- each of these partial matches, and then each fact
abbrev pub next : Option (List ℕ) → PatternValue → IndexedFacts → List Partial → List Partial
next x p fs ms = flat_map (λ m. flat_map (extended x p m) fs) ms

-- a test holds where its value is not FALSE; one that faults doesn't
abbrev pub test_holds : Term → Bindings → Bool
test_holds t env = option_map_or is_true (value_if_any (value_of t env)) false

-- a group holds, by what satisfies its elements
abbrev pub group_holds : Bool → List Partial → Bool
group_holds true [] = false
group_holds true (m ∷ ms) = true
group_holds false [] = true
group_holds false (m ∷ ms) = false

abbrev mutual
  -- of these partial matches those that satisfy the element, each with what the element adds to it
  pub after : Element → IndexedFacts → List Partial → List Partial
  after (pattern x p) fs ms = next x p fs ms
  after (test t) fs ms = filter (λ m. test_holds t m.env) ms
  after (group positive inner) fs ms = filter (λ m. group_holds positive (after_all inner fs (m ∷ []))) ms

  pub after_all : Elements → IndexedFacts → List Partial → List Partial
  after_all no_elements fs ms = ms
  after_all (element e es) fs ms = after_all es fs (after e fs ms)

-- all matches of a branch, in order: by the index that the first pattern took, then by the lengths of its segments, then by
-- the next pattern
unfoldable pub matches_of : Elements → IndexedFacts → List Partial
matches_of es fs = after_all es fs (no_parts ∷ [])
