-- The branches of a left side: one for each way through its `or`s.
use Rattle.std.specs.Prelude.{◌++◌, List, [], ◌∷◌, map}
use Rattle.std.specs.List.{flat_map}
use Rattle.cb_rule_forms.specs.Elements.{written_elements}
use Rattle.cb_rule_forms.specs.WrittenElements.{Written, all_of, one_of, Writtens, none_written, written}
use Rattle.cb_rules.specs.Elements.{Elements, elements}
use Rattle.cb_templates.specs.Templates.{Templates}

-- each of the first with each of the second after it; the first change slowest
abbrev pub combined : List (List Written) → List (List Written) → List (List Written)
combined firsts seconds = flat_map (λ first. map (λ second. first ++ second) seconds) firsts

abbrev mutual
  -- the ways through an element: for an `or` those through each of its members, for an `and` each choice for all of them
  pub ways_through : Written → List (List Written)
  ways_through (all_of ws) = ways_through_all ws
  ways_through (one_of ws) = ways_through_one ws
  ways_through w = (w ∷ []) ∷ []

  pub ways_through_all : Writtens → List (List Written)
  ways_through_all none_written = [] ∷ []
  ways_through_all (written w ws) = combined (ways_through w) (ways_through_all ws)

  pub ways_through_one : Writtens → List (List Written)
  ways_through_one none_written = []
  ways_through_one (written w ws) = ways_through w ++ ways_through_one ws

-- what one way asks
abbrev pub asked_by : Templates → List Written → Elements
asked_by templates way = elements (flat_map (written_elements templates) way)

-- the branches of a left side
abbrev pub branches_in : Templates → Writtens → List Elements
branches_in templates ws = map (asked_by templates) (ways_through_all ws)
