-- What a pattern that is decided by values asks beside the values of the join's fields, and what it gives.
use Rattle.std.specs.Prelude.{◌≡◌, ℕ, true, List, Some}
use Rattle.cb_alpha.specs.AlphaMemories.{Candidates, candidate_in}
use Rattle.cb_alpha.specs.JoinValues.{field_values, variable_values}
use Rattle.cb_constraints.specs.PatternValues.{PatternValue}
use Rattle.cb_facts.specs.Facts.{FactValue}
use Rattle.cb_facts.specs.declared.value.Value.{Value}
use Rattle.cb_fit.specs.Shapes.{is_selected}
use Rattle.cb_join_node.specs.Nodes.{IsByValues}
use Rattle.cb_join_node.specs.declared.by_values.ByValues.{ByValues}
use Rattle.cb_join_node.specs.declared.joining.Joining.{Joining}
use Rattle.cb_matches.specs.Chains.{In}
use Rattle.cb_matches.specs.Matches.{Partial}
use Rattle.cb_scopes.specs.Scopes.{HasValuesOf, Scope}

-- each fact of these is selected for the pattern
abbrev pub AreSelected : PatternValue → Candidates → Type 0
AreSelected p cs = (candidate : ℕ) (f : ℕ × FactValue) → candidate_in cs candidate ≡ Some f → is_selected p f.1 ≡ true

module _ {T : Type 0} where
  -- where the pattern is joined by values, they are those of the variables that have values in this partial match
  abbrev pub KnowsValues : Joining T → Partial → Type 0
  KnowsValues asked m = (by : ByValues) → asked.by_values ≡ Some by → (names : Scope) × IsByValues names asked by × HasValuesOf names m

  -- a partial match and a fact that meet by the values of the join's fields, where the pattern is joined by values
  pub record Meet (asked : Joining T) (by : ByValues) (m : Partial) (f : ℕ × FactValue) : Type 0 where
    pub names : Scope
    pub is : IsByValues names asked by
    pub scope : HasValuesOf names m
    pub selected : is_selected asked.pattern f.1 ≡ true
    pub values : List Value
    pub asks : variable_values asked.fields.items m.env ≡ Some values
    pub has : field_values asked.fields.items f.1.content ≡ Some values

  -- the two meet so, if the pattern is joined by values
  abbrev pub MayMeet : Joining T → Partial → ℕ × FactValue → Type 0
  MayMeet asked m f = (by : ByValues) → asked.by_values ≡ Some by → Meet asked by m f

  -- the same of the fact of this number, if there is one
  abbrev pub MayMeetOne : Joining T → Partial → Candidates → ℕ → Type 0
  MayMeetOne asked m cs candidate = (f : ℕ × FactValue) → candidate_in cs candidate ≡ Some f → MayMeet asked m f

  -- and of each of these facts
  abbrev pub MayMeetAll : Joining T → Partial → Candidates → List ℕ → Type 0
  MayMeetAll asked m cs candidates = (candidate : ℕ) → In candidate candidates → MayMeetOne asked m cs candidate
