-- The tokens by which partial matches go on with facts at a pattern.
use Rattle.std.specs.Prelude.{◌≡◌, ℕ, true, List, Option, Some}
use Rattle.cb_alpha.specs.AlphaMemories.{Candidates, candidate_in}
use Rattle.cb_beta.specs.Tokens.{TokenValue}
use Rattle.cb_constraints.specs.PatternValues.{PatternValue}
use Rattle.cb_exprs.specs.Terms.{Term}
use Rattle.cb_facts.specs.Facts.{FactValue}
use Rattle.cb_fit.specs.Ways.{WayValue, ways}
use Rattle.cb_matches.specs.Chains.{In}
use Rattle.cb_matches.specs.Matches.{Partial, grown, with_address}
use Rattle.cb_nodes.specs.Flat.{all_hold}

-- the token of a partial match and of a fact, by their numbers, in a way
abbrev pub token_of : ℕ → ℕ → ℕ → WayValue → TokenValue
token_of number candidate ix way = record { parent = number; taken = Some (record { candidate = candidate; index = ix; way = way }) }

module _ (x : Option (List ℕ)) (ts : List Term) where
  -- a token of this partial match and this fact, which have these numbers, in this way, where the tests hold then
  abbrev pub IsOfWay : Partial → ℕ → ℕ → ℕ → WayValue → TokenValue → Type 0
  IsOfWay m number candidate ix way t = (all_hold ts (grown x ix m way) ≡ true) × (t ≡ token_of number candidate ix way)

  -- the same in one of these ways
  abbrev pub IsOfWays : Partial → ℕ → ℕ → ℕ → List WayValue → TokenValue → Type 0
  IsOfWays m number candidate ix ways t = (way : WayValue) × In way ways × IsOfWay m number candidate ix way t

module _ (x : Option (List ℕ)) (p : PatternValue) (ts : List Term) where
  -- a token of this partial match and this fact, which have these numbers, in a way in which the pattern fits the fact
  abbrev pub IsPair : Partial → ℕ → ℕ → ℕ × FactValue → TokenValue → Type 0
  IsPair m number candidate f t = IsOfWays x ts m number candidate f.0 (ways p f.1 (with_address x f.0 m.env)) t

  -- the same of the fact of this number, if there is one
  abbrev pub IsOfFact : Partial → ℕ → Candidates → ℕ → TokenValue → Type 0
  IsOfFact m number cs candidate t = (f : ℕ × FactValue) × (candidate_in cs candidate ≡ Some f) × IsPair m number candidate f t

  -- a token of this partial match and one of these facts
  abbrev pub IsOfFacts : Partial → ℕ → Candidates → List ℕ → TokenValue → Type 0
  IsOfFacts m number cs candidates t = (candidate : ℕ) × In candidate candidates × IsOfFact m number cs candidate t

  -- a token of one of these partial matches and this fact
  abbrev pub IsOfPartials : (ℕ → Partial) → List ℕ → ℕ → ℕ × FactValue → TokenValue → Type 0
  IsOfPartials at numbers candidate f t = (number : ℕ) × In number numbers × IsPair (at number) number candidate f t

  -- a token of this partial match and any of the facts
  abbrev pub JoinsOne : Partial → ℕ → (ℕ → Option (ℕ × FactValue)) → TokenValue → Type 0
  JoinsOne m number facts t = (candidate : ℕ) × ((f : ℕ × FactValue) × (facts candidate ≡ Some f) × IsPair m number candidate f t)

  -- a token of one of these partial matches and any of the facts
  abbrev pub Joins : (ℕ → Partial) → (ℕ → Type 0) → (ℕ → Option (ℕ × FactValue)) → TokenValue → Type 0
  Joins at There facts t = (number : ℕ) × There number × JoinsOne (at number) number facts t
