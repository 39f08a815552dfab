-- What is taken on the way down from a token. No public clause cites this module.
use Rattle.std.specs.Prelude.{List, [], ◌∷◌, Option, Some, None}
use Rattle.cb_beta.specs.Tokens.{TakenValue, with_taken}
use Rattle.cb_constraints.specs.Holding.{tested_value}
use Rattle.cb_facts.specs.declared.value.Value.{Value}
use Rattle.cb_facts.specs.declared.value.Value.TheVariants as value
use Rattle.cb_matches.specs.Keys.{PartValue}
use Rattle.cb_matches.specs.Matches.{Partial}
use Rattle.cb_token_lists.specs.declared.giving.Giver.{Giver}
use Rattle.cb_token_lists.specs.declared.giving.Giver.TheVariants as giver
use Rattle.cb_token_lists.specs.declared.path.Step.{Step}

-- a partial match, and then what was taken in a step
abbrev pub with_step : Option Step → Partial → Partial
with_step None m = m
with_step (Some s) m = with_taken s.address.now s.token.now.taken m

-- a partial match, and then what was taken in these steps, of which the first stands at the end
abbrev pub with_path : List (Option Step) → Partial → Partial
with_path [] m = m
with_path (s ∷ ss) m = with_step s (with_path ss m)

-- the part of what was taken, if anything was
abbrev pub parts_taken : Option TakenValue → List PartValue
parts_taken None = []
parts_taken (Some t) = record { index = t.index; cuts = t.way.cuts } ∷ []

-- the value that a variable is given
abbrev pub giver_value : Giver → Value
giver_value (giver.Field t) = tested_value t
giver_value (giver.Address ix) = value.Fact ix
