-- Tokens: partial matches by number, each of which names the one that it goes on from in a list before.
use Rattle.std.specs.Prelude.{ℕ, List, Option, Some, None, slice_index_or}
use Rattle.std.specs.Option.{option_map, option_map_or}
use Rattle.cb_beta.specs.GivenValues.{values_read, way_in}
use Rattle.cb_beta.specs.declared.given.Held.{Held}
use Rattle.cb_beta.specs.declared.given.Held.TheVariants.{Nothing, Found, Fields}
use Rattle.cb_beta.specs.declared.token.Taken.{Taken}
use Rattle.cb_fit.specs.Ways.{WayValue}
use Rattle.cb_matches.specs.Matches.{Partial, grown, no_parts}

-- what a pattern took: the number of the fact among its candidates, the index of the fact, and the way
pub record TakenValue : Type 0 where
  pub candidate : ℕ
  pub index : ℕ
  pub way : WayValue

-- the number of the token that it goes on from, and what it took there: a test and a group take nothing
pub record TokenValue : Type 0 where
  pub parent : ℕ
  pub taken : Option TakenValue

-- what was taken, where it is kept so
abbrev pub taken_in : ℕ → ℕ → Held → Option TakenValue
taken_in candidate index Nothing = None
taken_in candidate index (Found way) = Some (record { candidate = candidate; index = index; way = way_in (Found way) })
taken_in candidate index (Fields taken fact) = Some (record { candidate = candidate; index = index; way = way_in (Fields taken fact) })

-- what is read of what was taken
abbrev pub taken_value : Taken → TakenValue
taken_value t = record { candidate = t.candidate; index = t.index; way = record { cuts = t.cuts.now; bound = values_read t.given } }

-- tokens by number
abbrev pub Tokens : Type 0
Tokens = List (Option TokenValue)

abbrev pub token_at : Tokens → ℕ → Option TokenValue
token_at ts i = slice_index_or ts i None

-- the number of the fact that a token took, if it took one
abbrev pub candidate_of : TokenValue → Option ℕ
candidate_of t = option_map (λ (it : TakenValue). it.candidate) t.taken

-- a partial match, and then what a token took, where x is the variable of the fact's address
abbrev pub with_taken : Option (List ℕ) → Option TakenValue → Partial → Partial
with_taken x None m = m
with_taken x (Some t) m = grown x t.index m t.way

-- the partial match that a number stands for, where these are those of the list before
abbrev pub partial_after : Option (List ℕ) → Tokens → (ℕ → Partial) → ℕ → Partial
partial_after x ts before i = option_map_or (λ t. with_taken x t.taken (before t.parent)) (token_at ts i) no_parts
