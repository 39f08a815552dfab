-- The tokens behind a test, before and after a change.
use Rattle.std.specs.Prelude.{◌≡◌, ℕ, true, List, [], None, filter}
use Rattle.cb_beta.specs.BetaMemories.{BetaMemoryValue}
use Rattle.cb_beta.specs.Tokens.{TokenValue, partial_after}
use Rattle.cb_exprs.specs.Terms.{Term}
use Rattle.cb_matches.specs.Matches.{Partial, test_holds}
use Rattle.cb_token_lists.specs.Growth.{AreTokens}
use Rattle.cb_token_lists.specs.Turns.{IsThere, Turns, WasThere}

-- the token of a partial match behind a test, which takes nothing
abbrev pub passed_on : ℕ → TokenValue
passed_on number = record { parent = number; taken = None }

-- the token of the partial match with this number, if the test holds for it
abbrev pub IsPassed : Term → (ℕ → Partial) → ℕ → TokenValue → Type 0
IsPassed test at number t = (test_holds test (at number).env ≡ true) × (t ≡ passed_on number)

-- the token of one of these partial matches for which the test holds
abbrev pub ArePassed : Term → (ℕ → Partial) → (ℕ → Type 0) → TokenValue → Type 0
ArePassed test at There t = (number : ℕ) × There number × IsPassed test at number t

-- before a change: the list before the test, where a number stands for a partial match by `at`, has turned from `old` to `new`. The tokens
-- behind the test are those of what was there and passed, and nothing went or came there yet
pub record IsBefore (test : Term) (at : ℕ → Partial) (before own : BetaMemoryValue) (old new : List Partial) : Type 0 where
  pub turns : Turns at before old new
  pub tokens : AreTokens own (ArePassed test at (WasThere before))
  pub none_gone : own.gone ≡ []
  pub none_come : own.come ≡ []

-- and after it: the tokens are those of what is there and passes, and the list behind the test has turned as well
pub record IsAfter (test : Term) (at : ℕ → Partial) (before own : BetaMemoryValue) (old new : List Partial) : Type 0 where
  pub tokens : AreTokens own (ArePassed test at (IsThere before))
  pub turns : Turns (partial_after None own.tokens at) own (filter (λ m. test_holds test m.env) old) (filter (λ m. test_holds test m.env) new)
