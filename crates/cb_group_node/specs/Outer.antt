-- What stands before a group, by what stands inside it, and the tokens behind it.
use Rattle.std.specs.Prelude.{◌≡◌, ◌↔◌, ℕ, Option, Some, None, length}
use Rattle.cb_beta.specs.BetaMemories.{BetaMemoryValue}
use Rattle.cb_beta.specs.Tokens.{TokenValue}
use Rattle.cb_matches.specs.Matches.{Partial}
use Rattle.cb_token_lists.specs.Turns.{IsReadable}

-- what is found is what is met, and nothing else is
abbrev pub FindsMet : Option ℕ → (ℕ → Type 0) → Type 0
FindsMet found Met = (a : ℕ) → (found ≡ Some a) ↔ Met a

-- the numbers that can be read stand for partial matches with so many parts, and no two for the same parts
pub record AreOneByParts (at : ℕ → Partial) (before : BetaMemoryValue) (width : ℕ) : Type 0 where
  pub long : (a : ℕ) → IsReadable before a → length (at a).parts ≡ width
  pub one : (a g : ℕ) → IsReadable before a → IsReadable before g → (at a).parts ≡ (at g).parts → a ≡ g

-- the token behind a group, which takes nothing
abbrev pub passed_by_group : ℕ → TokenValue
passed_by_group number = record { parent = number; taken = None }
