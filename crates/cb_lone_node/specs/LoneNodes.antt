-- A group of one pattern that stands alone, before and after a change.
use Rattle.std.specs.Prelude.{◌≡◌, ℕ, Bool, true, false, List, [], Option, Some, None, filter}
use Rattle.cb_alpha.specs.AlphaMemories.{AlphaMemoryValue, live}
use Rattle.cb_alpha.specs.Turning.{AlphaTurns, were_in}
use Rattle.cb_beta.specs.BetaMemories.{BetaMemoryValue}
use Rattle.cb_beta.specs.Tokens.{TokenValue, partial_after}
use Rattle.cb_facts.specs.FactLists.{IndexedFacts}
use Rattle.cb_facts.specs.Facts.{FactValue}
use Rattle.cb_fit.specs.StandsAlone.{stands_alone}
use Rattle.cb_groups.specs.Groups.{Membership, group_of}
use Rattle.cb_lone_node.specs.declared.node.LoneNode.{LoneNode}
use Rattle.cb_matches.specs.Matches.{Partial}
use Rattle.cb_nodes.specs.Flat.{holds_alone}
use Rattle.cb_token_lists.specs.Growth.{AreTokens}
use Rattle.cb_token_lists.specs.Turns.{IsThere, Turns, WasThere}

-- there is no fact
abbrev pub HasNone : (ℕ → Option (ℕ × FactValue)) → Type 0
HasNone facts = (n : ℕ) → facts n ≡ None

-- the group passes on all partial matches, by whether there are facts
abbrev pub PassesAll : Bool → (ℕ → Option (ℕ × FactValue)) → Type 0
PassesAll true facts = HasNone facts → ⊥
PassesAll false facts = HasNone facts

-- the token behind the group, which takes nothing
abbrev pub passed_alone : ℕ → TokenValue
passed_alone number = record { parent = number; taken = None }

-- the tokens behind it: those of all that is there before it, or none
abbrev pub ArePassedAlone : Bool → (ℕ → Option (ℕ × FactValue)) → (ℕ → Type 0) → TokenValue → Type 0
ArePassedAlone positive facts There t = (number : ℕ) × There number × PassesAll positive facts × (t ≡ passed_alone number)

-- these are just the numbers that are kept as one group
pub record AreParents (There : ℕ → Type 0) (parents : Membership) : Type 0 where
  pub are : (n : ℕ) → group_of parents n ≡ Some 0 → There n
  pub all : (n : ℕ) → There n → group_of parents n ≡ Some 0

module _ {T : Type 0} where
  -- the pattern stands alone, the node knows what is before it, and the tokens behind it are those that it passes on over these facts
  pub record IsLoneReady (node : LoneNode T) (There : ℕ → Type 0) (facts : ℕ → Option (ℕ × FactValue)) (own : BetaMemoryValue) : Type 0 where
    pub stands : stands_alone node.pattern ≡ true
    pub parents : AreParents There node.parents
    pub tokens : AreTokens own (ArePassedAlone node.positive facts There)

  -- before a change: the list before the group, where a number stands for a partial match by `at`, has turned from the partial matches
  -- `old` to `new`, and the facts from `fs` to `fs'`. The node is ready for what was, and in its own list nothing went or came yet
  pub record IsBeforeLone (node : LoneNode T) (at : ℕ → Partial) (before : BetaMemoryValue) (alpha : AlphaMemoryValue) (own : BetaMemoryValue)
      (fs fs' : IndexedFacts) (old new : List Partial) : Type 0 where
    pub turns : Turns at before old new
    pub facts : AlphaTurns node.pattern alpha fs fs'
    pub ready : IsLoneReady node (WasThere before) (were_in alpha) own
    pub none_gone : own.gone ≡ []
    pub none_come : own.come ≡ []

  -- and after it: the node is ready for what is, and the list behind the group has turned as well
  pub record IsAfterLone (node : LoneNode T) (at : ℕ → Partial) (before : BetaMemoryValue) (alpha : AlphaMemoryValue) (own : BetaMemoryValue)
      (fs fs' : IndexedFacts) (old new : List Partial) : Type 0 where
    pub ready : IsLoneReady node (IsThere before) (live alpha) own
    pub turns : Turns (partial_after None own.tokens at) own (filter (holds_alone node.positive node.pattern fs) old) (filter (holds_alone node.positive node.pattern fs') new)
