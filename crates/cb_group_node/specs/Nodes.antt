-- A group node, before and after a change.
use Rattle.std.specs.Prelude.{◌≡◌, ℕ, Bool, true, List, [], Some, None, filter, length}
use Rattle.cb_beta.specs.BetaMemories.{BetaMemoryValue}
use Rattle.cb_beta.specs.Tokens.{TokenValue, partial_after}
use Rattle.cb_group_node.specs.Outer.{passed_by_group}
use Rattle.cb_group_node.specs.declared.node.GroupNode.{GroupNode}
use Rattle.cb_groups.specs.Groups.{Membership, group_of}
use Rattle.cb_matches.specs.Matches.{Partial}
use Rattle.cb_nodes.specs.Lists.{group_with}
use Rattle.cb_token_lists.specs.Growth.{AreTokens}
use Rattle.cb_token_lists.specs.Turns.{IsReadable, IsThere, Turns, WasThere}

-- the tokens behind a group: those of what is there before it and for which it holds, where these are the partial matches inside
abbrev pub AreBehind : Bool → List Partial → (ℕ → Partial) → (ℕ → Type 0) → TokenValue → Type 0
AreBehind positive complete at There t = (number : ℕ) × There number × (group_with positive complete (at number) ≡ true) × (t ≡ passed_by_group number)

-- the tokens that are there inside stand under those before the group that are met from them, and no others do
pub record IsInside (Met : ℕ → ℕ → Type 0) (There : ℕ → Type 0) (inside : Membership) : Type 0 where
  pub are : (i g : ℕ) → group_of inside i ≡ Some g → There i × Met g i
  pub all : (i g : ℕ) → There i → Met g i → group_of inside i ≡ Some g

-- the node knows what is inside, and the tokens behind it are those that it passes on
pub record IsGroupReady (node : GroupNode) (Met : ℕ → ℕ → Type 0) (at : ℕ → Partial) (There Within : ℕ → Type 0) (complete : List Partial) (own : BetaMemoryValue) : Type 0 where
  pub inside : IsInside Met Within node.inside
  pub waiting : (g : ℕ) → group_of node.waiting g ≡ None
  pub tokens : AreTokens own (AreBehind node.positive complete at There)

-- before a change: the list before the group, where a number stands for a partial match by `at`, has turned from `old` to `new`, and the
-- one inside, by `within_at`, from `begun` to `begun'`. Each token inside goes on from one before the group. The node is ready for what was,
-- and in its own list nothing went or came yet
pub record IsBeforeGroup (node : GroupNode) (Met : ℕ → ℕ → Type 0) (at within_at : ℕ → Partial) (before within : BetaMemoryValue) (width : ℕ) (own : BetaMemoryValue)
    (old new begun begun' : List Partial) : Type 0 where
  pub turns : Turns at before old new
  pub inner_turns : Turns within_at within begun begun'
  pub long : (g : ℕ) → IsReadable before g → length (at g).parts ≡ width
  pub descend : (i : ℕ) → IsReadable within i → (g : ℕ) × IsReadable before g × Met g i
  pub ready : IsGroupReady node Met at (WasThere before) (WasThere within) begun own
  pub none_gone : own.gone ≡ []
  pub none_come : own.come ≡ []

-- and after it: the node is ready for what is, and the list behind the group has turned as well
pub record IsAfterGroup (node : GroupNode) (Met : ℕ → ℕ → Type 0) (at : ℕ → Partial) (before within own : BetaMemoryValue) (old new begun begun' : List Partial) : Type 0 where
  pub ready : IsGroupReady node Met at (IsThere before) (IsThere within) begun' own
  pub turns : Turns (partial_after None own.tokens at) own (filter (group_with node.positive begun) old) (filter (group_with node.positive begun') new)
