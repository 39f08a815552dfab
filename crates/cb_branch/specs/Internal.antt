-- A branch in a change. The nodes of elements, while they are made one element after another: Plans. The variables that have values
-- before an element: Bounds. Patterns that are decided by values: ByValues.
pub mod Bounds
pub mod ByValues
pub mod Plans
use Rattle.std.specs.Prelude.{◌≡◌, ℕ, suc, List, Some, None, length, slice_get}
use Rattle.cb_alpha_network.specs.Networks.{MemoryValues}
use Rattle.cb_beta.specs.BetaMemories.{BetaMemoryValue, Gains}
use Rattle.cb_branch.specs.Branches.{CanBeFilled}
use Rattle.cb_branch_end.specs.declared.branch_end.BranchEnd.{BranchEnd}
use Rattle.cb_branch.specs.declared.branch.Branch.{Branch}
use Rattle.cb_branch.specs.Alphas.{live_facts}
use Rattle.cb_branch.specs.Ready.{AreNodesReady}
use Rattle.cb_branch.specs.Turning.{AreNodesBefore}
use Rattle.cb_facts.specs.FactLists.{IndexedFacts}
use Rattle.cb_list_changes.specs.Resting.{AreResting, IsPut}
use Rattle.cb_matches.specs.Matches.{Partial}
use Rattle.cb_matches.specs.Order.{IsSorted}
use Rattle.cb_nodes.specs.Flat.{Lists}

-- one token came to the first list, if there is one
pub record BeginsFilling (lists lists' : List BetaMemoryValue) : Type 0 where
  pub long : length lists' ≡ length lists
  pub gains : (m : BetaMemoryValue) → slice_get lists 0 ≡ Some m → (first : BetaMemoryValue) × (number : ℕ) × Gains m first number (record { parent = 0; taken = None }) × IsPut lists lists' 0 first

module _ {T : Type 0} where
  -- this is the end of a branch, the one with this number of the rule with this number
  pub record IsEndOf (rule number : ℕ) (b : Branch T) (end : BranchEnd) : Type 0 where
    pub sources : end.lists.sources.now ≡ b.sources.items
    pub lists : end.lists.lists.now ≡ b.lists.items
    pub last : end.last ≡ b.last
    pub rule_is : end.rule ≡ rule
    pub branch_is : end.branch ≡ number

  -- a branch whose first list has turned. Its lists were `before` when the change began
  pub record IsTurning (alphas : MemoryValues) (before : List BetaMemoryValue) (fs fs' : IndexedFacts) (first first' : List Partial) (old new : Lists) (b : Branch T) : Type 0 where
    pub planned : CanBeFilled b
    pub nodes : AreNodesBefore alphas b.sources.items before b.lists.items fs fs' first first' old new b.nodes.items
    pub sorted : IsSorted (old b.last)
    pub sorted_now : IsSorted (new b.last)

  -- and when the change has ended
  pub record IsTurned (alphas : MemoryValues) (new : Lists) (b : Branch T) : Type 0 where
    pub long : length b.lists.items ≡ suc (length b.nodes.items)
    pub rest : AreResting b.sources.items b.lists.items new
    pub ready : AreNodesReady (live_facts alphas) b.sources.items b.lists.items new b.nodes.items
