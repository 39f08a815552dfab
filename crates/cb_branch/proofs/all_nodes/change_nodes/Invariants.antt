use Rattle.std.proofs.Common.{◌≡◌, ◌+◌, ◌≤◌, ℕ, List, Option, drop}
use Rattle.cb_beta.specs.BetaMemories.{BetaMemoryValue}
use Rattle.cb_branch.proofs.Loop.{AreTurnedTo}
use Rattle.cb_branch.specs.Alphas.{AlphaUse, HasUse, TakesAdded}
use Rattle.cb_branch.specs.Turning.{AreNodesBefore, AreSameNodes}
use Rattle.cb_facts.specs.FactLists.{IndexedFacts}
use Rattle.cb_facts.specs.Facts.{FactValue}
use Rattle.cb_flat.specs.Joined.{flat_joins}
use Rattle.cb_matches.specs.Matches.{Partial}
use Rattle.cb_nodes.specs.Flat.{Lists}
use Rattle.cb_branch.specs.Nodes.{flat_nodes}
use Rattle.cb_branch.proofs.all_nodes.change_nodes.Given as goal

abbrev pub invariant-loop-node : goal.invariant-loop-node
invariant-loop-node g l = record {
  counted : l.number ≡ l.node-index;
  same : AreSameNodes l.initial.nodes l.nodes;
  turned : (before : List BetaMemoryValue) (fs fs' : IndexedFacts) (first first' : List Partial) (old new : Lists)
      → AreNodesBefore l.alphas l.sources before l.initial.lists fs fs' first first' old new l.initial.nodes
      → AreTurnedTo l.alphas l.sources before l.lists old new l.initial.nodes l.nodes l.node-index;
  probes : (before : List BetaMemoryValue) (fs fs' : IndexedFacts) (first first' : List Partial) (old new : Lists) (added : Option FactValue)
      → AreNodesBefore l.alphas l.sources before l.initial.lists fs fs' first first' old new l.initial.nodes
      → ((k : ℕ) (u : AlphaUse) → HasUse l.initial.nodes k u → TakesAdded l.alphas added u)
      → l.meter + flat_joins added fs' old new (drop l.node-index (flat_nodes l.initial.nodes)) ≤ l.initial.meter + flat_joins added fs' old new (flat_nodes l.initial.nodes);
}
