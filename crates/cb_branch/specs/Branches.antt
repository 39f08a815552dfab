-- What is kept for a branch, and what its patterns have of the alpha network.
use Rattle.std.specs.Prelude.{◌≡◌, ◌↔◌, ◌⊎◌, ◌+◌, ℕ, suc, List, [], Option, None, Some, length, map, slice_get}
use Rattle.cb_alpha_network.specs.Networks.{AlphaNetworkValue, IsShapeOf, MemoryValues, memory_at, use_count}
use Rattle.cb_alpha_network.specs.declared.node_place.NodePlace.{NodePlace}
use Rattle.cb_branch.specs.declared.branch.Branch.{Branch}
use Rattle.cb_branch.specs.Alphas.{AlphaUse, Facts, HasTurned, HasUse, HasUsedJoin, TakesAdded, were_facts}
use Rattle.cb_branch.specs.Ready.{AreNodesReady}
use Rattle.cb_branch.specs.Turning.{ArePrepared}
use Rattle.cb_branch.specs.Entries.{KeepsShapesElsewhere, node_at}
use Rattle.cb_facts.specs.FactLists.{IndexedFacts, fact_at, with_fact}
use Rattle.cb_facts.specs.Facts.{FactValue}
use Rattle.cb_flat.specs.Sources.{sources_of}
use Rattle.cb_list_changes.specs.Resting.{AreResting}
use Rattle.cb_beta.specs.BetaMemories.{BetaMemoryValue}
use Rattle.cb_matches.specs.Changes.{Numbers}
use Rattle.cb_matches.specs.Matches.{Partial}
use Rattle.cb_matches.specs.Order.{IsRising}
use Rattle.cb_nodes.specs.Flat.{branch_last, branch_nodes}
use Rattle.cb_nodes.specs.Lists.{branch_lists}
use Rattle.cb_branch.specs.Nodes.{flat_nodes}
use Rattle.cb_rule_keys.specs.Keys.{key_of}
use Rattle.cb_rules.specs.Elements.{Elements, element_of, elements}
use Rattle.cb_token_lists.specs.Partials.{partial_at}
use Rattle.cb_token_lists.specs.Turns.{numbers}

-- its pattern is in the network with this place, and so is its join
pub record IsUsed (v : AlphaNetworkValue) (place : NodePlace) (u : AlphaUse) : Type 0 where
  pub shape : IsShapeOf v u.alpha u.pattern place
  pub joins : HasUsedJoin (memory_at v u.alpha) u.join

-- the patterns of the branch with this number of the rule with this number are out of the network, so many, and all others are in it
pub record IsLeft (rule number patterns : ℕ) (old new : AlphaNetworkValue) : Type 0 where
  pub others : KeepsShapesElsewhere rule number old new
  pub count : use_count new + patterns ≡ use_count old

-- one list of facts has this fact more than the other
abbrev pub DifferBy : ℕ × FactValue → IndexedFacts → IndexedFacts → Type 0
DifferBy f fs fs' =
    ((fact_at fs f.0 ≡ None) × (fs' ≡ with_fact fs f.0 f.1)) ⊎ ((fact_at fs' f.0 ≡ None) × (fs ≡ with_fact fs' f.0 f.1))

-- the matches that the tokens of a list stand for, each with the number of its token
abbrev pub end_numbers : ℕ → ℕ → (ℕ → Partial) → Option BetaMemoryValue → Numbers
end_numbers rule number at None = []
end_numbers rule number at (Some m) = map (λ i. (key_of rule number (at i), i)) (numbers m)

module _ {T : Type 0} where
  -- the elements of a branch
  abbrev pub branch_elements : Branch T → Elements
  branch_elements b = elements (map element_of b.elements.items)

  -- node k of the branch is that of a pattern, and has this of the alpha network
  abbrev pub HasAlpha : Branch T → ℕ → AlphaUse → Type 0
  HasAlpha b k u = HasUse b.nodes.items k u

  -- it is planned, and can be filled
  pub record CanBeFilled (b : Branch T) : Type 0 where
    pub nodes : flat_nodes b.nodes.items ≡ branch_nodes (branch_elements b)
    pub sources : b.sources.items ≡ sources_of (flat_nodes b.nodes.items)
    pub last : b.last ≡ branch_last (branch_elements b)
    pub prepared : ArePrepared b.nodes.items

  -- what is kept is right over these facts, which stand in alpha memories under these numbers
  pub record IsBranchOver (facts : Facts) (fs : IndexedFacts) (b : Branch T) : Type 0 where
    pub planned : CanBeFilled b
    pub long : length b.lists.items ≡ suc (length b.nodes.items)
    pub rest : AreResting b.sources.items b.lists.items (branch_lists (flat_nodes b.nodes.items) fs)
    pub ready : AreNodesReady facts b.sources.items b.lists.items (branch_lists (flat_nodes b.nodes.items) fs) b.nodes.items

  -- its matches, where it is the branch with this number of the rule with this number: each has the number of its token. The same where its
  -- lists are these
  abbrev pub numbers_of : ℕ → ℕ → Branch T → List BetaMemoryValue → Numbers
  numbers_of rule number b lists = end_numbers rule number (partial_at b.sources.items lists b.last) (slice_get lists b.last)

  abbrev pub branch_numbers : ℕ → ℕ → Branch T → Numbers
  branch_numbers rule number b = numbers_of rule number b b.lists.items

  -- each pattern has the same of the alpha network
  abbrev pub HasSameAlphas : Branch T → Branch T → Type 0
  HasSameAlphas old new = (k : ℕ) (u : AlphaUse) → HasAlpha old k u ↔ HasAlpha new k u

  -- each pattern is in the alpha network, and its join
  abbrev pub IsEntered : AlphaNetworkValue → ℕ → ℕ → Branch T → Type 0
  IsEntered v rule number b = (k : ℕ) (u : AlphaUse) → HasAlpha b k u → IsUsed v (node_at rule number k) u

  -- each pattern's alpha memory has turned from the candidates of the first facts to those of the second, and has the join
  abbrev pub AreTurned : MemoryValues → IndexedFacts → IndexedFacts → Branch T → Type 0
  AreTurned alphas fs fs' b = (k : ℕ) (u : AlphaUse) → HasAlpha b k u → HasTurned alphas fs fs' u

  -- what came to them is the fact that is added
  abbrev pub AreAdded : MemoryValues → Option FactValue → Branch T → Type 0
  AreAdded alphas added b = (k : ℕ) (u : AlphaUse) → HasAlpha b k u → TakesAdded alphas added u

  -- a branch before a change of the facts, where the alpha memories have changed already
  pub record IsBefore (alphas : MemoryValues) (fs fs' : IndexedFacts) (b : Branch T) : Type 0 where
    pub rising : IsRising fs
    pub rising_now : IsRising fs'
    pub over : IsBranchOver (were_facts alphas) fs b
    pub turned : AreTurned alphas fs fs' b
