-- What the nodes of a branch have of the alpha network.
use Rattle.std.specs.Prelude.{◌≡◌, ◌<◌, ℕ, List, [], ◌∷◌, Option, Some, None, length, slice_get}
use Rattle.std.specs.Option.{option_and_then}
use Rattle.cb_alpha.specs.AlphaMemories.{AlphaMemoryValue, live}
use Rattle.cb_alpha.specs.Turning.{AlphaTurns, HasJoin, came_in, were_in}
use Rattle.cb_alpha_network.specs.Networks.{MemoryValues, memory_in}
use Rattle.cb_constraints.specs.PatternValues.{PatternValue}
use Rattle.cb_facts.specs.FactLists.{IndexedFacts}
use Rattle.cb_facts.specs.Facts.{FactValue}
use Rattle.cb_fit.specs.declared.join_fields.JoinField.{JoinField}
use Rattle.cb_branch.specs.declared.node.Node.{Node}
use Rattle.cb_branch.specs.declared.node.Node.TheVariants as kept

-- facts by the numbers of alpha memories, and in each by their numbers there
abbrev pub Facts : Type 0
Facts = ℕ → ℕ → Option (ℕ × FactValue)

-- those that are there, and those that were there when the change began. None where there is no memory
abbrev pub live_facts : MemoryValues → Facts
live_facts alphas a n = live (memory_in alphas a) n

abbrev pub were_facts : MemoryValues → Facts
were_facts alphas a n = were_in (memory_in alphas a) n

-- what the node of a pattern has of the alpha network: its pattern, the number of the pattern's alpha memory, and there, if the node
-- finds facts by values, the number of its join and the fields of this
pub record AlphaUse : Type 0 where
  pub pattern : PatternValue
  pub alpha : ℕ
  pub join : Option (ℕ × List JoinField)

-- the join by which a join node finds facts: none where no field is asked
abbrev pub join_asked : ℕ → List JoinField → Option (ℕ × List JoinField)
join_asked join [] = None
join_asked join (j ∷ js) = Some (join, j ∷ js)

-- the memory has the join, if there is one
abbrev pub HasUsedJoin : AlphaMemoryValue → Option (ℕ × List JoinField) → Type 0
HasUsedJoin m None = Unit {0}
HasUsedJoin m (Some j) = HasJoin m j.0 j.1

-- the alpha memory has turned from the candidates of the first facts to those of the second, and has the join
abbrev pub HasTurned : MemoryValues → IndexedFacts → IndexedFacts → AlphaUse → Type 0
HasTurned alphas fs fs' u = (u.alpha < length alphas) × AlphaTurns u.pattern (memory_in alphas u.alpha) fs fs' × HasUsedJoin (memory_in alphas u.alpha) u.join

-- what came to the alpha memory is the fact that is added
abbrev pub TakesAdded : MemoryValues → Option FactValue → AlphaUse → Type 0
TakesAdded alphas added u = (n : ℕ) (f : ℕ × FactValue) → came_in (memory_in alphas u.alpha) n ≡ Some f → added ≡ Some f.1

module _ {T : Type 0} where
  -- what a node has of it, if it is that of a pattern
  abbrev pub alpha_use : Node T → Option AlphaUse
  alpha_use (kept.Join alpha node) = Some (record { pattern = node.asked.pattern; alpha = alpha; join = join_asked node.join node.asked.fields.items })
  alpha_use (kept.Test from test) = None
  alpha_use (kept.Group width node) = None
  alpha_use (kept.Lone alpha node) = Some (record { pattern = node.pattern; alpha = alpha; join = None })
  alpha_use (kept.Lookup alpha node) = Some (record { pattern = node.pattern; alpha = alpha; join = Some (node.join, node.fields.items) })

  -- node k has this of it
  abbrev pub HasUse : List (Node T) → ℕ → AlphaUse → Type 0
  HasUse nodes k u = option_and_then alpha_use (slice_get nodes k) ≡ Some u
