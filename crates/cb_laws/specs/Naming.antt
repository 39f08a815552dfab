-- Which facts the arguments of `retract` name.
use Rattle.std.specs.Prelude.{◌≡◌, ◌==◌, ◌++◌, ℕ, Bool, false, List, ◌∷◌, None, Ok, codes, pos, negsuc, if◌then◌else◌}
use Rattle.std.specs.List.{list_any}
use Rattle.std.specs.Str.{bytes_eq}
use Rattle.cb_actions.specs.Acts.{each}
use Rattle.cb_actions.specs.Effects.{retracted_one}
use Rattle.cb_actions.specs.Worlds.{World}
use Rattle.cb_facts.specs.FactLists.{fact_at}
use Rattle.cb_facts.specs.declared.value.Value.{Value}
use Rattle.cb_facts.specs.declared.value.Value.TheVariants as value
use Rattle.cb_knowledge_base.specs.KnowledgeBase.{Memory}

-- an argument names the fact with this index: it is its address or its index, or `*`
abbrev pub names_fact : ℕ → Value → Bool
names_fact ix (value.Fact i) = i == ix
names_fact ix (value.Int (pos i)) = i == ix
names_fact ix (value.Int (negsuc n)) = false
names_fact ix (value.Symbol name) = bytes_eq name (codes "*")
names_fact ix v = false

-- one of the arguments names it
abbrev pub is_named : List Value → ℕ → Bool
is_named vs ix = list_any (names_fact ix) vs

-- the argument is an index that no fact has
abbrev pub IsMissing : Memory → Value → Type 0
IsMissing m (value.Int (pos ix)) = fact_at m.network.facts ix ≡ None
IsMissing m (value.Int (negsuc n)) = Unit {0}
IsMissing m v = ⊥

-- Of the facts of the first memory those are left in the second that no argument names, under their indices, and no others. The
-- index given last is the same.
pub record LeavesUnnamed (m : Memory) (vs : List Value) (n : Memory) : Type 0 where
  pub left : (ix : ℕ) → fact_at n.network.facts ix ≡ (if is_named vs ix then None else fact_at m.network.facts ix)
  pub last : n.last ≡ m.last

-- Up to the first index that no fact has, the facts that arguments name are gone; what stands after it retracts nothing.
pub record LeavesUpToMissing (s : World) (vs : List Value) (t : World) : Type 0 where
  pub before : List Value
  pub wrong : Value
  pub after : List Value
  pub split : vs ≡ before ++ wrong ∷ after
  pub fine : (each retracted_one before s).answer ≡ Ok tt
  pub state : (each retracted_one before s).state ≡ t
  pub missing : IsMissing t.memory wrong
  pub left : LeavesUnnamed s.memory before t.memory
