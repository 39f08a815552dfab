-- What the laws of asserting speak of.
use Rattle.std.specs.Prelude.{◌≡◌, ℕ, Bool, false, List, [], ◌∷◌, Option, Some, Ok, length}
use Rattle.std.specs.List.Sorted.{IsStrictlySortedBy}
use Rattle.std.specs.Map.{keys_of}
use Rattle.std.specs.Ordering.{nat_cmp}
use Rattle.cb_actions.specs.Effects.{fact_added}
use Rattle.cb_actions.specs.Worlds.{World}
use Rattle.cb_agenda.specs.Agendas.{has_stamps}
use Rattle.cb_facts.specs.FactLists.{HasNoEqualFacts, fact_at}
use Rattle.cb_facts.specs.Facts.{FactValue}
use Rattle.cb_facts.specs.declared.value.Value.{Value}
use Rattle.cb_knowledge_base.specs.KnowledgeBase.{Memory, grown}
use Rattle.cb_knowledge_base.specs.Laws.{NoneAfter}
use Rattle.cb_matches.specs.Changes.{keys_come}

-- The indices of the facts rise, no two facts are equal, and none has an index after the one given last.
pub record IsSound (m : Memory) : Type 0 where
  pub rising : IsStrictlySortedBy nat_cmp (keys_of m.network.facts)
  pub distinct : HasNoEqualFacts m.network.facts
  pub none_after : NoneAfter m

-- the fact is there, under some index
abbrev pub IsThere : Memory → FactValue → Type 0
IsThere m fact = (ix : ℕ) × (fact_at m.network.facts ix ≡ Some fact)

-- Facts are asserted in this world, one after another, each has an address then, and this is the world after them.
abbrev pub AreAsserted : World → List FactValue → World → Type 0
AreAsserted s [] t = s ≡ t
AreAsserted s (f ∷ fs) t = (address : Option Value) × ((fact_added f s).answer ≡ Ok address) × AreAsserted (fact_added f s).state fs t

-- there are stamps for the activations of the matches that come with one fact more
abbrev pub has_stamps_for : FactValue → World → Bool
has_stamps_for fact s = has_stamps s.agenda (length (keys_come s.memory.network (grown fact s.memory).network))

-- From one world to the other nothing has changed but the facts, the index given last and the agenda.
pub record ChangesFactsOnly (s t : World) : Type 0 where
  pub only : t ≡ record s { memory = t.memory; agenda = t.agenda }
  pub rules : t.memory.network.rules ≡ s.memory.network.rules
  pub last_rule : t.memory.last_rule ≡ s.memory.last_rule

-- neither facts nor activations are watched
abbrev pub IsUnwatched : World → Type 0
IsUnwatched s = (s.watched.facts ≡ false) × (s.watched.activations ≡ false)
