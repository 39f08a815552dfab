-- What the laws of modifying speak of.
use Rattle.std.specs.Prelude.{◌≡◌, ◌==◌, ◌⊎◌, ℕ, [], Option, Some, Ok, Err, if◌then◌else◌}
use Rattle.cb_actions.specs.Acts.{Effect}
use Rattle.cb_actions.specs.Worlds.{World}
use Rattle.cb_actions.specs.declared.act.EarlyEnd.{EarlyEnd}
use Rattle.cb_actions.specs.declared.act.EarlyEnd.TheVariants as ended
use Rattle.cb_actions.specs.declared.act.Limit.TheVariants.{Numbers}
use Rattle.cb_facts.specs.FactLists.{fact_at}
use Rattle.cb_facts.specs.Facts.{FactValue}
use Rattle.cb_facts.specs.declared.value.Value.{Value}
use Rattle.cb_facts.specs.declared.value.Value.TheVariants as value
use Rattle.cb_laws.specs.Memories.{ChangesFactsOnly, IsSound, IsUnwatched}

-- A fact was to come in the place of the one with this index. Where there is an answer, it is the address, the fact is there under the
-- index, and each other fact is as it was. Else it ended at the limit of numbers, and nothing came but, at most, the fact.
pub record IsReplaced (ix : ℕ) (fact : FactValue) (s : World) (e : Effect World (Option Value)) : Type 0 where
  pub address : (answer : Option Value) → e.answer ≡ Ok answer → answer ≡ Some (value.Fact ix)
  pub facts : (answer : Option Value) → e.answer ≡ Ok answer → (q : ℕ) → fact_at e.state.memory.network.facts q ≡ (if ix == q then Some fact else fact_at s.memory.network.facts q)
  pub limit : (x : EarlyEnd) → e.answer ≡ Err x → x ≡ ended.Limit Numbers
  pub only : (q : ℕ) (there : FactValue) → fact_at e.state.memory.network.facts q ≡ Some there → (fact_at s.memory.network.facts q ≡ Some there) ⊎ (fact ≡ there)
  pub last : e.state.memory.last ≡ s.memory.last
  pub sound : IsSound e.state.memory
  pub changes : ChangesFactsOnly s e.state
  pub quiet : IsUnwatched s → e.written ≡ []
