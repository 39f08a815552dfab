-- What the laws of the knowledge base speak of.
use Rattle.std.specs.Prelude.{◌≡◌, ◌<◌, ◌≤◌, ℕ, None}
use Rattle.cb_facts.specs.FactLists.{fact_at}
use Rattle.cb_knowledge_base.specs.KnowledgeBase.{Memory}

-- no fact has an index after the last one
abbrev pub NoneAfter : Memory → Type 0
NoneAfter m = (ix : ℕ) → m.last < ix → fact_at m.network.facts ix ≡ None

-- Up to the last index nothing has changed, so the facts keep their indices, and what was added has indices after it. The
-- last index doesn't fall, and there is no fact after it.
pub record Keeps (m n : Memory) : Type 0 where
  pub rises : m.last ≤ n.last
  pub same : (ix : ℕ) → ix ≤ m.last → fact_at n.network.facts ix ≡ fact_at m.network.facts ix
  pub none_after : NoneAfter n
