-- The knowledge base: rules and facts, and the numbers that were given last.
use Rattle.std.specs.Prelude.{◌≡◌, ◌<◌, ◌≤◌, ◌+◌, ℕ, List, [], ◌∷◌, Option, Some, None, IsSome, if◌then◌else◌}
use Rattle.cb_knowledge_base.specs.declared.asserted.Asserted.TheVariants.{There, Added, NoIndex}
use Rattle.cb_knowledge_base.specs.declared.asserted.Asserted.{Asserted}
use Rattle.cb_rules.specs.Elements.{Elements}
use Rattle.cb_facts.specs.FactLists.{IndexedFacts, fact_at}
use Rattle.cb_facts.specs.Facts.{FactValue, fact_eq}
use Rattle.cb_matches.specs.Changes.{IsDelta, IsNumber, Numbers, TellsNumbers}
use Rattle.cb_matches.specs.Networks as network
use Rattle.cb_matches.specs.Networks.{Network, empty_network, with_one, without_one, with_rule, without_rule}
use Rattle.cb_matches.specs.declared.delta.Delta.{Delta}

-- the greatest index of a fact, and the greatest number of a rule
abbrev pub greatest_index : ℕ
greatest_index = 9223372036854775807

-- the index that an equal fact has
abbrev pub index_of : IndexedFacts → FactValue → Option ℕ
index_of [] fact = None
index_of ((ix, there) ∷ facts) fact = if fact_eq there fact then Some ix else index_of facts fact

-- the rules and the facts, the index that was given last, and the number of a rule that was
pub record Memory : Type 0 where
  pub network : Network
  pub last : ℕ
  pub last_rule : ℕ

-- what contracts see of the knowledge base: the memory, and the numbers of the matches
pub record KnowledgeBaseValue : Type 0 where
  pub memory : Memory
  pub numbers : Numbers

-- no rules and no facts
abbrev pub empty_memory : Memory
empty_memory = record { network = empty_network; last = 0; last_rule = 0 }

-- one fact more, with the next index, and one less
abbrev pub grown : FactValue → Memory → Memory
grown fact m = record { network = with_one (m.last + 1) fact m.network; last = m.last + 1; last_rule = m.last_rule }

abbrev pub without : ℕ → Memory → Memory
without ix m = record { network = without_one ix m.network; last = m.last; last_rule = m.last_rule }

-- a fact under an index that was given before, and that no fact has now
abbrev pub put_back : ℕ → FactValue → Memory → Memory
put_back ix fact m = record { network = with_one ix fact m.network; last = m.last; last_rule = m.last_rule }

-- one rule more, with the next number, and one less
abbrev pub with_next_rule : List Elements → Memory → Memory
with_next_rule branches m = record { network = with_rule (m.last_rule + 1) branches m.network; last = m.last; last_rule = m.last_rule + 1 }

abbrev pub without_one_rule : ℕ → Memory → Memory
without_one_rule id m = record { network = without_rule id m.network; last = m.last; last_rule = m.last_rule }

-- no facts, and the next index is 1; and no rules either, whose numbers go on
abbrev pub restarted : Memory → Memory
restarted m = record { network = network.restarted m.network; last = 0; last_rule = m.last_rule }

abbrev pub cleared : Memory → Memory
cleared m = record { network = empty_network; last = 0; last_rule = m.last_rule }

-- what came of the assertion of a fact, where the memory was `old` and is `new`
abbrev pub Asserts : Memory → FactValue → Memory → Asserted → Type 0
Asserts old fact new (There ix) = (index_of old.network.facts fact ≡ Some ix) × (new ≡ old)
Asserts old fact new (Added ix delta) =
    (index_of old.network.facts fact ≡ None) × (old.last < greatest_index) × (ix ≡ old.last + 1) × (new ≡ grown fact old) × IsDelta old.network (grown fact old).network delta
Asserts old fact new NoIndex = (index_of old.network.facts fact ≡ None) × (greatest_index ≤ old.last) × (new ≡ old)

-- what came of the retraction of the fact with an index
abbrev pub Retracts : Memory → ℕ → Memory → Option Delta → Type 0
Retracts old ix new None = (fact_at old.network.facts ix ≡ None) × (new ≡ old)
Retracts old ix new (Some delta) = IsSome (fact_at old.network.facts ix) × (new ≡ without ix old) × IsDelta old.network (without ix old).network delta

-- What the two tell of the numbers of the matches, which were `old` and are `new`: they are the same where nothing changed.
abbrev pub AssertTells : Numbers → Numbers → Asserted → Type 0
AssertTells old new (There ix) = new ≡ old
AssertTells old new (Added ix delta) = TellsNumbers (IsNumber old) (IsNumber new) delta
AssertTells old new NoIndex = new ≡ old

abbrev pub RetractTells : Numbers → Numbers → Option Delta → Type 0
RetractTells old new None = new ≡ old
RetractTells old new (Some delta) = TellsNumbers (IsNumber old) (IsNumber new) delta
