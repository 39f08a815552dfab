-- What only the code needs.
use Rattle.std.specs.Prelude.{◌≡◌, ◌≤◌, ◌-◌, ℕ, List, [], ◌∷◌, Option, option_map, refl}
use Rattle.std.specs.Coded.{Coded, code_by, coded_list, coded_ℕ, coded×}
use Rattle.std.specs.List.{All}
use Rattle.std.specs.List.Sorted.{IsStrictlySortedBy}
use Rattle.std.specs.Map.{keys_of, values_of}
use Rattle.std.specs.Option.{unwrap_or}
use Rattle.std.specs.Ordering.{nat_cmp}
use Rattle.std.specs.Str.{bytes_eq}
use Rattle.cb_exprs.specs.Internal.Codes.{Piece}
use Rattle.cb_facts.specs.FactLists.{IndexedFacts}
use Rattle.cb_facts.specs.Facts.{FactValue}
use Rattle.cb_facts.specs.RelationCounts.{Counts, count_of, one_if}
use Rattle.cb_facts.specs.declared.value.Value.{Value}
use Rattle.cb_knowledge_base.specs.Internal.Namings.{IsCountOf}
use Rattle.cb_knowledge_base.specs.KnowledgeBase.{KnowledgeBaseValue, Memory}
use Rattle.cb_matches.specs.Changes.{Numbers}
use Rattle.cb_matches.specs.Internal.{key_code, network_code}
use Rattle.cb_matches.specs.Networks.{Conditions, Network, without_rule}

-- no fact has an index after this one
abbrev pub AreUpTo : ℕ → IndexedFacts → Type 0
AreUpTo last [] = Unit {0}
AreUpTo last (e ∷ es) = (e.0 ≤ last) × AreUpTo last es

-- the table counts how many facts name each relation
abbrev pub AreCounted : Counts → IndexedFacts → Type 0
AreCounted counts facts = IsCountOf (λ f. f.relation) counts (values_of facts)

-- the table without this fact
abbrev pub IsLessBy : Option FactValue → Counts → Counts → Type 0
IsLessBy fact old new = (relation : List ℕ) → count_of new relation ≡ count_of old relation - unwrap_or (option_map (λ f. one_if (bytes_eq f.relation relation)) fact) 0

-- no rule has a number after this one
abbrev pub AreRulesUpTo : ℕ → Conditions → Type 0
AreRulesUpTo last rules = All (λ r. r.0 ≤ last) rules

-- the numbers that were given last, the counts of relations and the numbers of the rules fit the rules and the facts
pub record AreKept (counts : Counts) (numbers : List ℕ) (last last_rule : ℕ) (n : Network) : Type 0 where
  pub indices : AreUpTo last n.facts
  pub counted : AreCounted counts n.facts
  pub rising : IsStrictlySortedBy nat_cmp numbers
  pub numbered : numbers ≡ keys_of n.rules
  pub rules : AreRulesUpTo last_rule n.rules

-- without the rules with these numbers
abbrev pub without_rules : List ℕ → Network → Network
without_rules [] n = n
without_rules (id ∷ ids) n = without_rules ids (without_rule id n)

-- how the logic stores it, alone and with the numbers of the matches
abbrev pub memory_code : Coded Value → Coded (List ℕ) → Coded Piece → Coded IndexedFacts → Coded Memory
memory_code value name piece facts =
    code_by (Network × (ℕ × ℕ)) (coded× (network_code value name piece facts) (coded× coded_ℕ coded_ℕ)) (λ m. (m.network, (m.last, m.last_rule)))
    (λ p. record { network = p.0; last = p.1.0; last_rule = p.1.1 }) (λ _. refl)

abbrev pub base_code : Coded Value → Coded (List ℕ) → Coded Piece → Coded IndexedFacts → Coded KnowledgeBaseValue
base_code value name piece facts =
    code_by (Memory × Numbers) (coded× (memory_code value name piece facts) (coded_list (coded× key_code coded_ℕ))) (λ b. (b.memory, b.numbers)) (λ p. record { memory = p.0; numbers = p.1 }) (λ _. refl)
