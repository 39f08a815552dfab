-- What only the code needs.
pub mod HeldParts
pub mod KeyLaws
use Rattle.std.specs.Prelude.{ℕ, Bool, List, refl}
use Rattle.std.specs.Coded.{Coded, code_by, coded_bool, coded_list, coded_ℕ, coded×}
use Rattle.cb_rules.specs.Elements.{Elements}
use Rattle.cb_rules.specs.Internal.Codes.{elements_code}
use Rattle.cb_exprs.specs.Internal.Codes.{Piece}
use Rattle.cb_facts.specs.FactLists.{IndexedFacts}
use Rattle.cb_facts.specs.declared.value.Value.{Value}
use Rattle.cb_matches.specs.Changes.{Numbers}
use Rattle.cb_matches.specs.Keys.{KeyValue, PartValue}
use Rattle.cb_matches.specs.Matchers.{MatcherValue}
use Rattle.cb_matches.specs.Networks.{Conditions, Network}

-- how the logic stores a rule's number with its branches, rules with facts, keys, and a matcher
abbrev pub branches_code : Coded Value → Coded (List ℕ) → Coded Piece → Coded (ℕ × List Elements)
branches_code value name piece = coded× coded_ℕ (coded_list (elements_code value name piece))

abbrev pub network_code : Coded Value → Coded (List ℕ) → Coded Piece → Coded IndexedFacts → Coded Network
network_code value name piece facts =
    code_by (Conditions × IndexedFacts) (coded× (coded_list (branches_code value name piece)) facts) (λ n. (n.rules, n.facts)) (λ p. record { rules = p.0; facts = p.1 }) (λ _. refl)

abbrev pub part_code : Coded PartValue
part_code = code_by (ℕ × List ℕ) (coded× coded_ℕ (coded_list coded_ℕ)) (λ p. (p.index, p.cuts)) (λ p. record { index = p.0; cuts = p.1 }) (λ _. refl)

abbrev pub key_code : Coded KeyValue
key_code =
    code_by (ℕ × (ℕ × List PartValue)) (coded× coded_ℕ (coded× coded_ℕ (coded_list part_code))) (λ k. (k.rule, (k.branch, k.parts)))
    (λ p. record { rule = p.0; branch = p.1.0; parts = p.1.1 }) (λ _. refl)

abbrev pub matcher_code : Coded Value → Coded (List ℕ) → Coded Piece → Coded IndexedFacts → Coded MatcherValue
matcher_code value name piece facts =
    code_by (Network × (Numbers × Bool)) (coded× (network_code value name piece facts) (coded× (coded_list (coded× key_code coded_ℕ)) coded_bool)) (λ m. (m.network, (m.numbers, m.is_failed)))
    (λ p. record { network = p.0; numbers = p.1.0; is_failed = p.1.1 }) (λ _. refl)
