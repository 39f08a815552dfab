-- Rules and facts, and all matches of them at once.
use Rattle.std.specs.Prelude.{ℕ, ◌+◌, List, [], ◌∷◌, ◌++◌, map, flat_map, nat_eq, not}
use Rattle.std.specs.List.{filter}
use Rattle.std.specs.Map.{keys_of, lookup}
use Rattle.std.specs.Option.{option_map_or}
use Rattle.cb_rules.specs.Elements.{Elements}
use Rattle.cb_exprs.specs.Bindings.{Bindings, no_bindings}
use Rattle.cb_facts.specs.FactLists.{IndexedFacts, with_fact, without_fact}
use Rattle.cb_facts.specs.Facts.{FactValue}
use Rattle.cb_matches.specs.Keys.{KeyValue, key_eq}
use Rattle.cb_matches.specs.Matches.{Partial, matches_of}

-- what rules ask: each rule's number with its branches, in the order of the numbers
abbrev pub Conditions : Type 0
Conditions = List (ℕ × List Elements)

pub record Network : Type 0 where
  pub rules : Conditions
  pub facts : IndexedFacts

abbrev pub empty_network : Network
empty_network = record { rules = []; facts = [] }

-- the key of a match of this branch, and what variables have by it
abbrev pub keyed : ℕ → ℕ → Partial → KeyValue × Bindings
keyed rule branch m = (record { rule = rule; branch = branch; parts = m.parts }, m.env)

-- the matches of the branches from this place on
abbrev pub branch_matches : ℕ → ℕ → List Elements → IndexedFacts → List (KeyValue × Bindings)
branch_matches rule n [] fs = []
branch_matches rule n (es ∷ more) fs = map (keyed rule n) (matches_of es fs) ++ branch_matches rule (n + 1) more fs

abbrev pub rule_matches : IndexedFacts → ℕ × List Elements → List (KeyValue × Bindings)
rule_matches fs r = branch_matches r.0 0 r.1 fs

-- all matches, in the order of their keys, each with what variables have by it
unfoldable pub all_matches : Network → List (KeyValue × Bindings)
all_matches n = flat_map (rule_matches n.facts) n.rules

unfoldable pub all_keys : Network → List KeyValue
all_keys n = keys_of (all_matches n)

-- what variables have by the match with this key
unfoldable pub bindings_of : Network → KeyValue → Bindings
bindings_of n k = option_map_or (λ env. env) (lookup (key_eq k) (all_matches n)) no_bindings

-- one fact more, and one less; one rule more, and one less
abbrev pub with_one : ℕ → FactValue → Network → Network
with_one ix f n = record { rules = n.rules; facts = with_fact n.facts ix f }

abbrev pub without_one : ℕ → Network → Network
without_one ix n = record { rules = n.rules; facts = without_fact n.facts ix }

abbrev pub with_rule : ℕ → List Elements → Network → Network
with_rule id branches n = record { rules = n.rules ++ (id, branches) ∷ []; facts = n.facts }

abbrev pub without_rule : ℕ → Network → Network
without_rule id n = record { rules = filter (λ r. not (nat_eq id r.0)) n.rules; facts = n.facts }

-- no facts
abbrev pub restarted : Network → Network
restarted n = record { rules = n.rules; facts = [] }
