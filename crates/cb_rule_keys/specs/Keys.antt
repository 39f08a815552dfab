-- Keys of matches, branch by branch and rule by rule.
use Rattle.std.specs.Prelude.{◌≡◌, ◌++◌, ℕ, List, flat_map, map}
use Rattle.std.specs.Map.{keys_of}
use Rattle.cb_facts.specs.FactLists.{IndexedFacts}
use Rattle.cb_matches.specs.Changes.{come_of}
use Rattle.cb_matches.specs.Keys.{KeyValue}
use Rattle.cb_matches.specs.Matches.{Partial, matches_of}
use Rattle.cb_matches.specs.Networks.{Conditions, branch_matches, rule_matches}
use Rattle.cb_matches.specs.declared.delta.Delta.{Delta}
use Rattle.cb_rules.specs.Elements.{Elements}

-- the key of a partial match of a branch
abbrev pub key_of : ℕ → ℕ → Partial → KeyValue
key_of rule branch m = record { rule = rule; branch = branch; parts = m.parts }

-- the keys of the matches of a branch, of the branches from this one on, and of rules
abbrev pub keys_in_branch : ℕ → ℕ → Elements → IndexedFacts → List KeyValue
keys_in_branch rule n es fs = map (key_of rule n) (matches_of es fs)

abbrev pub branch_keys : ℕ → ℕ → List Elements → IndexedFacts → List KeyValue
branch_keys rule n branches fs = keys_of (branch_matches rule n branches fs)

abbrev pub rule_keys : Conditions → IndexedFacts → List KeyValue
rule_keys rules fs = keys_of (flat_map (rule_matches fs) rules)

-- a delta got the keys that went and those that came more, from the first keys to the second
pub record Tells (delta delta' : Delta) (old new : List KeyValue) : Type 0 where
  pub gone : delta'.gone.items ≡ delta.gone.items ++ come_of new old
  pub come : delta'.come.items ≡ delta.come.items ++ come_of old new
