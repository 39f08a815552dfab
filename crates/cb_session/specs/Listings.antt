-- The lists of facts, of activations and of rules, line by line.
use Rattle.std.specs.Prelude.{ℕ, ℤ, List, ◌++◌, codes, length}
use Rattle.std.specs.List.{flat_map}
use Rattle.cb_facts.specs.FactLists.{IndexedFacts}
use Rattle.cb_lines.specs.Lines.{agenda_line, fact_line, total_line}
use Rattle.cb_lines.specs.declared.totals.Noun.{Noun}
use Rattle.cb_lines.specs.declared.totals.Noun.TheVariants.{Fact, Activation, Defrule}
use Rattle.cb_matches.specs.Keys.{KeyValue}
use Rattle.cb_rules.specs.RuleInfos.{RuleInfo}

-- a line for each of a list, and then how many there are
abbrev pub listing : {X : Type 0} → (X → List ℕ) → Noun → List X → List ℕ
listing line noun xs = flat_map line xs ++ total_line (length xs) noun

-- the facts, in the order of their indices
abbrev pub fact_lines : IndexedFacts → List ℕ
fact_lines facts = listing fact_line Fact facts

-- activations of rules, each a key and a salience
abbrev pub agenda_lines : List RuleInfo → List (KeyValue × ℤ) → List ℕ
agenda_lines rules activations = listing (agenda_line rules) Activation activations

-- a rule, by its name
abbrev pub rule_line : RuleInfo → List ℕ
rule_line rule = rule.name ++ codes "\n"

-- the rules, in the order of their definition
abbrev pub rule_lines : List RuleInfo → List ℕ
rule_lines rules = listing rule_line Defrule rules
