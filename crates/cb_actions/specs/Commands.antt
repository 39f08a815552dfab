-- What the commands on rules do, and `exit`.
use Rattle.std.specs.Prelude.{ℕ, pos, Bool, List, Option, Some, None, codes, map, nat_le, option_map, if◌then◌else◌}
use Rattle.cb_actions.specs.Actions.{carried}
use Rattle.cb_actions.specs.Acts.{Act, become, each, give, stop, ◌>>=◌}
use Rattle.cb_actions.specs.Effects.{index_named, valued}
use Rattle.cb_actions.specs.Runs.{defined_rule, dropped_rule, run}
use Rattle.cb_rules.specs.RuleTables.{rule_named}
use Rattle.cb_actions.specs.Worlds.{World}
use Rattle.cb_actions.specs.declared.act.EarlyEnd.TheVariants as ended
use Rattle.cb_actions.specs.declared.watched.Watched.{Watched}
use Rattle.cb_agenda.specs.declared.strategy.Strategy.{Strategy}
use Rattle.cb_agenda.specs.declared.strategy.Strategy.TheVariants.{Depth, Breadth}
use Rattle.cb_exprs.specs.Terms.{Term}
use Rattle.cb_facts.specs.declared.value.Value.{Value}
use Rattle.cb_facts.specs.declared.value.Value.TheVariants as value
use Rattle.cb_forms.specs.declared.fault.Fault.TheVariants.{NoSuchRule, WrongType}
use Rattle.cb_rules.specs.RuleInfos.{info_of}
use Rattle.cb_rules.specs.RuleValues.{RuleValue}
use Rattle.cb_words.specs.declared.watch_item.WatchItem.{WatchItem}
use Rattle.cb_words.specs.declared.watch_item.WatchItem.TheVariants.{Facts, Rules, Activations, All}

-- an act, which has no value
abbrev pub without_value : Act World (Unit {0}) → Act World (Option Value)
without_value act = act >>= (λ _. give None)

-- a rule takes the last place; the one with its name goes
abbrev pub rule_defined : RuleValue → Act World (Option Value)
rule_defined r = without_value (defined_rule (info_of r) r.branches)

-- how many firings a value asks for: as many as come where it is negative
abbrev pub asked_by : Value → Act World (Option ℕ)
asked_by (value.Int n) = give (index_named n)
asked_by v = stop (ended.Fault WrongType)

-- `(run)`, and `(run n)`
abbrev pub ran_as : Option Term → Act World (Option Value)
ran_as None = without_value (run None)
ran_as (Some t) = valued (carried t) >>= (λ v. asked_by v >>= (λ asked. without_value (run asked)))

-- the exit status that a value is, from 0 to 255
abbrev pub status_in : Value → Option ℕ
status_in (value.Int (pos n)) = if nat_le n 255 then Some n else None
status_in v = None

-- the script ends with this status
abbrev pub exited_with : Option ℕ → Act World (Option Value)
exited_with None = stop (ended.Fault WrongType)
exited_with (Some n) = stop (ended.Exit (Some n))

-- `(exit)`, and `(exit n)`
abbrev pub exited : Option Term → Act World (Option Value)
exited None = stop (ended.Exit None)
exited (Some t) = valued (carried t) >>= (λ v. exited_with (status_in v))

-- the rule with this number goes; where there is none, that is a fault
abbrev pub undefined_if : Option ℕ → Act World (Unit {0})
undefined_if None = stop (ended.Fault NoSuchRule)
undefined_if (Some id) = dropped_rule id

-- `(undefrule name)`; without a name, all rules go, in the order in which they were defined
abbrev pub undefined : Option (List ℕ) → Act World (Option Value)
undefined (Some name) s = without_value (undefined_if (option_map (λ r. r.id) (rule_named name s.rules))) s
undefined None s = without_value (each dropped_rule (map (λ r. r.id) s.rules)) s

-- whether the item is watched is so now
abbrev pub watched_so : WatchItem → Bool → Watched → Watched
watched_so Facts on w = record { facts = on; rules = w.rules; activations = w.activations }
watched_so Rules on w = record { facts = w.facts; rules = on; activations = w.activations }
watched_so Activations on w = record { facts = w.facts; rules = w.rules; activations = on }
watched_so All on w = record { facts = on; rules = on; activations = on }

abbrev pub watch_set : WatchItem → Bool → Act World (Option Value)
watch_set item on s = become (record s { watched = watched_so item on s.watched }) s

abbrev pub strategy_name : Strategy → List ℕ
strategy_name Depth = codes "depth"
strategy_name Breadth = codes "breadth"

-- the strategy is this now, and the value is the name of the old one
abbrev pub strategy_set : Strategy → Act World (Option Value)
strategy_set strategy s = give (Some (value.Symbol (strategy_name s.agenda.strategy))) (record s { agenda = record s.agenda { strategy = strategy } })
