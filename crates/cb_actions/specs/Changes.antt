-- What a change of the facts or the rules does to the agenda, and its lines.
use Rattle.std.specs.Prelude.{ℕ, ℤ, Bool, true, false, List, [], ◌++◌, Option, Some, None, Ok, codes, length, map, flat_map, if◌then◌else◌}
use Rattle.std.specs.List.{filter}
use Rattle.cb_actions.specs.Acts.{Act, stop, ◌>>=◌}
use Rattle.cb_knowledge_base.specs.KnowledgeBase.{Memory}
use Rattle.cb_lines.specs.Lines.{activation_line, fact_line}
use Rattle.cb_rules.specs.RuleTables.{rule_numbered, salience_of}
use Rattle.cb_actions.specs.Worlds.{World}
use Rattle.cb_rules.specs.RuleInfos.{RuleInfo}
use Rattle.cb_actions.specs.declared.act.EarlyEnd.TheVariants as ended
use Rattle.cb_actions.specs.declared.act.Limit.TheVariants.{Numbers}
use Rattle.cb_agenda.specs.Agendas.{changed, has_stamps, is_due}
use Rattle.cb_facts.specs.Facts.{FactValue}
use Rattle.cb_matches.specs.Changes.{keys_come, keys_gone}
use Rattle.cb_matches.specs.Keys.{KeyValue}

-- the salience of the rule of each key
abbrev pub saliences : List RuleInfo → List KeyValue → List ℤ
saliences rs ks = map (λ k. salience_of (rule_numbered k.rule rs)) ks

-- these lines, if they are watched
abbrev pub if_watched : Bool → List ℕ → List ℕ
if_watched true bytes = bytes
if_watched false bytes = []

-- a fact that comes, and one that goes, if there is one
abbrev pub come_line : World → ℕ → FactValue → List ℕ
come_line s ix f = if_watched s.watched.facts (codes "==> " ++ fact_line (ix, f))

abbrev pub gone_line : World → ℕ → Option FactValue → List ℕ
gone_line s ix None = []
gone_line s ix (Some f) = if_watched s.watched.facts (codes "<== " ++ fact_line (ix, f))

-- the lines of the activations that go and then of those that come
abbrev pub activation_lines : World → List KeyValue → List KeyValue → List ℕ
activation_lines s gone come =
    if_watched s.watched.activations (flat_map (activation_line (codes "<== ") s.rules) (filter (is_due s.agenda) gone) ++ flat_map (activation_line (codes "==> ") s.rules) come)

-- this is written
abbrev pub tell : List ℕ → Act World (Unit {0})
tell bytes s = record { state = s; written = bytes; answer = Ok tt }

-- The activations of these keys are taken out, and these are put in. Where no stamp is left, the script ends.
abbrev pub scheduled : List KeyValue → List KeyValue → Act World (Unit {0})
scheduled gone come s =
    if has_stamps s.agenda (length come)
    then record { state = record s { agenda = changed s.agenda gone come (saliences s.rules come) }; written = []; answer = Ok tt }
    else stop (ended.Limit Numbers) s

-- these matches went and these came, with the lines of it
abbrev pub rescheduled : List KeyValue → List KeyValue → Act World (Unit {0})
rescheduled gone come s = (scheduled gone come >>= (λ _. tell (activation_lines s gone come))) s

-- this is written, and then these matches went and these came
abbrev pub told : List ℕ → List KeyValue → List KeyValue → Act World (Unit {0})
told line gone come = tell line >>= (λ _. rescheduled gone come)

-- the rules and the facts are these now: this is written, and then what went and what came by it
unfoldable pub moved : Memory → List ℕ → Act World (Unit {0})
moved next line s = told line (keys_gone s.memory.network next.network) (keys_come s.memory.network next.network) (record s { memory = next })
