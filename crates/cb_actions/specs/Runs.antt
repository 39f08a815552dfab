-- Rules that fire, and what changes them.
use Rattle.std.specs.Prelude.{ℕ, zero, suc, ◌+◌, ◌-◌, false, List, [], ◌∷◌, ◌++◌, Option, Some, None, codes, flat_map, nat_eq, nat_lt, not, option_map, if◌then◌else◌}
use Rattle.std.specs.List.{filter}
use Rattle.cb_actions.specs.Actions.{carried_all}
use Rattle.cb_actions.specs.Acts.{Act, give, in_rule, stop, ◌>>=◌}
use Rattle.cb_actions.specs.Changes.{if_watched, moved, rescheduled, tell}
use Rattle.cb_eval.specs.Constants.{false_symbol}
use Rattle.cb_knowledge_base.specs.KnowledgeBase.{cleared, greatest_index, restarted, with_next_rule, without_one_rule}
use Rattle.cb_lines.specs.Lines.{fact_line, firing_line}
use Rattle.cb_rules.specs.RuleTables.{rule_named, rule_numbered}
use Rattle.cb_actions.specs.Worlds.{World}
use Rattle.cb_rules.specs.RuleInfos.{RuleInfo}
use Rattle.cb_actions.specs.declared.act.EarlyEnd.TheVariants as ended
use Rattle.cb_actions.specs.declared.act.Limit.TheVariants.{Firings, Numbers}
use Rattle.cb_agenda.specs.Agendas.{AgendaValue, popped}
use Rattle.cb_rules.specs.Elements.{Elements}
use Rattle.cb_exprs.specs.Bindings.{Bindings}
use Rattle.cb_exprs.specs.Terms.{Terms, no_terms}
use Rattle.cb_facts.specs.FactLists.{IndexedFacts}
use Rattle.cb_facts.specs.declared.value.Value.{Value}
use Rattle.cb_matches.specs.Keys.{KeyValue}
use Rattle.cb_matches.specs.Networks.{all_keys, bindings_of}

abbrev pub actions_of : Option RuleInfo → Terms
actions_of None = no_terms
actions_of (Some r) = r.actions

-- the variables have these values, and the globals the ones that they had
abbrev pub with_variables_of : Bindings → World → World
with_variables_of env s = record s { env = record { variables = env.variables; globals = s.env.globals } }

-- an act in which the variables have these values; after it they have the ones that they had
abbrev pub in_scope : {A : Type 0} → Bindings → Act World A → Act World A
in_scope env act s =
    let e = act (with_variables_of env s) in
    record { state = with_variables_of s.env e.state; written = e.written; answer = e.answer }

-- the actions of the rule of a match, with the variables of the match; a fault in them is one of that rule
abbrev pub acted : KeyValue → Act World (Option Value)
acted k s = in_rule k.rule (in_scope (bindings_of s.memory.network k) (carried_all (Some false_symbol) (actions_of (rule_numbered k.rule s.rules)))) s

-- the line of a firing, with its number in the run, if it is watched
abbrev pub fire_line : ℕ → KeyValue → World → List ℕ
fire_line n k s = if_watched s.watched.rules (firing_line n s.rules k)

-- a match fires: its line, and then the actions of its rule
abbrev pub fired : ℕ → KeyValue → Act World (Option Value)
fired n k s = (tell (fire_line n k s) >>= (λ _. acted k)) s

-- so many firings are left, and a match fires
abbrev pub spent : ℕ → ℕ → KeyValue → Act World (Option Value)
spent left n k s = fired n k (record s { firings = left })

-- what follows where there is a match
abbrev pub due_by : Option KeyValue → (KeyValue → Act World (Unit {0})) → Act World (Unit {0})
due_by None next s = give tt s
due_by (Some k) next s = next k s

-- what follows where a match is due, which is taken out
abbrev pub due : AgendaValue × Option KeyValue → (KeyValue → Act World (Unit {0})) → Act World (Unit {0})
due p next s = due_by p.1 next (record s { agenda = p.0 })

-- what follows where one more firing is asked for and a match is due; else the run is over
abbrev pub next_due : Option ℕ → (KeyValue → Act World (Unit {0})) → Act World (Unit {0})
next_due (Some zero) next s = give tt s
next_due (Some (suc n)) next s = due (popped s.agenda) next s
next_due None next s = due (popped s.agenda) next s

-- what follows unless a `halt` was met
abbrev pub unless_halted : Act World (Unit {0}) → Act World (Unit {0})
unless_halted next s = if s.is_halted then give tt s else next s

-- A run with n firings left, of which so many are asked for (`None`: as many as come), after some of this run. One more that is
-- due where none is left is a limit.
abbrev pub ran : ℕ → Option ℕ → ℕ → Act World (Unit {0})
ran zero asked done = next_due asked (λ k. stop (ended.Limit Firings))
ran (suc n) asked done = next_due asked (λ k. spent n (done + 1) k >>= (λ _. unless_halted (ran n (option_map (λ m. m - 1) asked) (done + 1))))

-- a run
abbrev pub run : Option ℕ → Act World (Unit {0})
run asked s = ran s.firings asked 0 (record s { is_halted = false })

-- nothing is kept of the rule any more
abbrev pub forgotten : ℕ → Act World (Unit {0})
forgotten id s = give tt (record s { rules = filter (λ r. not (nat_eq id r.id)) s.rules })

-- A rule is dropped: its activations go, with their lines.
abbrev pub dropped_rule : ℕ → Act World (Unit {0})
dropped_rule id s = (moved (without_one_rule id s.memory) [] >>= (λ _. forgotten id)) s

abbrev pub replaced : Option ℕ → Act World (Unit {0})
replaced None = give tt
replaced (Some id) = dropped_rule id

-- what is kept of a rule with the next number
abbrev pub numbered : World → RuleInfo → RuleInfo
numbered s r = record { id = s.memory.last_rule + 1; name = r.name; salience = r.salience; relations = r.relations; layouts = r.layouts; actions = r.actions }

-- A rule is added, with the next number; where no number is left, the script ends.
abbrev pub added_rule : RuleInfo → List Elements → Act World (Unit {0})
added_rule r branches s =
    if nat_lt s.memory.last_rule greatest_index
    then moved (with_next_rule branches s.memory) [] (record s { rules = s.rules ++ numbered s r ∷ [] })
    else stop (ended.Limit Numbers) s

-- A rule is added in place of the one with its name, if there is one: two changes. Where no number is left, the old one stays.
abbrev pub defined_rule : RuleInfo → List Elements → Act World (Unit {0})
defined_rule r branches s =
    if nat_lt s.memory.last_rule greatest_index
    then (replaced (option_map (λ r. r.id) (rule_named r.name s.rules)) >>= (λ _. added_rule r branches)) s
    else stop (ended.Limit Numbers) s

-- the lines of all facts, which go, if they are watched
abbrev pub gone_lines : IndexedFacts → List ℕ
gone_lines facts = flat_map (λ f. codes "<== " ++ fact_line f) facts

abbrev pub all_gone : Act World (Unit {0})
all_gone s = tell (if_watched s.watched.facts (gone_lines s.memory.network.facts)) s

-- no facts and no activations, and the next index is 1
abbrev pub without_facts : World → World
without_facts s = record s { memory = restarted s.memory; agenda = record s.agenda { entries = [] } }

-- The facts go, and the matches over no facts come anew.
abbrev pub started_anew : Act World (Unit {0})
started_anew s = rescheduled [] (all_keys (restarted s.memory).network) (without_facts s)

abbrev pub restarted_world : Act World (Unit {0})
restarted_world = all_gone >>= (λ _. started_anew)

-- no facts, rules, templates, values and activations; the numbers of rules and stamps go on, and the strategy and what is watched stay
abbrev pub without_all : World → World
without_all s = record s {
  memory = cleared s.memory;
  agenda = record s.agenda { entries = [] };
  rules = [];
  templates = [];
  env = record { variables = []; globals = [] };
}

abbrev pub cleared_world : Act World (Unit {0})
cleared_world = all_gone >>= (λ _ s. give tt (without_all s))
