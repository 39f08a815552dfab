-- The turns that are left never rise by the commands on rules, nor by the definition of a rule.
use Rattle.std.proofs.Common.{◌≤◌, ℕ, Bool, true, false, List, [], Option, Some, None, arith, length, map, option_map, if◌then◌else◌}
use Rattle.cb_actions.specs.Actions.{carried}
use Rattle.cb_actions.specs.Acts.{Act, Effect, each, give, ◌>>=◌}
use Rattle.cb_actions.specs.Changes.{activation_lines, moved, rescheduled, scheduled, tell, told}
use Rattle.cb_actions.specs.Commands.{asked_by, exited, exited_with, ran_as, rule_defined, status_in, undefined, undefined_if, without_value}
use Rattle.cb_actions.specs.Effects.{valued, wanted}
use Rattle.cb_actions.specs.Internal.{Falls, turns_left}
use Rattle.cb_actions.specs.Runs.{defined_rule, dropped_rule, forgotten, run}
use Rattle.cb_knowledge_base.specs.KnowledgeBase.{Memory, without_one_rule}
use Rattle.cb_rules.specs.RuleTables.{rule_named}
use Rattle.cb_actions.specs.Worlds.{World}
use Rattle.cb_actions.proofs.FallLaws.{falls_then}
use Rattle.cb_actions.proofs.TurnLaws.{each_falls, never_rises, rule_falls, run_falls}
use Rattle.cb_agenda.specs.Agendas.{has_stamps}
use Rattle.cb_exprs.specs.Terms.{Term}
use Rattle.cb_facts.specs.declared.value.Value.{Value}
use Rattle.cb_facts.specs.declared.value.Value.TheVariants as value
use Rattle.cb_matches.specs.Changes.{keys_come, keys_gone}
use Rattle.cb_matches.specs.Keys.{KeyValue}
use Rattle.cb_rules.specs.RuleInfos.{info_of}
use Rattle.cb_rules.specs.RuleValues.{RuleValue}

if_falls : {A : Type 0} (b : Bool) (p q : Effect World A) (s : World) → p.state.turns ≤ s.turns → q.state.turns ≤ s.turns → (if b then p else q).state.turns ≤ s.turns
if_falls true p q s f g = f
if_falls false p q s f g = g

-- a change of the rules
scheduled_falls : (gone come : List KeyValue) → Falls turns_left (scheduled gone come)
scheduled_falls gone come s = if_falls (has_stamps s.agenda (length come)) _ _ s (omega arith) (omega arith)

rescheduled_falls : (gone come : List KeyValue) → Falls turns_left (rescheduled gone come)
rescheduled_falls gone come s = falls_then turns_left (scheduled gone come) (λ _. tell (activation_lines s gone come)) (scheduled_falls gone come) (λ _ u. omega arith) s

moved_falls : (next : Memory) (line : List ℕ) → Falls turns_left (moved next line)
moved_falls next line s =
    let gone = keys_gone s.memory.network next.network in
    let come = keys_come s.memory.network next.network in
    let h : (told line gone come (record s { memory = next })).state.turns ≤ s.turns
    = falls_then turns_left (tell line) (λ _. rescheduled gone come) (λ u. omega arith) (λ _. rescheduled_falls gone come) (record s { memory = next }) in
    unfold moved in h

dropped_falls : (id : ℕ) → Falls turns_left (dropped_rule id)
dropped_falls id s = falls_then turns_left (moved (without_one_rule id s.memory) []) (λ _. forgotten id) (moved_falls (without_one_rule id s.memory) []) (λ _ u. omega arith) s

without_value_falls : (act : Act World (Unit {0})) → Falls turns_left act → Falls turns_left (without_value act)
without_value_falls act h = falls_then turns_left act (λ _. give None) h (λ _ s. omega arith)

pub rule_defined_falls : (rule : RuleValue) → Falls turns_left (rule_defined rule)
rule_defined_falls rule = without_value_falls (defined_rule (info_of rule) rule.branches) (rule_falls (info_of rule) rule.branches)

-- the value of an expression
wanted_falls : (v : Option Value) → Falls turns_left (wanted v)
wanted_falls None s = omega arith
wanted_falls (Some v) s = omega arith

valued_falls : (t : Term) → Falls turns_left (valued (carried t))
valued_falls t = falls_then turns_left (carried t) wanted (never_rises t) wanted_falls

asked_falls : (v : Value) → Falls turns_left (asked_by v)
asked_falls (value.Int n) s = omega arith
asked_falls (value.Symbol x) s = omega arith
asked_falls (value.Str x) s = omega arith
asked_falls (value.Fact ix) s = omega arith
asked_falls (value.Multi x) s = omega arith

run_alone_falls : (asked : Option ℕ) → Falls turns_left (without_value (run asked))
run_alone_falls asked = without_value_falls (run asked) (run_falls asked)

pub ran_falls : (count : Option Term) → Falls turns_left (ran_as count)
ran_falls None s = run_alone_falls None s
ran_falls (Some t) s =
    falls_then turns_left (valued (carried t)) (λ v. asked_by v >>= (λ asked. without_value (run asked))) (valued_falls t)
    (λ v. falls_then turns_left (asked_by v) (λ asked. without_value (run asked)) (asked_falls v) run_alone_falls) s

exited_with_falls : (o : Option ℕ) → Falls turns_left (exited_with o)
exited_with_falls None s = omega arith
exited_with_falls (Some n) s = omega arith

pub exited_falls : (status : Option Term) → Falls turns_left (exited status)
exited_falls None s = omega arith
exited_falls (Some t) s = falls_then turns_left (valued (carried t)) (λ v. exited_with (status_in v)) (valued_falls t) (λ v. exited_with_falls (status_in v)) s

undefined_if_falls : (o : Option ℕ) → Falls turns_left (undefined_if o)
undefined_if_falls None s = omega arith
undefined_if_falls (Some id) s = dropped_falls id s

pub undefined_falls : (name : Option (List ℕ)) → Falls turns_left (undefined name)
undefined_falls (Some name) s =
    let id = option_map (λ r. r.id) (rule_named name s.rules) in
    without_value_falls (undefined_if id) (undefined_if_falls id) s
undefined_falls None s =
    let ids = map (λ r. r.id) s.rules in
    without_value_falls (each dropped_rule ids) (each_falls dropped_rule ids dropped_falls) s
