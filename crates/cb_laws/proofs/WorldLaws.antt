-- What expressions, runs and the commands on rules keep: of facts and templates, of firings, and of the agenda.
use Rattle.std.proofs.Common.{◌≡◌, ◌≤◌, ◌+◌, ◌-◌, ◌++◌, ℕ, zero, suc, Bool, true, false, List, ℤ, [], ◌∷◌, Option, Some, None, Ok, length, ap, arith, map, nat_eq, nat_lt, not, option_map, sym, subst, if◌then◌else◌}
use Rattle.std.specs.List.{filter}
use Rattle.std.specs.List.Sorted.{IsStrictlySortedBy}
use Rattle.cb_actions.specs.Actions.{carried, carried_all}
use Rattle.cb_actions.specs.Acts.{Act, each, give, stop, ◌>>=◌}
use Rattle.cb_actions.specs.Changes.{activation_lines, moved, rescheduled, saliences, scheduled, tell}
use Rattle.cb_actions.specs.Commands.{asked_by, exited, exited_with, ran_as, rule_defined, status_in, undefined, undefined_if, without_value}
use Rattle.cb_actions.specs.Effects.{asserted, replaced_if_new, retracted, valued}
use Rattle.cb_actions.specs.Runs.{actions_of, acted, added_rule, all_gone, cleared_world, defined_rule, dropped_rule, due_by, fire_line, forgotten, next_due, numbered, ran, replaced, restarted_world, run, spent, started_anew, unless_halted, with_variables_of, without_all, without_facts}
use Rattle.cb_actions.specs.Worlds.{World}
use Rattle.cb_actions.specs.declared.act.EarlyEnd.TheVariants as ended
use Rattle.cb_actions.specs.declared.act.Limit.TheVariants.{Firings, Numbers}
use Rattle.cb_agenda.specs.Agendas.{changed, has_stamps, popped}
use Rattle.cb_agenda.specs.declared.strategy.Strategy.{Strategy}
use Rattle.cb_eval.specs.Constants.{false_symbol}
use Rattle.cb_exprs.specs.Terms.{Term}
use Rattle.cb_facts.specs.declared.value.Value.{Value}
use Rattle.cb_facts.specs.declared.value.Value.TheVariants as value
use Rattle.cb_knowledge_base.specs.KnowledgeBase.{Memory, greatest_index, restarted, with_next_rule, without_one_rule}
use Rattle.cb_laws.proofs.ActLaws.{asserts_only, asserts_proper}
use Rattle.cb_laws.proofs.AgendaLaws.{changed_proper, moved_proper, popped_proper}
use Rattle.cb_laws.proofs.ExpressionLaws.{IsKept, all_keep, expression_keeps, valued_keeps}
use Rattle.cb_laws.proofs.FiringLaws.{never_rise}
use Rattle.cb_laws.proofs.Keeping.{After, Keeps, after_any, after_in_rule, after_map, follow_keeps, keeps_each, keeps_then}
use Rattle.cb_laws.proofs.ModifyKeeping.{modified_keeps, moves_keep}
use Rattle.cb_laws.proofs.ModifyLaws.{modified_kept}
use Rattle.cb_laws.proofs.MoveLaws.{moved_so}
use Rattle.cb_laws.proofs.ReachedLaws.{asserted_kept, none_kept, retracted_kept, rules_kept}
use Rattle.cb_laws.proofs.RetractedLaws.{retracted_takes}
use Rattle.cb_laws.specs.Firing.{IsProper}
use Rattle.cb_laws.specs.Reached.{AreWellKept, IsTemplate}
use Rattle.cb_session.specs.Deeds.{Settings, with_settings}
use Rattle.cb_rules.specs.RuleTables.{rule_named, rule_numbered}
use Rattle.cb_matches.specs.Keys.{KeyValue}
use Rattle.cb_matches.specs.Networks.{Conditions, all_keys, bindings_of, with_rule, without_rule}
use Rattle.cb_rules.specs.Elements.{Elements}
use Rattle.cb_rules.specs.RuleInfos.{RuleInfo, info_of}
use Rattle.cb_rules.specs.RuleValues.{RuleValue}
use Rattle.cb_templates.specs.Slots.{SlotShape}
use Rattle.cb_templates.specs.Templates.{slots_of}

-- What holds of a world in every run, where values, turns, `halt` and firings don't matter to it.
if_keeps : (P Q : World → Type 0) (b : Bool) (p q : Act World (Unit {0})) → Keeps P Q p → Keeps P Q q → (s : World) → P s → After P Q (if b then p s else q s).state (if b then p s else q s).answer
if_keeps P Q true p q f g s h = f s h
if_keeps P Q false p q f g s h = g s h

module _ (P Q : World → Type 0) (acts : IsKept P Q) (fires : (s : World) (n : ℕ) → P s → P (record s { firings = n })) (pops : (s : World) → P s → P (record s { agenda = (popped s.agenda).0 })) where
  acted_keeps : (k : KeyValue) → Keeps P Q (acted k)
  acted_keeps k s h =
      let before : World = with_variables_of (bindings_of s.memory.network k) s in
      let act : Act World (Option Value) = carried_all (Some false_symbol) (actions_of (rule_numbered k.rule s.rules)) in
      after_in_rule P Q k.rule (with_variables_of s.env (act before).state) (act before).answer
      (after_map P Q (λ t. with_variables_of s.env t) (act before).state (act before).answer (λ t m. acts.env t (record { variables = s.env.variables; globals = t.env.globals }) m)
      (λ t m. acts.env_limit t (record { variables = s.env.variables; globals = t.env.globals }) m)
      (all_keep P Q acts (Some false_symbol) (actions_of (rule_numbered k.rule s.rules)) before (acts.env s (record { variables = (bindings_of s.memory.network k).variables; globals = s.env.globals }) h)))

  spent_keeps : (left n : ℕ) (k : KeyValue) → Keeps P Q (spent left n k)
  spent_keeps left n k s h =
      keeps_then P Q (tell (fire_line n k (record s { firings = left }))) (λ _. acted k) (λ t m. m) (λ _. acted_keeps k) (record s { firings = left }) (fires s left h)

  due_keeps : (o : Option KeyValue) (next : KeyValue → Act World (Unit {0})) → ((k : KeyValue) → Keeps P Q (next k)) → Keeps P Q (due_by o next)
  due_keeps None next f s h = h
  due_keeps (Some k) next f s h = f k s h

  next_keeps : (asked : Option ℕ) (next : KeyValue → Act World (Unit {0})) → ((k : KeyValue) → Keeps P Q (next k)) → Keeps P Q (next_due asked next)
  next_keeps (Some zero) next f s h = h
  next_keeps (Some (suc n)) next f s h = due_keeps (popped s.agenda).1 next f (record s { agenda = (popped s.agenda).0 }) (pops s h)
  next_keeps None next f s h = due_keeps (popped s.agenda).1 next f (record s { agenda = (popped s.agenda).0 }) (pops s h)

  unless_keeps : (next : Act World (Unit {0})) → Keeps P Q next → Keeps P Q (unless_halted next)
  unless_keeps next f s h = if_keeps P Q s.is_halted (give tt) next (λ t k. k) f s h

  ran_keeps : (n : ℕ) (asked : Option ℕ) (done : ℕ) → Keeps P Q (ran n asked done)
  ran_keeps zero asked done = next_keeps asked (λ k. stop (ended.Limit Firings)) (λ k s h. h)
  ran_keeps (suc n) asked done =
      next_keeps asked (λ k. spent n (done + 1) k >>= (λ _. unless_halted (ran n (option_map (λ m. m - 1) asked) (done + 1))))
      (λ k. keeps_then P Q (spent n (done + 1) k) (λ _. unless_halted (ran n (option_map (λ m. m - 1) asked) (done + 1))) (spent_keeps n (done + 1) k)
      (λ _. unless_keeps (ran n (option_map (λ m. m - 1) asked) (done + 1)) (ran_keeps n (option_map (λ m. m - 1) asked) (done + 1))))

  pub runs_keep : (asked : Option ℕ) → Keeps P Q (run asked)
  runs_keep asked s h = ran_keeps s.firings asked 0 (record s { is_halted = false }) (acts.halted s false h)

-- a memory with other rules
abbrev pub with_rules : Conditions → ℕ → Memory → Memory
with_rules rules last_rule m = record { network = record { rules = rules; facts = m.network.facts }; last = m.last; last_rule = last_rule }

-- what the commands on rules have to keep, for which the rest follows
pub record IsKeptByAll (P Q : World → Type 0) : Type 0 where
  pub acts : IsKept P Q
  pub ruled : (s : World) (rules : List RuleInfo) → P s → P (record s { rules = rules })
  pub moves : (s : World) (rules : Conditions) (last_rule : ℕ) → P s → After P Q (moved (with_rules rules last_rule s.memory) [] s).state (moved (with_rules rules last_rule s.memory) [] s).answer
  pub restarts : Keeps P Q started_anew
  pub clears : (s : World) → P s → P (without_all s)
  pub runs : (asked : Option ℕ) → Keeps P Q (run asked)
  pub sets : (s : World) (settings : Settings) → P s → P (with_settings settings s)

module _ (P Q : World → Type 0) (kept : IsKeptByAll P Q) where
  -- changes of the rules
  dropped_keeps : (id : ℕ) → Keeps P Q (dropped_rule id)
  dropped_keeps id s h =
      let next : Memory = without_one_rule id s.memory in
      follow_keeps P Q (moved next [] s).state (moved next [] s).written (moved next [] s).answer (λ _. forgotten id)
      (kept.moves s (without_rule id s.memory.network).rules s.memory.last_rule h) (λ v t k. kept.ruled t (filter (λ r. not (nat_eq id r.id)) t.rules) k)

  replaced_keeps : (o : Option ℕ) → Keeps P Q (replaced o)
  replaced_keeps None s h = h
  replaced_keeps (Some id) s h = dropped_keeps id s h

  added_keeps : (r : RuleInfo) (branches : List Elements) → Keeps P Q (added_rule r branches)
  added_keeps r branches s h =
      if_keeps P Q (nat_lt s.memory.last_rule greatest_index) (λ t. moved (with_next_rule branches t.memory) [] (record t { rules = t.rules ++ numbered t r ∷ [] })) (stop (ended.Limit Numbers))
      (λ t k. kept.moves (record t { rules = t.rules ++ numbered t r ∷ [] }) (with_rule (t.memory.last_rule + 1) branches t.memory.network).rules (t.memory.last_rule + 1)
      (kept.ruled t (t.rules ++ numbered t r ∷ []) k)) (λ t k. kept.acts.weaken t k) s h

  defined_keeps : (r : RuleInfo) (branches : List Elements) → Keeps P Q (defined_rule r branches)
  defined_keeps r branches s h =
      if_keeps P Q (nat_lt s.memory.last_rule greatest_index) (λ t. (replaced (option_map (λ it. it.id) (rule_named r.name t.rules)) >>= (λ _. added_rule r branches)) t) (stop (ended.Limit Numbers))
      (λ t k. keeps_then P Q (replaced (option_map (λ it. it.id) (rule_named r.name t.rules))) (λ _. added_rule r branches)
      (replaced_keeps (option_map (λ it. it.id) (rule_named r.name t.rules))) (λ _. added_keeps r branches) t k) (λ t k. kept.acts.weaken t k) s h

  without_value_keeps : (act : Act World (Unit {0})) → Keeps P Q act → Keeps P Q (without_value act)
  without_value_keeps act f = keeps_then P Q act (λ _. give None) f (λ v t k. k)

  pub rule_keeps : (r : RuleValue) → Keeps P Q (rule_defined r)
  rule_keeps r = without_value_keeps (defined_rule (info_of r) r.branches) (defined_keeps (info_of r) r.branches)

  gone_keeps : (o : Option ℕ) → Keeps P Q (undefined_if o)
  gone_keeps None s h = h
  gone_keeps (Some id) s h = dropped_keeps id s h

  pub undefined_keeps : (name : Option (List ℕ)) → Keeps P Q (undefined name)
  undefined_keeps None s h = without_value_keeps (each dropped_rule (map (λ r. r.id) s.rules)) (keeps_each P Q dropped_rule (map (λ r. r.id) s.rules) dropped_keeps) s h
  undefined_keeps (Some name) s h =
      without_value_keeps (undefined_if (option_map (λ r. r.id) (rule_named name s.rules))) (gone_keeps (option_map (λ r. r.id) (rule_named name s.rules))) s h

  run_keeps : (asked : Option ℕ) → Keeps P Q (without_value (run asked))
  run_keeps asked = without_value_keeps (run asked) (kept.runs asked)

  asked_keeps : (v : Value) → Keeps P Q (asked_by v)
  asked_keeps (value.Int n) s h = h
  asked_keeps (value.Symbol name) s h = h
  asked_keeps (value.Str text) s h = h
  asked_keeps (value.Fact ix) s h = h
  asked_keeps (value.Multi fields) s h = h

  value_keeps : (t : Term) → Keeps P Q (valued (carried t))
  value_keeps t = valued_keeps P Q kept.acts (carried t) (expression_keeps P Q kept.acts t)

  pub ran_as_keeps : (count : Option Term) → Keeps P Q (ran_as count)
  ran_as_keeps None s h = run_keeps None s h
  ran_as_keeps (Some t) s h =
      keeps_then P Q (valued (carried t)) (λ v. asked_by v >>= (λ asked. without_value (run asked))) (value_keeps t)
      (λ v. keeps_then P Q (asked_by v) (λ asked. without_value (run asked)) (asked_keeps v) run_keeps) s h

  exit_keeps : (o : Option ℕ) → Keeps P Q (exited_with o)
  exit_keeps None s h = h
  exit_keeps (Some n) s h = h

  pub exited_keeps : (status : Option Term) → Keeps P Q (exited status)
  exited_keeps None s h = h
  exited_keeps (Some t) s h = keeps_then P Q (valued (carried t)) (λ v. exited_with (status_in v)) (value_keeps t) (λ v. exit_keeps (status_in v)) s h

  pub restart_keeps : Keeps P Q restarted_world
  restart_keeps = keeps_then P Q all_gone (λ _. started_anew) (λ s h. h) (λ _. kept.restarts)

  abbrev all_dropped : Act World (Unit {0})
  all_dropped s = give tt (without_all s)

  pub clear_keeps : Keeps P Q cleared_world
  clear_keeps = keeps_then P Q all_gone (λ _. all_dropped) (λ s h. h) (λ _ s h. kept.clears s h)

-- what only the agenda has to do with
pub agenda_only : (P Q : World → Type 0) (gone come : List KeyValue) → ((s : World) (ss : List ℤ) → P s → P (record s { agenda = changed s.agenda gone come ss })) → ((s : World) → P s → Q s)
    → Keeps P Q (rescheduled gone come)
agenda_only P Q gone come f g s h =
    keeps_then P Q (scheduled gone come) (λ _. tell (activation_lines s gone come))
    (λ u m. if_keeps P Q (has_stamps u.agenda (length come)) (λ t. record { state = record t { agenda = changed t.agenda gone come (saliences t.rules come) }; written = []; answer = Ok tt }) (stop (ended.Limit Numbers))
    (λ t k. f t (saliences t.rules come) k) g u m)
    (λ v t k. k) s h

-- the facts and the templates of a world are well kept
abbrev pub WellKept : World → Type 0
WellKept s = AreWellKept s.memory s.templates

acts_well : IsKept WellKept WellKept
acts_well = record {
  weaken = λ s h. h;
  env = λ s env h. h;
  env_limit = λ s env h. h;
  turns = λ s n h. h;
  halted = λ s b h. h;
  asserts = λ shape vs s h. after_any WellKept (asserted shape vs s).state (asserted shape vs s).answer (asserted_kept shape vs s h);
  retracts = λ vs s h. after_any WellKept (retracted vs s).state (retracted vs s).answer (retracted_kept vs s h);
  modifies = modified_keeps WellKept WellKept (λ ix given old fact s h at e. after_any WellKept (replaced_if_new ix fact s).state (replaced_if_new ix fact s).answer (modified_kept ix given old fact s h at e));
}

pub no_templates : (relation : List ℕ) (slots : List SlotShape) → slots_of [] relation ≡ Some slots → IsTemplate slots
no_templates relation slots h = absurd (cc)

well_moved : (s : World) (next : Memory) → AreWellKept next s.templates → After WellKept WellKept (moved next [] s).state (moved next [] s).answer
well_moved s next h = after_any WellKept (moved next [] s).state (moved next [] s).answer (subst WellKept (sym (moved_so s next []).only) h)

pub well_kept : IsKeptByAll WellKept WellKept
well_kept = record {
  acts = acts_well;
  ruled = λ s rules h. h;
  moves = λ s rules last_rule h. well_moved s (with_rules rules last_rule s.memory) (rules_kept s.memory s.templates rules last_rule h);
  restarts = λ s h. agenda_only WellKept WellKept [] (all_keys (restarted s.memory).network) (λ t ss k. k) (λ t k. k) (without_facts s) (none_kept s.memory.network.rules 0 s.memory.last_rule s.templates (omega arith) h.templates_are);
  clears = λ s h. none_kept [] 0 s.memory.last_rule [] (omega arith) no_templates;
  runs = runs_keep WellKept WellKept acts_well (λ s n h. h) (λ s h. h);
  sets = λ s settings h. h;
}

-- so many firings are left at most
abbrev pub HasAtMost : ℕ → World → Type 0
HasAtMost n s = s.firings ≤ n

same_firings : (n : ℕ) (s t : World) → t.firings ≡ s.firings → HasAtMost n s → HasAtMost n t
same_firings n s t e h = omega arith

still_below : (n m r : ℕ) → r ≤ m → m ≤ n → r ≤ n
still_below n m r f g = omega arith

move_few : (n : ℕ) (next : Memory) (line : List ℕ) → Keeps (HasAtMost n) (HasAtMost n) (moved next line)
move_few n next line s h = after_any (HasAtMost n) (moved next line s).state (moved next line s).answer (subst (HasAtMost n) (sym (moved_so s next line).only) h)

pub firings_kept : (n : ℕ) → IsKeptByAll (HasAtMost n) (HasAtMost n)
firings_kept n = record {
  acts = record {
    weaken = λ s h. h;
    env = λ s env h. h;
    env_limit = λ s env h. h;
    turns = λ s m h. h;
    halted = λ s b h. h;
    asserts = λ shape vs s h. after_any (HasAtMost n) (asserted shape vs s).state (asserted shape vs s).answer
        (same_firings n s (asserted shape vs s).state (ap (λ (w : World). w.firings) (asserts_only shape vs s).only) h);
    retracts = λ vs s h. after_any (HasAtMost n) (retracted vs s).state (retracted vs s).answer (same_firings n s (retracted vs s).state (ap (λ (w : World). w.firings) (retracted_takes vs s).changes.only) h);
    modifies = moves_keep (HasAtMost n) (HasAtMost n) (move_few n);
  };
  ruled = λ s rules h. h;
  moves = λ s rules last_rule h. move_few n (with_rules rules last_rule s.memory) [] s h;
  restarts = λ s h. agenda_only (HasAtMost n) (HasAtMost n) [] (all_keys (restarted s.memory).network) (λ t ss k. k) (λ t k. k) (without_facts s) h;
  clears = λ s h. h;
  runs = λ asked s h. after_any (HasAtMost n) (run asked s).state (run asked s).answer (still_below n s.firings (run asked s).state.firings (never_rise asked s) h);
  sets = λ s settings h. h;
}

-- the agenda is proper
abbrev pub HasProperAgenda : World → Type 0
HasProperAgenda s = IsProper s.agenda

pub none_due : (last : ℕ) (strategy : Strategy) (failed : Bool) → IsProper (record { entries = []; last = last; strategy = strategy; failed = failed })
unfolding IsStrictlySortedBy
none_due last strategy failed = record { rising = tt; once = tt }

proper_moved : (next : Memory) (line : List ℕ) → Keeps HasProperAgenda HasProperAgenda (moved next line)
proper_moved next line s h =
    after_any HasProperAgenda (moved next line s).state (moved next line s).answer (moved_proper s next line (moved next line s).state (moved next line s).written (moved next line s).answer (moved_so s next line) h)

acts_proper : IsKept HasProperAgenda HasProperAgenda
acts_proper = record {
  weaken = λ s h. h;
  env = λ s env h. h;
  env_limit = λ s env h. h;
  turns = λ s m h. h;
  halted = λ s b h. h;
  asserts = λ shape vs s h. after_any HasProperAgenda (asserted shape vs s).state (asserted shape vs s).answer (asserts_proper shape vs s h);
  retracts = λ vs s h. after_any HasProperAgenda (retracted vs s).state (retracted vs s).answer ((retracted_takes vs s).proper h);
  modifies = moves_keep HasProperAgenda HasProperAgenda proper_moved;
}

pub agenda_kept : IsKeptByAll HasProperAgenda HasProperAgenda
agenda_kept = record {
  acts = acts_proper;
  ruled = λ s rules h. h;
  moves = λ s rules last_rule h. proper_moved (with_rules rules last_rule s.memory) [] s h;
  restarts = λ s h. agenda_only HasProperAgenda HasProperAgenda [] (all_keys (restarted s.memory).network) (λ t ss k. changed_proper t.agenda [] (all_keys (restarted s.memory).network) ss k) (λ t k. k)
      (without_facts s) (none_due s.agenda.last s.agenda.strategy s.agenda.failed);
  clears = λ s h. none_due s.agenda.last s.agenda.strategy s.agenda.failed;
  runs = runs_keep HasProperAgenda HasProperAgenda acts_proper (λ s n h. h) (λ s h. popped_proper s.agenda h);
  sets = λ s settings h. record { rising = h.rising; once = h.once };
}
