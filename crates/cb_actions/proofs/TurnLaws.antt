-- Turns: they never rise, and the number of tests that a loop is defined by does not matter.
use Rattle.std.proofs.Common.{◌≡◌, ◌<◌, ◌≤◌, ℕ, zero, suc, Bool, true, false, List, [], ◌∷◌, ◌++◌, if◌then◌else◌, length, nat_lt, is_some, ◌+◌, ◌-◌, option_map, Option, Some, None, Result, Ok, Err, refl, ap, arith}
use Rattle.std.specs.List.{list_all}
use Rattle.std.specs.Option.{ok_or}
use Rattle.cb_actions.specs.Acts.{Act, Effect, after_writing, become, each, follow, give, stop, give_or_fault, ◌>>=◌}
use Rattle.cb_actions.specs.Actions.{carried, carried_all, carried_values, round, rounds}
use Rattle.cb_actions.proofs.FallLaws.{falls_then}
use Rattle.cb_actions.specs.Definitions.{all_asserted, all_evaluated, globals_after, globals_defined, one_evaluated, template_defined}
use Rattle.cb_actions.specs.Effects.{found, wanted, valued, truth_of, ends, called, fact_added, fact_gone, gone_if, added_beside, added_next, asserted, changed_to, fact_back, fact_replaced, fact_said, index_said, modified, modified_at, replaced_beside, replaced_if_new, shared_out, retracted, retracted_one, index_named, taken_by, joined, bound, global_bound, effected, chosen, turn, turn_of}
use Rattle.cb_actions.specs.Internal.{Falls, turns_left}
use Rattle.cb_eval.specs.Applied.{applied}
use Rattle.cb_eval.specs.Constants.{false_symbol}
use Rattle.cb_eval.specs.Logic.{is_true}
use Rattle.cb_knowledge_base.specs.KnowledgeBase.{Memory, greatest_index, grown, index_of, put_back, restarted, with_next_rule, without, without_one_rule}
use Rattle.cb_rules.specs.RuleTables.{rule_named, rule_numbered}
use Rattle.cb_actions.specs.Runs.{acted, actions_of, added_rule, all_gone, cleared_world, defined_rule, dropped_rule, due_by, fire_line, fired, forgotten, in_scope, next_due, numbered, ran, replaced, restarted_world, run, spent, started_anew, unless_halted, with_variables_of, without_all, without_facts}
use Rattle.cb_actions.specs.declared.act.Limit.TheVariants.{Firings}
use Rattle.cb_rules.specs.Elements.{Elements}
use Rattle.cb_matches.specs.Networks.{all_keys, bindings_of}
use Rattle.cb_actions.specs.Worlds.{World}
use Rattle.cb_rules.specs.RuleInfos.{RuleInfo}
use Rattle.cb_actions.specs.declared.act.EarlyEnd.{EarlyEnd}
use Rattle.cb_actions.specs.declared.act.EarlyEnd.TheVariants as ended
use Rattle.cb_eval.specs.Evaluation.{value_of}
use Rattle.cb_exprs.specs.Bindings.{Bindings, value_at}
use Rattle.cb_exprs.specs.FactTerms.{FactTerm}
use Rattle.cb_exprs.specs.GlobalTerms.{GlobalTerm}
use Rattle.cb_exprs.specs.Shapes.{SlotCounts}
use Rattle.cb_exprs.specs.Terms.{Term, constant, variable, global, call, effect, choose, repeat, actions, Terms, no_terms, term}
use Rattle.cb_facts.specs.declared.value.Value.{Value}
use Rattle.cb_forms.specs.declared.fault.Fault.{Fault}
use Rattle.cb_forms.specs.declared.fault.Fault.TheVariants.{NoSuchFact, UnboundVariable, UnknownGlobal}
use Rattle.cb_templates.specs.Building.{Given, built, changed}
use Rattle.cb_templates.specs.Slots.{SlotShape}
use Rattle.cb_words.specs.declared.words.Function.{Function}
use Rattle.cb_words.specs.declared.words.Function.TheVariants as function
use Rattle.cb_exprs.specs.declared.effect.Effect.{Effect as Kind}
use Rattle.cb_exprs.specs.declared.effect.Effect.TheVariants as kind
use Rattle.cb_actions.specs.Changes.{activation_lines, moved, rescheduled, scheduled, tell, told, come_line, gone_line}
use Rattle.cb_agenda.specs.Agendas.{has_stamps, popped}
use Rattle.cb_facts.specs.Facts.{FactValue}
use Rattle.cb_facts.specs.declared.value.Value.TheVariants as value
use Rattle.cb_matches.specs.Changes.{keys_come, keys_gone}
use Rattle.cb_matches.specs.Keys.{KeyValue}
use Rattle.cb_facts.specs.FactLists.{fact_at}
use Rattle.std.specs.Map.{keys_of}
use Rattle.cb_actions.specs.Effects.{is_retractable, parts_of}

if_falls : {A : Type 0} (b : Bool) (p q : Effect World A) (s : World) → p.state.turns ≤ s.turns → q.state.turns ≤ s.turns → (if b then p else q).state.turns ≤ s.turns
if_falls true p q s f g = f
if_falls false p q s f g = g

chosen_falls : {A : Type 0} (b : Bool) (p q : Act World A) → Falls turns_left p → Falls turns_left q → Falls turns_left (chosen b p q)
chosen_falls true p q f g s = f s
chosen_falls false p q f g s = g s

turn_of_falls : (n : ℕ) (s : World) → n ≤ s.turns → (turn_of n s).state.turns ≤ s.turns
turn_of_falls zero s h = omega arith
turn_of_falls (suc n) s h = omega arith

round_falls : (test : Act World Bool) (action next : Act World (Option Value)) → Falls turns_left test → Falls turns_left action → Falls turns_left next → Falls turns_left (round test action next)
round_falls test action next f g h =
    falls_then turns_left test (λ b. chosen b (turn >>= (λ _. action >>= (λ _. next))) (give (Some false_symbol))) f
    (λ b. chosen_falls b _ _ (falls_then turns_left turn (λ _. action >>= (λ _. next)) (λ s. turn_of_falls s.turns s (omega arith)) (λ _. falls_then turns_left action (λ _. next) g (λ _. h))) (λ s. omega arith))

rounds_fall : (n : ℕ) (test : Act World Bool) (action : Act World (Option Value)) → Falls turns_left test → Falls turns_left action → Falls turns_left (rounds n test action)
rounds_fall zero test action f g s = omega arith
rounds_fall (suc n) test action f g s = round_falls test action (rounds n test action) f g (rounds_fall n test action f g) s

wanted_falls : (v : Option Value) → Falls turns_left (wanted v)
wanted_falls None s = omega arith
wanted_falls (Some v) s = omega arith

valued_falls : (act : Act World (Option Value)) → Falls turns_left act → Falls turns_left (valued act)
valued_falls act f = falls_then turns_left act wanted f wanted_falls

pub tested_falls : (act : Act World (Option Value)) → Falls turns_left act → Falls turns_left (truth_of act)
tested_falls act f = falls_then turns_left (valued act) (λ v. give (is_true v)) (valued_falls act f) (λ v s. omega arith)

found_falls : (f : Fault) (o : Option Value) → Falls turns_left (found f o)
found_falls f None s = omega arith
found_falls f (Some v) s = omega arith

read_falls : {A : Type 0} (r : Result A Fault) → Falls turns_left (give_or_fault r)
read_falls (Ok a) s = omega arith
read_falls (Err f) s = omega arith

called_falls : (f : Function) (vs : List Value) → Falls turns_left (called f vs)
called_falls f vs = falls_then turns_left (give_or_fault (applied f vs)) (λ v. give (Some v)) (read_falls (applied f vs)) (λ v s. omega arith)

scheduled_falls : (gone come : List KeyValue) → Falls turns_left (scheduled gone come)
scheduled_falls gone come s = if_falls (has_stamps s.agenda (length come)) _ _ s (omega arith) (omega arith)

rescheduled_falls : (gone come : List KeyValue) → Falls turns_left (rescheduled gone come)
rescheduled_falls gone come s = falls_then turns_left (scheduled gone come) (λ _. tell (activation_lines s gone come)) (scheduled_falls gone come) (λ _ u. omega arith) s

moved_falls : (next : Memory) (line : List ℕ) → Falls turns_left (moved next line)
moved_falls next line s =
    let h : (told line (keys_gone s.memory.network next.network) (keys_come s.memory.network next.network) (record s { memory = next })).state.turns ≤ s.turns
    = falls_then turns_left (tell line) (λ _. rescheduled (keys_gone s.memory.network next.network) (keys_come s.memory.network next.network)) (λ u. omega arith)
    (λ _. rescheduled_falls (keys_gone s.memory.network next.network) (keys_come s.memory.network next.network)) (record s { memory = next }) in
    unfold moved in h

next_falls : (fact : FactValue) → Falls turns_left (added_next fact)
next_falls fact s = moved_falls (grown fact s.memory) (come_line s (s.memory.last + 1) fact) s

beside_falls : (fact : FactValue) (o : Option ℕ) → Falls turns_left (added_beside fact o)
beside_falls fact (Some ix) s = omega arith
beside_falls fact None s =
    if_falls (nat_lt s.memory.last greatest_index) _ _ s (falls_then turns_left (added_next fact) (λ _. give (Some (value.Fact (s.memory.last + 1)))) (next_falls fact) (λ _ u. omega arith) s) (omega arith)

added_falls : (fact : FactValue) → Falls turns_left (fact_added fact)
added_falls fact s = beside_falls fact (index_of s.memory.network.facts fact) s

pub each_falls : {X : Type 0} (act : X → Act World (Unit {0})) (xs : List X) → ((x : X) → Falls turns_left (act x)) → Falls turns_left (each act xs)
each_falls act [] h s = omega arith
each_falls act (x ∷ xs) h s = falls_then turns_left (act x) (λ _. each act xs) (h x) (λ _. each_falls act xs h) s

gone_if_falls : (ix : ℕ) (o : Option FactValue) → Falls turns_left (gone_if ix o)
gone_if_falls ix None s = omega arith
gone_if_falls ix (Some f) s = moved_falls (without ix s.memory) (gone_line s ix (Some f)) s

gone_falls : (ix : ℕ) → Falls turns_left (fact_gone ix)
gone_falls ix s = gone_if_falls ix (fact_at s.memory.network.facts ix) s

taken_falls : (o : Option ℕ) → Falls turns_left (taken_by o)
taken_falls None s = omega arith
taken_falls (Some ix) s = if_falls (is_some (fact_at s.memory.network.facts ix)) _ _ s (gone_falls ix s) (omega arith)

one_retracted_falls : (v : Value) → Falls turns_left (retracted_one v)
one_retracted_falls (value.Fact ix) s = gone_falls ix s
one_retracted_falls (value.Int n) s = taken_falls (index_named n) s
one_retracted_falls (value.Symbol x) s = each_falls fact_gone (keys_of s.memory.network.facts) gone_falls s
one_retracted_falls (value.Str x) s = each_falls fact_gone (keys_of s.memory.network.facts) gone_falls s
one_retracted_falls (value.Multi x) s = each_falls fact_gone (keys_of s.memory.network.facts) gone_falls s

retracted_falls : (vs : List Value) → Falls turns_left (retracted vs)
retracted_falls vs s = if_falls (list_all is_retractable vs) _ _ s (falls_then turns_left (each retracted_one vs) (λ _. give None) (each_falls retracted_one vs one_retracted_falls) (λ _ u. omega arith) s) (omega arith)

back_falls : (ix : ℕ) (fact : FactValue) → Falls turns_left (fact_back ix fact)
back_falls ix fact s = moved_falls (put_back ix fact s.memory) (come_line s ix fact) s

replaced_falls_too : (ix : ℕ) (fact : FactValue) → Falls turns_left (fact_replaced ix fact)
replaced_falls_too ix fact =
    falls_then turns_left (fact_gone ix) (λ _. fact_back ix fact >>= (λ _. give (Some (value.Fact ix)))) (gone_falls ix)
    (λ _. falls_then turns_left (fact_back ix fact) (λ _. give (Some (value.Fact ix))) (back_falls ix fact) (λ _ u. omega arith))

replaced_beside_falls : (ix : ℕ) (fact : FactValue) (o : Option ℕ) → Falls turns_left (replaced_beside ix fact o)
replaced_beside_falls ix fact (Some there) s = omega arith
replaced_beside_falls ix fact None s = replaced_falls_too ix fact s

if_new_falls : (ix : ℕ) (fact : FactValue) → Falls turns_left (replaced_if_new ix fact)
if_new_falls ix fact s = replaced_beside_falls ix fact (index_of s.memory.network.facts fact) s

changed_falls : (ix : ℕ) (given : Given) (old : FactValue) → Falls turns_left (changed_to ix given old)
changed_falls ix given old s = falls_then turns_left (give_or_fault (changed s.templates old given)) (replaced_if_new ix) (read_falls (changed s.templates old given)) (if_new_falls ix) s

said_falls : (ix : ℕ) → Falls turns_left (fact_said ix)
said_falls ix s = read_falls (ok_or (fact_at s.memory.network.facts ix) NoSuchFact) s

at_falls : (given : Given) (ix : ℕ) → Falls turns_left (modified_at given ix)
at_falls given ix = falls_then turns_left (fact_said ix) (changed_to ix given) (said_falls ix) (changed_falls ix given)

modified_falls : (slots : SlotCounts) (vs : List Value) → Falls turns_left (modified slots vs)
modified_falls slots [] s = omega arith
modified_falls slots (v ∷ vs) s = falls_then turns_left (give_or_fault (index_said v)) (modified_at (shared_out slots vs)) (read_falls (index_said v)) (at_falls (shared_out slots vs)) s

asserted_falls : (shape : _) (vs : List Value) → Falls turns_left (asserted shape vs)
asserted_falls shape vs s =
    let r = built s.templates shape.relation (parts_of shape.slots vs) in
    falls_then turns_left (give_or_fault r) fact_added (read_falls r) added_falls s

joined_falls : (vs : List Value) → Falls turns_left (joined vs)
joined_falls [] s = read_falls (applied function.Create []) s
joined_falls (v ∷ []) s = omega arith
joined_falls (v ∷ w ∷ vs) s = read_falls (applied function.Create (v ∷ w ∷ vs)) s

effected_falls : (e : Kind) (vs : List Value) → Falls turns_left (effected e vs)
effected_falls (kind.Assert shape) vs s = asserted_falls shape vs s
effected_falls kind.Retract vs s = retracted_falls vs s
effected_falls (kind.Modify slots) vs s = modified_falls slots vs s
effected_falls (kind.Bind x) vs s = falls_then turns_left (joined vs) (bound x) (joined_falls vs) (λ v u. omega arith) s
effected_falls (kind.BindGlobal x) vs s = falls_then turns_left (joined vs) (global_bound x) (joined_falls vs) (λ v u. omega arith) s
effected_falls e vs s = omega arith

mutual
  pub never_rises : (t : Term) → Falls turns_left (carried t)
  never_rises (constant v) s = omega arith
  never_rises (variable x) s = found_falls UnboundVariable (value_at x s.env.variables) s
  never_rises (global x) s = found_falls UnknownGlobal (value_at x s.env.globals) s
  never_rises (call f ts) s = falls_then turns_left (carried_values (Some f) [] ts) (called f) (values_never_rise (Some f) [] ts) (called_falls f) s
  never_rises (effect e ts) s = falls_then turns_left (carried_values None [] ts) (effected e) (values_never_rise None [] ts) (effected_falls e) s
  never_rises (choose t u w) s =
      falls_then turns_left (truth_of (carried t)) (λ b. chosen b (carried u) (carried w)) (tested_falls (carried t) (never_rises t)) (λ b. chosen_falls b _ _ (never_rises u) (never_rises w)) s
  never_rises (repeat t u) s = rounds_fall (suc s.turns) (truth_of (carried t)) (carried u) (tested_falls (carried t) (never_rises t)) (never_rises u) s
  never_rises (actions ts) s = all_never_rise (Some false_symbol) ts s

  values_never_rise : (f : Option Function) (vs : List Value) (ts : Terms) → Falls turns_left (carried_values f vs ts)
  values_never_rise f vs no_terms s = omega arith
  values_never_rise f vs (term t ts) s =
      falls_then turns_left (valued (carried t)) (λ v. chosen (ends f v) (give (vs ++ v ∷ [])) (carried_values f (vs ++ v ∷ []) ts)) (valued_falls (carried t) (never_rises t))
      (λ v. chosen_falls (ends f v) _ _ (λ u. omega arith) (values_never_rise f (vs ++ v ∷ []) ts)) s

  all_never_rise : (last : Option Value) (ts : Terms) → Falls turns_left (carried_all last ts)
  all_never_rise last no_terms s = omega arith
  all_never_rise last (term t ts) s = falls_then turns_left (carried t) (λ v. carried_all v ts) (never_rises t) (λ v. all_never_rise v ts) s

follow_same : {A B : Type 0} (s : World) (w : List ℕ) (r : Result A EarlyEnd) (f g : A → Act World B) → ((a : A) → f a s ≡ g a s) → follow s w r f ≡ follow s w r g
follow_same s w (Ok a) f g h = ap (λ it. after_writing w it) (h a)
follow_same s w (Err e) f g h = refl

chosen_same : {A : Type 0} (b : Bool) (p q x : Act World A) (s : World) → p s ≡ q s → chosen b p x s ≡ chosen b q x s
chosen_same true p q x s h = h
chosen_same false p q x s h = refl

turn_same : {A : Type 0} (n : ℕ) (p q : Act World A) (s : World) → ((k : ℕ) → k < n → p (record s { turns = k }) ≡ q (record s { turns = k }))
    → follow (turn_of n s).state (turn_of n s).written (turn_of n s).answer (λ _. p) ≡ follow (turn_of n s).state (turn_of n s).written (turn_of n s).answer (λ _. q)
turn_same zero p q s h = refl
turn_same (suc n) p q s h = ap (λ it. after_writing [] it) (h n (omega arith))

-- what follows a round is met with fewer turns left
round_same : (test : Act World Bool) (action p q : Act World (Option Value)) (s : World) → Falls turns_left test → Falls turns_left action → ((u : World) → u.turns < s.turns → p u ≡ q u) → round test action p s ≡ round test action q s
round_same test action p q s f g h =
    follow_same (test s).state (test s).written (test s).answer _ _ (λ b. chosen_same b (turn >>= (λ _. action >>= (λ _. p))) (turn >>= (λ _. action >>= (λ _. q))) (give (Some false_symbol)) (test s).state
    (turn_same (test s).state.turns (action >>= (λ _. p)) (action >>= (λ _. q)) (test s).state (λ k lt.
    let here = record (test s).state { turns = k } in
    let low = f s in
    let lower = g here in
    follow_same (action here).state (action here).written (action here).answer _ _ (λ _. h (action here).state (omega arith)))))

enough : (n m : ℕ) (test : Act World Bool) (action : Act World (Option Value)) (s : World) → Falls turns_left test → Falls turns_left action → s.turns < n → s.turns < m → rounds n test action s ≡ rounds m test action s
enough zero m test action s f g h k = absurd (omega arith)
enough (suc n) zero test action s f g h k = absurd (omega arith)
enough (suc n) (suc m) test action s f g h k = round_same test action (rounds n test action) (rounds m test action) s f g (λ u lt. enough n m test action u f g (omega arith) (omega arith))

-- a loop is a round and the loop again
pub again : (t u : Term) (s : World) → carried (repeat t u) s ≡ round (truth_of (carried t)) (carried u) (carried (repeat t u)) s
again t u s =
    let f = tested_falls (carried t) (never_rises t) in
    let g = never_rises u in
    round_same (truth_of (carried t)) (carried u) (rounds s.turns (truth_of (carried t)) (carried u)) (carried (repeat t u)) s f g
    (λ v lt. enough s.turns (suc v.turns) (truth_of (carried t)) (carried u) v f g lt (omega arith))

-- what is put in place where it has no fault
put_falls : {A : Type 0} (put : A → World) (s : World) → ((a : A) → (put a).turns ≤ s.turns) → (r : Result A Fault) → ((give_or_fault r >>= (λ a. become (put a))) s).state.turns ≤ s.turns
put_falls put s h (Ok a) = h a
put_falls put s h (Err f) = omega arith

-- what is defined, and what a reset does again
pub template_falls : (template : List ℕ × List SlotShape) → Falls turns_left (template_defined template)
template_falls template s = omega arith

pub globals_fall : (gs : List GlobalTerm) → Falls turns_left (globals_defined gs)
globals_fall gs s = put_falls (λ env. record s { env = env }) s (λ env. omega arith) (globals_after s.env gs)

one_falls : (g : GlobalTerm) → Falls turns_left (one_evaluated g)
one_falls g s = falls_then turns_left (give_or_fault (value_of g.1 s.env)) (global_bound g.0) (read_falls (value_of g.1 s.env)) (λ v u. omega arith) s

pub anew_falls : (gs : List GlobalTerm) → Falls turns_left (all_evaluated gs)
anew_falls [] s = omega arith
anew_falls (g ∷ gs) s = falls_then turns_left (one_evaluated g) (λ _. all_evaluated gs) (one_falls g) (λ _. anew_falls gs) s

pub facts_fall : (fs : List FactTerm) → Falls turns_left (all_asserted fs)
facts_fall [] s = omega arith
facts_fall (f ∷ fs) s = falls_then turns_left (carried (effect (kind.Assert f.shape) f.values)) (λ _. all_asserted fs) (never_rises (effect (kind.Assert f.shape) f.values)) (λ _. facts_fall fs) s

-- firings and runs
in_scope_falls : {A : Type 0} (env : Bindings) (act : Act World A) → Falls turns_left act → Falls turns_left (in_scope env act)
in_scope_falls env act f s = f (with_variables_of env s)

acted_falls : (k : KeyValue) → Falls turns_left (acted k)
acted_falls k s =
    in_scope_falls (bindings_of s.memory.network k) (carried_all (Some false_symbol) (actions_of (rule_numbered k.rule s.rules))) (all_never_rise (Some false_symbol) (actions_of (rule_numbered k.rule s.rules))) s

fired_falls : (n : ℕ) (k : KeyValue) → Falls turns_left (fired n k)
fired_falls n k s = falls_then turns_left (tell (fire_line n k s)) (λ _. acted k) (λ u. omega arith) (λ _. acted_falls k) s

spent_falls : (left n : ℕ) (k : KeyValue) → Falls turns_left (spent left n k)
spent_falls left n k s = fired_falls n k (record s { firings = left })

due_by_falls : (o : Option KeyValue) (next : KeyValue → Act World (Unit {0})) → ((k : KeyValue) → Falls turns_left (next k)) → Falls turns_left (due_by o next)
due_by_falls None next h s = omega arith
due_by_falls (Some k) next h s = h k s

next_due_falls : (asked : Option ℕ) (next : KeyValue → Act World (Unit {0})) → ((k : KeyValue) → Falls turns_left (next k)) → Falls turns_left (next_due asked next)
next_due_falls (Some zero) next h s = omega arith
next_due_falls (Some (suc n)) next h s = due_by_falls (popped s.agenda).1 next h (record s { agenda = (popped s.agenda).0 })
next_due_falls None next h s = due_by_falls (popped s.agenda).1 next h (record s { agenda = (popped s.agenda).0 })

unless_falls : (next : Act World (Unit {0})) → Falls turns_left next → Falls turns_left (unless_halted next)
unless_falls next h s = if_falls s.is_halted _ _ s (omega arith) (h s)

ran_falls : (n : ℕ) (asked : Option ℕ) (done : ℕ) → Falls turns_left (ran n asked done)
ran_falls zero asked done s = next_due_falls asked (λ k. stop (ended.Limit Firings)) (λ k u. omega arith) s
ran_falls (suc n) asked done s =
    next_due_falls asked (λ k. spent n (done + 1) k >>= (λ _. unless_halted (ran n (option_map (λ m. m - 1) asked) (done + 1))))
    (λ k. falls_then turns_left (spent n (done + 1) k) (λ _. unless_halted (ran n (option_map (λ m. m - 1) asked) (done + 1))) (spent_falls n (done + 1) k)
    (λ _. unless_falls (ran n (option_map (λ m. m - 1) asked) (done + 1)) (ran_falls n (option_map (λ m. m - 1) asked) (done + 1)))) s

pub run_falls : (asked : Option ℕ) → Falls turns_left (run asked)
run_falls asked s = ran_falls s.firings asked 0 (record s { is_halted = false })

-- rules that are added, redefined and dropped
dropped_falls : (id : ℕ) → Falls turns_left (dropped_rule id)
dropped_falls id s = falls_then turns_left (moved (without_one_rule id s.memory) []) (λ _. forgotten id) (moved_falls (without_one_rule id s.memory) []) (λ _ u. omega arith) s

replaced_falls : (o : Option ℕ) → Falls turns_left (replaced o)
replaced_falls None s = omega arith
replaced_falls (Some id) s = dropped_falls id s

added_rule_falls : (r : RuleInfo) (branches : List Elements) → Falls turns_left (added_rule r branches)
added_rule_falls r branches s =
    if_falls (nat_lt s.memory.last_rule greatest_index) _ _ s (moved_falls (with_next_rule branches s.memory) [] (record s { rules = s.rules ++ numbered s r ∷ [] })) (omega arith)

pub rule_falls : (r : RuleInfo) (branches : List Elements) → Falls turns_left (defined_rule r branches)
rule_falls r branches s =
    if_falls (nat_lt s.memory.last_rule greatest_index) _ _ s
    (falls_then turns_left (replaced (option_map (λ it. it.id) (rule_named r.name s.rules))) (λ _. added_rule r branches) (replaced_falls (option_map (λ it. it.id) (rule_named r.name s.rules))) (λ _. added_rule_falls r branches) s)
    (omega arith)

-- everything dropped
gone_lines_fall : Falls turns_left all_gone
gone_lines_fall s = omega arith

anew_falls_too : Falls turns_left started_anew
anew_falls_too s = rescheduled_falls [] (all_keys (restarted s.memory).network) (without_facts s)

pub restart_falls : Falls turns_left restarted_world
restart_falls s = falls_then turns_left all_gone (λ _. started_anew) gone_lines_fall (λ _. anew_falls_too) s

pub clear_falls : Falls turns_left cleared_world
clear_falls s =
    let next : Unit {0} → Act World (Unit {0}) = λ _ u. give tt (without_all u) in
    falls_then turns_left all_gone next gone_lines_fall (λ _ u. omega arith) s
