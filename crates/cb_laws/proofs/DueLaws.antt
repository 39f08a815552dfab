-- What is due is a match that is there.
use Rattle.std.proofs.Common.{◌≡◌, ◌≢◌, ◌⊎◌, inl, inr, ◌∙◌, ◌||◌, ◌+◌, ℕ, ℤ, Bool, true, false, cond, not, List, [], ◌∷◌, Option, Some, None, Result, Ok, Err, is_some, length, refl, sym, ap, subst, if◌then◌else◌}
use Rattle.std.specs.BTreeMap.{is_at}
use Rattle.std.specs.List.{Contains, list_all, list_any}
use Rattle.std.specs.Map.{keys_of, remove_entry}
use Rattle.cb_actions.specs.Actions.{carried}
use Rattle.cb_actions.specs.Acts.{Effect, each, give, give_or_fault, stop, ◌>>=◌}
use Rattle.cb_actions.specs.Changes.{activation_lines, gone_line, moved, saliences, scheduled, tell}
use Rattle.cb_actions.specs.Effects.{asserted, fact_added, fact_gone, gone_if, index_named, is_retractable, parts_of, retracted, retracted_one, taken_by}
use Rattle.cb_actions.specs.Runs.{started_anew, without_all, without_facts}
use Rattle.cb_actions.specs.Worlds.{World}
use Rattle.cb_actions.specs.declared.act.EarlyEnd.{EarlyEnd}
use Rattle.cb_actions.specs.declared.act.EarlyEnd.TheVariants as ended
use Rattle.cb_actions.specs.declared.act.Limit.TheVariants.{Firings, Numbers, Turns}
use Rattle.cb_agenda.specs.Agendas.{Activation, AgendaValue, Entries, changed, has_stamps, is_due, popped, taken_out, top_of}
use Rattle.cb_agenda.specs.Ranks.{rank_cmp}
use Rattle.cb_agenda.specs.declared.rank.Rank.{Rank}
use Rattle.cb_exprs.specs.Shapes.{Shape}
use Rattle.cb_exprs.specs.Terms.{Term}
use Rattle.cb_facts.specs.FactLists.{fact_at}
use Rattle.cb_facts.specs.Facts.{FactValue}
use Rattle.cb_facts.specs.declared.value.Value.{Value}
use Rattle.cb_facts.specs.declared.value.Value.TheVariants as value
use Rattle.cb_forms.specs.declared.fault.Fault.{Fault}
use Rattle.cb_forms.specs.declared.fault.Fault.TheVariants.{NoSuchFact, WrongType}
use Rattle.cb_knowledge_base.specs.KnowledgeBase.{Memory, restarted, without}
use Rattle.cb_laws.proofs.AgendaLaws.{Among, among, due_changed, either, has, has_come, has_less, key_same, or_second, top_among}
use Rattle.cb_laws.proofs.ExpressionLaws.{IsKept, expression_keeps}
use Rattle.cb_laws.proofs.Keeping.{After, Keeps, follow_keeps, keeps_each, keeps_then}
use Rattle.cb_laws.proofs.ModifyKeeping.{moves_keep}
use Rattle.cb_laws.proofs.MoveLaws.{Moved, added_cases, memory_is, moved_so}
use Rattle.cb_laws.proofs.WorldLaws.{IsKeptByAll, runs_keep, with_rules}
use Rattle.cb_laws.specs.Firing.{AreMatches, IsThere}
use Rattle.cb_matches.specs.Changes.{come_of, keys_come, keys_gone}
use Rattle.cb_matches.specs.Internal.KeyLaws.{key_equiv}
use Rattle.cb_matches.specs.Keys.{KeyValue, key_eq}
use Rattle.cb_matches.specs.Networks.{Network, all_keys}
use Rattle.cb_templates.specs.Building.{built}
use Rattle.std.proofs.lemmas.Map.Views.{list_any-from_Contains}

-- a match that did not go is there
come_in : (k : KeyValue) (old new : List KeyValue) → list_any (key_eq k) old ≡ false → list_any (key_eq k) new ≡ true → list_any (key_eq k) (come_of old new) ≡ true
come_in k old [] none h = absurd (cc)
come_in k old (c ∷ new) none h = by (list_any (key_eq c) old) refl (either (key_eq k c) (list_any (key_eq k) new) h) (come_in k old new none)
  where
    by : (b : Bool) → list_any (key_eq c) old ≡ b → (key_eq k c ≡ true) ⊎ (list_any (key_eq k) new ≡ true) → (list_any (key_eq k) new ≡ true → list_any (key_eq k) (come_of old new) ≡ true)
        → list_any (key_eq k) (cond (not b) (c ∷ come_of old new) (come_of old new)) ≡ true
    by true e (inl is) more =
        let there : list_any (key_eq k) old ≡ true = ap (λ (l : KeyValue). list_any (key_eq l) old) (key_same k c is) ∙ e in
        absurd (cc)
    by true e (inr is) more = more is
    by false e (inl is) more = ap (λ b. b || list_any (key_eq k) (come_of old new)) is
    by false e (inr is) more = or_second (key_eq k c) (list_any (key_eq k) (come_of old new)) (more is)

still_there : (old new : Network) (k : KeyValue) → IsThere old k → (Contains (keys_gone old new) k → ⊥) → IsThere new k
unfolding keys_gone
still_there old new k there stays = by (list_any (key_eq k) (all_keys new)) refl
  where
    by : (b : Bool) → list_any (key_eq k) (all_keys new) ≡ b → IsThere new k
    by true e = among k (all_keys new) e
    by false e = absurd (stays (among k (come_of (all_keys new) (all_keys old)) (come_in k (all_keys new) (all_keys old) e (list_any-from_Contains key_equiv k (all_keys old) there))))

-- nothing more is said at the limit of numbers
abbrev Anything : World → Type 0
Anything s = Unit {0}

matches_put : (s : World) (next : Memory) (ss : List ℤ) → AreMatches s → (k : KeyValue)
    → is_due (changed s.agenda (keys_gone s.memory.network next.network) (keys_come s.memory.network next.network) ss) k ≡ true → IsThere next.network k
matches_put s next ss h k due = by (due_changed s.agenda (keys_gone s.memory.network next.network) (keys_come s.memory.network next.network) ss k due)
  where
    by : ((is_due s.agenda k ≡ true) × (Contains (keys_gone s.memory.network next.network) k → ⊥)) ⊎ Contains (keys_come s.memory.network next.network) k → IsThere next.network k
    by (inl both) = still_there s.memory.network next.network k (h k both.0) both.1
    by (inr came) = (has_come s.memory.network next.network k came).1

-- a change of the rules or the facts
matches_after : (s : World) (next : Memory) (line : List ℕ) (t : World) (w : List ℕ) (r : Result (Unit {0}) EarlyEnd) → Moved s next line t w r → AreMatches s → After AreMatches Anything t r
matches_after s next line t w r m h = by m.ends
  where
    by : (r ≡ Ok tt) ⊎ (r ≡ Err (ended.Limit Numbers)) → After AreMatches Anything t r
    by (inl e) =
        let put = m.put e in
        let all : AreMatches t = λ k due. subst (λ (n : Memory). IsThere n.network k) (sym (memory_is s next line t w r m)) (matches_put s next put.0 h k (sym (ap (λ a. is_due a k) put.1) ∙ due)) in
        subst (λ x. After AreMatches Anything t x) (sym e) all
    by (inr e) = subst (λ x. After AreMatches Anything t x) (sym e) tt

moved_due : (next : Memory) (line : List ℕ) → Keeps AreMatches Anything (moved next line)
moved_due next line s h = matches_after s next line (moved next line s).state (moved next line s).written (moved next line s).answer (moved_so s next line) h

-- asserts and retracts
added_due : (fact : FactValue) → Keeps AreMatches Anything (fact_added fact)
added_due fact s h =
    added_cases fact s (λ e. After AreMatches Anything e.state e.answer) (λ ix e. h)
    (λ none e t w r m. follow_keeps AreMatches Anything t w r (λ _. give (Some (value.Fact (s.memory.last + 1)))) (matches_after _ _ _ t w r m h) (λ v u k. k)) (λ none e. tt)

asserted_due : (shape : Shape) (vs : List Value) → Keeps AreMatches Anything (asserted shape vs)
asserted_due shape vs s h = by (built s.templates shape.relation (parts_of shape.slots vs))
  where
    by : (r : Result FactValue Fault) → After AreMatches Anything ((give_or_fault r >>= fact_added) s).state ((give_or_fault r >>= fact_added) s).answer
    by (Err f) = h
    by (Ok fact) = added_due fact s h

gone_due : (i : ℕ) → Keeps AreMatches Anything (fact_gone i)
gone_due i s h = by (fact_at s.memory.network.facts i)
  where
    by : (o : Option FactValue) → After AreMatches Anything (gone_if i o s).state (gone_if i o s).answer
    by None = h
    by (Some f) = moved_due (without i s.memory) (gone_line s i (Some f)) s h

taken_due : (o : Option ℕ) → Keeps AreMatches Anything (taken_by o)
taken_due None s h = h
taken_due (Some i) s h = by (is_some (fact_at s.memory.network.facts i))
  where
    by : (t : Bool) → After AreMatches Anything (if t then fact_gone i s else stop (ended.Fault NoSuchFact) s).state (if t then fact_gone i s else stop (ended.Fault NoSuchFact) s).answer
    by true = gone_due i s h
    by false = h

one_due : (v : Value) → Keeps AreMatches Anything (retracted_one v)
one_due (value.Fact i) s h = gone_due i s h
one_due (value.Int n) s h = taken_due (index_named n) s h
one_due (value.Symbol name) s h = keeps_each AreMatches Anything fact_gone (keys_of s.memory.network.facts) gone_due s h
one_due (value.Str text) s h = keeps_each AreMatches Anything fact_gone (keys_of s.memory.network.facts) gone_due s h
one_due (value.Multi fields) s h = keeps_each AreMatches Anything fact_gone (keys_of s.memory.network.facts) gone_due s h

abbrev after_check : List Value → World → Bool → Effect World (Option Value)
after_check vs s t = if t then (each retracted_one vs >>= (λ _. give None)) s else stop (ended.Fault WrongType) s

retracted_due : (vs : List Value) → Keeps AreMatches Anything (retracted vs)
retracted_due vs s h = by (list_all is_retractable vs)
  where
    by : (t : Bool) → After AreMatches Anything (after_check vs s t).state (after_check vs s t).answer
    by true = keeps_then AreMatches Anything (each retracted_one vs) (λ _. give None) (keeps_each AreMatches Anything retracted_one vs one_due) (λ v t k. k) s h
    by false = h

acts_due : IsKept AreMatches Anything
acts_due = record {
  weaken = λ s h. tt;
  env = λ s env h. h;
  env_limit = λ s env h. h;
  turns = λ s n h. h;
  halted = λ s b h. h;
  asserts = asserted_due;
  retracts = retracted_due;
  modifies = moves_keep AreMatches Anything moved_due;
}

-- what fires
due_among : (e : Activation) (es : Entries) → Among e es → has e.1 es ≡ true
due_among e [] there = absurd there
due_among e (x ∷ xs) (inl is) = ap (λ b. b || has e.1 xs) (ap (λ (y : Activation). key_eq e.1 y.1) (sym is) ∙ key_equiv.refl e.1)
due_among e (x ∷ xs) (inr there) = or_second (key_eq e.1 x.1) (has e.1 xs) (due_among e xs there)

fires_by : (a : AgendaValue) (k : KeyValue) (o : Option Activation) → top_of a.strategy a.entries ≡ o → (taken_out a o).1 ≡ Some k → is_due a k ≡ true
fires_by a k None e h = absurd (cc)
fires_by a k (Some e) d h =
    let same : e.1 ≡ k = cc in
    subst (λ l. is_due a l ≡ true) same (due_among e a.entries (top_among a.strategy a.entries e d))

fires_due : (a : AgendaValue) (k : KeyValue) → (popped a).1 ≡ Some k → is_due a k ≡ true
unfolding popped
fires_due a k h = fires_by a k (top_of a.strategy a.entries) refl h

pub fires_match : (s : World) (k : KeyValue) → AreMatches s → (popped s.agenda).1 ≡ Some k → IsThere s.memory.network k
fires_match s k h fires = h k (fires_due s.agenda k fires)

was_in : (k : KeyValue) (q : Rank → Bool) (es : Entries) → has k (remove_entry q es) ≡ true → has k es ≡ true
was_in k q es h = by (has k es) refl
  where
    by : (b : Bool) → has k es ≡ b → has k es ≡ true
    by true e = e
    by false e =
        let none : has k (remove_entry q es) ≡ false = has_less k q es e in
        absurd (cc)

taken_was : (a : AgendaValue) (k : KeyValue) (o : Option Activation) → is_due (taken_out a o).0 k ≡ true → is_due a k ≡ true
taken_was a k None h = h
taken_was a k (Some e) h = was_in k (is_at (rank_cmp e.0)) a.entries h

popped_was : (a : AgendaValue) (k : KeyValue) → is_due (popped a).0 k ≡ true → is_due a k ≡ true
unfolding popped
popped_was a k h = taken_was a k (top_of a.strategy a.entries) h

pub taken_matches : (s : World) → AreMatches s → AreMatches (record s { agenda = (popped s.agenda).0 })
taken_matches s h = λ k due. h k (popped_was s.agenda k due)

-- a restart
abbrev anew : World → List KeyValue
anew s = all_keys (restarted s.memory).network

abbrev anew_by : World → Bool → Effect World (Unit {0})
anew_by s b = if b then record { state = record (without_facts s) { agenda = changed (without_facts s).agenda [] (anew s) (saliences s.rules (anew s)) }; written = []; answer = Ok tt } else stop (ended.Limit Numbers) (without_facts s)

restart_due : Keeps AreMatches Anything started_anew
restart_due s h =
    follow_keeps AreMatches Anything (scheduled [] (anew s) (without_facts s)).state (scheduled [] (anew s) (without_facts s)).written (scheduled [] (anew s) (without_facts s)).answer
    (λ _. tell (activation_lines (without_facts s) [] (anew s))) (by (has_stamps (without_facts s).agenda (length (anew s)))) (λ v t k. k)
  where
    came : (k : KeyValue) → ((is_due (without_facts s).agenda k ≡ true) × (Contains [] k → ⊥)) ⊎ Contains (anew s) k → IsThere (restarted s.memory).network k
    came k (inl both) = let none = both.0 in absurd (cc)
    came k (inr c) = c

    by : (b : Bool) → After AreMatches Anything (anew_by s b).state (anew_by s b).answer
    by true = λ k due. came k (due_changed (without_facts s).agenda [] (anew s) (saliences s.rules (anew s)) k due)
    by false = tt

none_are : (s : World) → s.agenda.entries ≡ [] → AreMatches s
none_are s e = λ k due.
    let none : is_due s.agenda k ≡ false = ap (λ es. has k es) e in
    absurd (cc)

pub due_kept : IsKeptByAll AreMatches Anything
due_kept = record {
  acts = acts_due;
  ruled = λ s rules h. h;
  moves = λ s rules last_rule h. moved_due (with_rules rules last_rule s.memory) [] s h;
  restarts = restart_due;
  clears = λ s h. none_are (without_all s) refl;
  runs = runs_keep AreMatches Anything acts_due (λ s n h. h) taken_matches;
  sets = λ s settings h. h;
}

-- unless an act ends at the limit of numbers
holds_after : {A : Type 0} (s : World) (r : Result A EarlyEnd) → After AreMatches Anything s r → r ≢ Err (ended.Limit Numbers) → AreMatches s
holds_after s (Ok a) h n = h
holds_after s (Err (ended.Fault f)) h n = h
holds_after s (Err (ended.FaultIn f id)) h n = h
holds_after s (Err (ended.Limit Numbers)) h n = absurd (n refl)
holds_after s (Err (ended.Limit Firings)) h n = h
holds_after s (Err (ended.Limit Turns)) h n = h
holds_after s (Err (ended.Exit code)) h n = h

pub moved_matches : (next : Memory) (line : List ℕ) (s : World) → AreMatches s → (moved next line s).answer ≢ Err (ended.Limit Numbers) → AreMatches (moved next line s).state
moved_matches next line s h n = holds_after (moved next line s).state (moved next line s).answer (moved_due next line s h) n

pub expression_matches : (t : Term) (s : World) → AreMatches s → (carried t s).answer ≢ Err (ended.Limit Numbers) → AreMatches (carried t s).state
expression_matches t s h n = holds_after (carried t s).state (carried t s).answer (expression_keeps AreMatches Anything acts_due t s h) n
