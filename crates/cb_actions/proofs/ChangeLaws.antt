-- What a change of the rules or the facts does.
use Rattle.std.proofs.Common.{◌≡◌, ◌<◌, ◌≤◌, ◌++◌, ◌∷◌, IsSome, is_some, option_map, rules, subst, Bool, ℕ, ◌+◌, List, [], Option, Some, None, false, true, nat_lt, ap, refl, sym, ◌∙◌}
use Rattle.cb_actions.specs.Acts.{Effect, after_writing, each, follow, give, stop, ◌>>=◌}
use Rattle.cb_actions.specs.Changes.{come_line, gone_line, moved, rescheduled, saliences, told}
use Rattle.cb_actions.specs.Effects.{added_beside, added_next, fact_added, fact_gone, fact_taken, gone_if, is_retractable, retracted, retracted_one}
use Rattle.cb_actions.specs.Internal.{IsForgotten, IsMemorized, IsMoved, Reschedules, Schedules, left_by, left_to_do, lines_by, told_so}
use Rattle.cb_actions.specs.Worlds.{World}
use Rattle.cb_agenda.specs.Agendas.{AgendaValue}
use Rattle.cb_knowledge_base.specs.KnowledgeBase.{Memory, greatest_index, grown, index_of, restarted, with_next_rule, without}
use Rattle.cb_rules.specs.RuleInfos.{RuleInfo}
use Rattle.cb_actions.specs.declared.act.EarlyEnd.TheVariants as ended
use Rattle.cb_actions.specs.declared.act.Limit.TheVariants.{Numbers}
use Rattle.cb_actions.specs.declared.change.Memorized.TheVariants as memorized
use Rattle.cb_actions.specs.declared.rescheduled.Rescheduled.{Rescheduled}
use Rattle.std.proofs.lemmas.Bool.{false≢true}
use Rattle.std.specs.List.{list_all}
use Rattle.cb_rules.specs.Elements.{Elements}
use Rattle.cb_facts.specs.FactLists.{fact_at}
use Rattle.cb_facts.specs.Facts.{FactValue}
use Rattle.cb_facts.specs.declared.value.Value.{Value}
use Rattle.cb_forms.specs.declared.fault.Fault.TheVariants.{NoSuchFact, WrongType}
use Rattle.cb_facts.specs.declared.value.Value.TheVariants as value
use Rattle.cb_matches.specs.Changes.{IsDelta, keys_come, keys_gone}
use Rattle.cb_matches.specs.declared.delta.Delta.{Delta}
use Rattle.cb_matches.specs.Keys.{KeyValue}
use Rattle.cb_matches.specs.Networks.{all_keys}
use Rattle.cb_actions.specs.Runs.{added_rule, defined_rule, numbered, replaced, started_anew, without_facts}
use Rattle.cb_rules.specs.RuleTables.{rule_named}

moved_as : (s : World) (next : Memory) (line : List ℕ)
    → told line (keys_gone s.memory.network next.network) (keys_come s.memory.network next.network) (record s { memory = next }) ≡ moved next line s
moved_as s next line = unfold moved in refl

-- a change, by the answer of the matcher
moved_is : (s t : World) (next : Memory) (line : List ℕ) (delta : Delta) → IsDelta s.memory.network next.network delta → t ≡ record s { memory = next }
    → moved next line s ≡ told line delta.gone.items delta.come.items t
moved_is s t next line delta d e = sym (rw (d.gone, d.come, e) (moved_as s next line))

-- a fact that is there, one where an index is left, and one where none is
fact_there : (fact : FactValue) (s : World) (ix : ℕ) → index_of s.memory.network.facts fact ≡ Some ix → fact_added fact s ≡ give (Some (value.Fact ix)) s
fact_there fact s ix e = ap (λ o. added_beside fact o s) e

with_room : (fact : FactValue) (s : World) → index_of s.memory.network.facts fact ≡ None → nat_lt s.memory.last greatest_index ≡ true
    → fact_added fact s ≡ (added_next fact >>= (λ _. give (Some (value.Fact (s.memory.last + 1))))) s
with_room fact s n e = ap (λ o. added_beside fact o s) n ∙ rw (e) refl

without_room : (fact : FactValue) (s : World) → index_of s.memory.network.facts fact ≡ None → nat_lt s.memory.last greatest_index ≡ false → fact_added fact s ≡ stop (ended.Limit Numbers) s
without_room fact s n e = ap (λ o. added_beside fact o s) n ∙ rw (e) refl

room : (n : ℕ) → n < greatest_index → nat_lt n greatest_index ≡ true
room n h = search rules

no_room : (n : ℕ) → greatest_index ≤ n → nat_lt n greatest_index ≡ false
no_room n h = search rules

-- a fact that is there goes, and where there is none nothing is done
pub gone_some : (ix : ℕ) (s : World) (o : Option FactValue) → IsSome o → gone_if ix o s ≡ moved (without ix s.memory) (gone_line s ix o) s
gone_some ix s None h = absurd (false≢true h)
gone_some ix s (Some f) h = refl

-- What is left to do where the agenda has followed a change.
module _ (s : World) (b : AgendaValue) (gone come : List KeyValue) where
  rescheduled_by : (fits : Bool) (lines : List ℕ) → lines ≡ lines_by s.watched.activations s.rules s.agenda gone come → Schedules s.agenda b gone come (saliences s.rules come) fits
      → rescheduled gone come s ≡ left_by fits lines (record s { agenda = b })
  rescheduled_by true lines l h = rw (h.0, h.1, l) refl
  rescheduled_by false lines l h = rw (h.0, h.1) refl

  pub is_rescheduled : (done : Rescheduled) → Reschedules s.watched.activations s.rules s.agenda b gone come done → rescheduled gone come s ≡ left_to_do done (record s { agenda = b })
  is_rescheduled done h = rescheduled_by done.fits done.lines.items h.lines h.agenda

-- a change that the knowledge base and then the agenda followed, by the answers of both
pub moved_by : (s : World) (next m : Memory) (b : AgendaValue) (delta : Delta) (done : Rescheduled) → IsDelta s.memory.network next.network delta → m ≡ next
    → Reschedules s.watched.activations s.rules s.agenda b delta.gone.items delta.come.items done → IsMoved next s (record s { memory = m; agenda = b }) done
moved_by s next m b delta done d e h line =
    let t : World = record s { memory = m } in
    moved_is s t next line delta d (ap (λ (it : Memory). record s { memory = it }) e) ∙ ap (after_writing line) (is_rescheduled t b delta.gone.items delta.come.items done h)

-- the same where the world is known by its parts
module _ (v s : World) (e : v ≡ s) where
  pub moved_inside : (f : Memory → Memory) (m : Memory) (b : AgendaValue) (delta : Delta) (done : Rescheduled) → IsDelta v.memory.network (f v.memory).network delta → m ≡ f v.memory
      → Reschedules v.watched.activations v.rules v.agenda b delta.gone.items delta.come.items done → IsMoved (f s.memory) s (record v { memory = m; agenda = b }) done
  moved_inside f m b delta done d is h = subst (λ (w : World). IsMoved (f w.memory) w (record v { memory = m; agenda = b }) done) e (moved_by v (f v.memory) m b delta done d is h)

  -- of a rule that was added
  pub moved_with_rule : (r : RuleInfo) (branches : List Elements) (m : Memory) (rs : List RuleInfo) (b : AgendaValue) (delta : Delta) (done : Rescheduled) → IsDelta v.memory.network (with_next_rule branches v.memory).network delta
      → m ≡ with_next_rule branches v.memory → rs ≡ v.rules ++ numbered v r ∷ [] → Reschedules v.watched.activations rs v.agenda b delta.gone.items delta.come.items done
      → IsMoved (with_next_rule branches s.memory) (record s { rules = s.rules ++ numbered s r ∷ [] }) (record v { memory = m; rules = rs; agenda = b }) done
  moved_with_rule r branches m rs b delta done d is added h =
      let u : World = record v { memory = m; rules = rs; agenda = b } in
      let next = with_next_rule branches v.memory in
      let by_rules : IsMoved next (record v { rules = rs }) u done = moved_by (record v { rules = rs }) next m b delta done d is h in
      let at_v : IsMoved next (record v { rules = v.rules ++ numbered v r ∷ [] }) u done = subst (λ (it : List RuleInfo). IsMoved next (record v { rules = it }) u done) added by_rules in
      subst (λ (w : World). IsMoved (with_next_rule branches w.memory) (record w { rules = w.rules ++ numbered w r ∷ [] }) u done) e at_v

  -- of a fact that was given
  pub memorized_there : (fact : FactValue) (m : Memory) (ix : ℕ) → index_of v.memory.network.facts fact ≡ Some ix → m ≡ v.memory → IsMemorized fact s (record v { memory = m }) (memorized.There ix)
  memorized_there fact m ix is same =
      subst (λ (w : World). IsMemorized fact w (record v { memory = m }) (memorized.There ix)) e
      (fact_there fact v ix is ∙ ap (λ (it : Memory). give (Some (value.Fact ix)) (record v { memory = it })) (sym same))

  pub memorized_not : (fact : FactValue) (m : Memory) → index_of v.memory.network.facts fact ≡ None → greatest_index ≤ v.memory.last → m ≡ v.memory → IsMemorized fact s (record v { memory = m }) memorized.NoIndex
  memorized_not fact m is full same =
      subst (λ (w : World). IsMemorized fact w (record v { memory = m }) memorized.NoIndex) e
      (without_room fact v is (no_room v.memory.last full) ∙ ap (λ (it : Memory). stop (ended.Limit Numbers) (record v { memory = it })) (sym same))

  pub memorized_next : (fact : FactValue) (m : Memory) (ix : ℕ) (b : AgendaValue) (delta : Delta) (done : Rescheduled) → index_of v.memory.network.facts fact ≡ None → v.memory.last < greatest_index → ix ≡ v.memory.last + 1 → m ≡ grown fact v.memory
      → IsDelta v.memory.network (grown fact v.memory).network delta → Reschedules v.watched.activations v.rules v.agenda b delta.gone.items delta.come.items done
      → IsMemorized fact s (record v { memory = m; agenda = b }) (memorized.Added ix done)
  memorized_next fact m ix b delta done is left at same d h =
      let t : World = record v { memory = m; agenda = b } in
      let line = come_line v (v.memory.last + 1) fact in
      let moves = moved_by v (grown fact v.memory) m b delta done d same h line in
      subst (λ (w : World). IsMemorized fact w t (memorized.Added ix done)) e (
        left,
        with_room fact v is (room v.memory.last left)
            ∙ (ap (λ (it : Effect World (Unit {0})). follow it.state it.written it.answer (λ _. give (Some (value.Fact (v.memory.last + 1))))) moves
            ∙ ap (λ (n : ℕ). (told_so line done >>= (λ _. give (Some (value.Fact n)))) t) (sym at)),
      )

  -- and of one that was taken
  pub forgotten_not : (ix : ℕ) (m : Memory) → fact_at v.memory.network.facts ix ≡ None → m ≡ v.memory → IsForgotten ix s (record v { memory = m }) None
  forgotten_not ix m is same =
      subst (λ (w : World). IsForgotten ix w (record v { memory = m }) None) e (ap (λ o. gone_if ix o v) is ∙ ap (λ (it : Memory). give tt (record v { memory = it })) (sym same))

  pub forgotten_one : (ix : ℕ) (m : Memory) (b : AgendaValue) (delta : Delta) (done : Rescheduled) → IsSome (fact_at v.memory.network.facts ix) → m ≡ without ix v.memory → IsDelta v.memory.network (without ix v.memory).network delta
      → Reschedules v.watched.activations v.rules v.agenda b delta.gone.items delta.come.items done → IsForgotten ix s (record v { memory = m; agenda = b }) (Some done)
  forgotten_one ix m b delta done there same d h =
      subst (λ (w : World). IsForgotten ix w (record v { memory = m; agenda = b }) (Some done)) e
      (gone_some ix v (fact_at v.memory.network.facts ix) there ∙ moved_by v (without ix v.memory) m b delta done d same h (gone_line v ix (fact_at v.memory.network.facts ix)))

-- a restart, by the answer of the matcher
anew_is : (s t : World) (gone come : List KeyValue) → gone ≡ [] → come ≡ all_keys (restarted s.memory).network → t ≡ without_facts s → started_anew s ≡ rescheduled gone come t
anew_is s t gone come g c e = sym (rw (g, c, e) refl)

pub anew_inside : (v s : World) → v ≡ s → (m : Memory) (a b : AgendaValue) (gone come : List KeyValue) (done : Rescheduled) → gone ≡ [] → come ≡ all_keys (restarted v.memory).network → m ≡ restarted v.memory → a ≡ record v.agenda { entries = [] }
    → Reschedules v.watched.activations v.rules a b gone come done → started_anew s ≡ left_to_do done (record v { memory = m; agenda = b })
anew_inside v s e m a b gone come done g k is dropped h =
    let t : World = record v { memory = m; agenda = a } in
    let same : t ≡ without_facts v = rw (is, dropped) refl in
    let at_v : started_anew v ≡ left_to_do done (record v { memory = m; agenda = b }) = anew_is v t gone come g k same ∙ is_rescheduled t b gone come done h in
    subst (λ (w : World). started_anew w ≡ left_to_do done (record v { memory = m; agenda = b })) e at_v

pub taken_not : (ix : ℕ) (s : World) → is_some (fact_at s.memory.network.facts ix) ≡ false → fact_taken ix s ≡ stop (ended.Fault NoSuchFact) s
taken_not ix s e = rw (e) refl

pub taken_is : (ix : ℕ) (s : World) → is_some (fact_at s.memory.network.facts ix) ≡ true → fact_taken ix s ≡ fact_gone ix s
taken_is ix s e = rw (e) refl

pub not_retracted : (vs : List Value) (s : World) → list_all is_retractable vs ≡ false → retracted vs s ≡ stop (ended.Fault WrongType) s
not_retracted vs s e = rw (e) refl

pub are_retracted : (vs : List Value) (s : World) → list_all is_retractable vs ≡ true → retracted vs s ≡ (each retracted_one vs >>= (λ _. give None)) s
are_retracted vs s e = rw (e) refl

-- a rule where a number is left, and where none is
pub rule_refused : (r : RuleInfo) (branches : List Elements) (s : World) → nat_lt s.memory.last_rule greatest_index ≡ false → added_rule r branches s ≡ stop (ended.Limit Numbers) s
rule_refused r branches s e = rw (e) refl

pub rule_added : (r : RuleInfo) (branches : List Elements) (s : World) → nat_lt s.memory.last_rule greatest_index ≡ true
    → added_rule r branches s ≡ moved (with_next_rule branches s.memory) [] (record s { rules = s.rules ++ numbered s r ∷ [] })
rule_added r branches s e = rw (e) refl

pub definition_refused : (r : RuleInfo) (branches : List Elements) (s : World) → nat_lt s.memory.last_rule greatest_index ≡ false → defined_rule r branches s ≡ stop (ended.Limit Numbers) s
definition_refused r branches s e = rw (e) refl

pub definition_is : (r : RuleInfo) (branches : List Elements) (s : World) → nat_lt s.memory.last_rule greatest_index ≡ true
    → defined_rule r branches s ≡ (replaced (option_map (λ it. it.id) (rule_named r.name s.rules)) >>= (λ _. added_rule r branches)) s
definition_is r branches s e = rw (e) refl
