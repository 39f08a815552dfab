-- What is retracted is gone, and nothing else.
use Rattle.std.proofs.Common.{◌≡◌, ◌⊎◌, inl, inr, ◌∙◌, ◌==◌, ◌++◌, ◌||◌, ℕ, Bool, true, false, cond, List, [], ◌∷◌, Option, Some, None, Result, Ok, Err, codes, pos, negsuc, is_some, refl, sym, ap, subst, if◌then◌else◌}
use Rattle.std.proofs.lemmas.Cmp.{eq_by_cmp_equiv, nat_cmp_total}
use Rattle.std.proofs.lemmas.Map.{lookup-remove_entry}
use Rattle.std.proofs.lemmas.Map.Keys.{IsDistinct-from_sorted}
use Rattle.std.specs.BTreeMap.{is_at}
use Rattle.std.specs.Cmp.{first_so, second_so, unsigned_Decides, unsigned_tied}
use Rattle.std.specs.List.{list_all, list_any}
use Rattle.std.specs.Map.{keys_of}
use Rattle.std.specs.Ordering.{eq_by_cmp, nat_cmp}
use Rattle.cb_actions.specs.Acts.{Act, each, follow, stop}
use Rattle.cb_actions.specs.Changes.{gone_line, moved}
use Rattle.cb_actions.specs.Effects.{fact_gone, gone_if, index_named, is_retractable, retracted_one, taken_by}
use Rattle.cb_actions.specs.Worlds.{World}
use Rattle.cb_actions.specs.declared.act.EarlyEnd.{EarlyEnd}
use Rattle.cb_actions.specs.declared.act.EarlyEnd.TheVariants as ended
use Rattle.cb_actions.specs.declared.act.Limit.TheVariants.{Numbers}
use Rattle.cb_facts.specs.FactLists.{IndexedFacts, fact_at}
use Rattle.cb_facts.specs.Facts.{FactValue}
use Rattle.cb_facts.proofs.MemberLaws.{is_at-Decides}
use Rattle.cb_facts.specs.declared.value.Value.{Value}
use Rattle.cb_facts.specs.declared.value.Value.TheVariants as value
use Rattle.cb_forms.specs.declared.fault.Fault.TheVariants.{NoSuchFact}
use Rattle.cb_knowledge_base.specs.KnowledgeBase.{Memory, without}
use Rattle.cb_laws.proofs.AgendaLaws.{moved_proper}
use Rattle.cb_laws.proofs.EntryLaws.{rising_taken}
use Rattle.cb_laws.proofs.MemoryBasics.{fewer}
use Rattle.cb_laws.proofs.MoveLaws.{Moved, memory_is, moved_so, quiet_line}
use Rattle.cb_laws.specs.Firing.{IsProper}
use Rattle.cb_laws.specs.Memories.{ChangesFactsOnly, IsSound, IsUnwatched}
use Rattle.cb_laws.specs.Naming.{IsMissing, LeavesUnnamed, LeavesUpToMissing, is_named, names_fact}

-- what one index more or less has to do with the others
left_without : (m : Memory) → IsSound m → (i ix : ℕ) → fact_at (without i m).network.facts ix ≡ (if i == ix then None else fact_at m.network.facts ix)
left_without m sound i ix =
    lookup-remove_entry {eq = eq_by_cmp nat_cmp} (eq_by_cmp_equiv nat_cmp_total) (is_at (nat_cmp i)) one ix m.network.facts (IsDistinct-from_sorted nat_cmp (keys_of m.network.facts) sound.rising)
    ∙ ap (λ t. cond t None (fact_at m.network.facts ix)) (unsigned_tied i ix)
  where
    one : (x y : ℕ) → is_at (nat_cmp i) x ≡ true → is_at (nat_cmp i) y ≡ eq_by_cmp nat_cmp x y
    one x y e = ap (λ n. is_at (nat_cmp n) y) ((is_at-Decides i x).0 e)

kept : (t : Bool) (o : Option FactValue) (fact : FactValue) → (if t then None else o) ≡ Some fact → o ≡ Some fact
kept true o fact h = absurd (cc)
kept false o fact h = h

kept_without : (m : Memory) → IsSound m → (i ix : ℕ) (fact : FactValue) → fact_at (without i m).network.facts ix ≡ Some fact → fact_at m.network.facts ix ≡ Some fact
kept_without m sound i ix fact at = kept (i == ix) (fact_at m.network.facts ix) fact (sym (left_without m sound i ix) ∙ at)

without_sound : (m : Memory) → IsSound m → (i : ℕ) → IsSound (without i m)
without_sound m sound i = fewer m (without i m) sound (rising_taken nat_cmp (is_at (nat_cmp i)) m.network.facts sound.rising) refl (kept_without m sound i)

-- However facts are retracted: none comes, nothing else is changed, and it ends in order or at the limit of numbers.
pub record Takes (s t : World) (w : List ℕ) : Type 0 where
  pub kept : IsSound s.memory → (ix : ℕ) (fact : FactValue) → fact_at t.memory.network.facts ix ≡ Some fact → fact_at s.memory.network.facts ix ≡ Some fact
  pub last : t.memory.last ≡ s.memory.last
  pub sound : IsSound s.memory → IsSound t.memory
  pub changes : ChangesFactsOnly s t
  pub proper : IsProper s.agenda → IsProper t.agenda
  pub quiet : IsUnwatched s → w ≡ []

abbrev pub Ends : Result (Unit {0}) EarlyEnd → Type 0
Ends r = (r ≡ Ok tt) ⊎ (r ≡ Err (ended.Limit Numbers))

same_rest : (s : World) → ChangesFactsOnly s s
same_rest s = record { only = refl; rules = refl; last_rule = refl }

pub takes_none : (s : World) → Takes s s []
takes_none s = record { kept = λ sound ix fact at. at; last = refl; sound = λ sound. sound; changes = same_rest s; proper = λ p. p; quiet = λ h. refl }

pub still_unwatched : (s t : World) → ChangesFactsOnly s t → IsUnwatched s → IsUnwatched t
still_unwatched s t c h = (ap (λ (u : World). u.watched.facts) c.only ∙ h.0, ap (λ (u : World). u.watched.activations) c.only ∙ h.1)

pub both_change : (s t u : World) → ChangesFactsOnly s t → ChangesFactsOnly t u → ChangesFactsOnly s u
both_change s t u c d = record {
  only = d.only ∙ ap (λ (v : World). record v { memory = u.memory; agenda = u.agenda }) c.only;
  rules = d.rules ∙ c.rules;
  last_rule = d.last_rule ∙ c.last_rule;
}

pub takes_both : (s t u : World) (w v : List ℕ) → Takes s t w → Takes t u v → Takes s u (w ++ v)
takes_both s t u w v first more = record {
  kept = λ sound ix fact at. first.kept sound ix fact (more.kept (first.sound sound) ix fact at);
  last = more.last ∙ first.last;
  sound = λ sound. more.sound (first.sound sound);
  changes = both_change s t u first.changes more.changes;
  proper = λ p. more.proper (first.proper p);
  quiet = λ h. ap (λ ws. ws ++ v) (first.quiet h) ∙ more.quiet (still_unwatched s t first.changes h);
}

takes_then : (s t : World) (w : List ℕ) (r : Result (Unit {0}) EarlyEnd) (next : Act World (Unit {0})) → Takes s t w → Takes t (next t).state (next t).written
    → Takes s (follow t w r (λ _. next)).state (follow t w r (λ _. next)).written
takes_then s t w (Ok v) next first more = takes_both s t (next t).state w (next t).written first more
takes_then s t w (Err e) next first more = first

takes_each : {X : Type 0} (act : X → Act World (Unit {0})) (xs : List X) (s : World) → ((x : X) (t : World) → Takes t (act x t).state (act x t).written)
    → Takes s (each act xs s).state (each act xs s).written
takes_each act [] s one = takes_none s
takes_each act (x ∷ xs) s one = takes_then s (act x s).state (act x s).written (act x s).answer (each act xs) (one x s) (takes_each act xs (act x s).state one)

-- one fact
pub gone_takes : (i : ℕ) (s : World) → Takes s (fact_gone i s).state (fact_gone i s).written
gone_takes i s = by (fact_at s.memory.network.facts i)
  where
    takes : (f : FactValue) (t : World) (w : List ℕ) (r : Result (Unit {0}) EarlyEnd) → Moved s (without i s.memory) (gone_line s i (Some f)) t w r → Takes s t w
    takes f t w r m =
        let is : t.memory ≡ without i s.memory = memory_is _ _ _ t w r m in
        record {
          kept = λ sound ix fact at. kept_without s.memory sound i ix fact (sym (ap (λ (n : Memory). fact_at n.network.facts ix) is) ∙ at);
          last = ap (λ (n : Memory). n.last) is;
          sound = λ sound. subst IsSound (sym is) (without_sound s.memory sound i);
          changes = record {
            only = m.only ∙ ap (λ n. record s { memory = n; agenda = t.agenda }) (sym is);
            rules = ap (λ (n : Memory). n.network.rules) is;
            last_rule = ap (λ (n : Memory). n.last_rule) is;
          };
          proper = moved_proper s (without i s.memory) (gone_line s i (Some f)) t w r m;
          quiet = λ h. m.quiet (quiet_line s.watched.facts h.0 _) h.1;
        }

    by : (o : Option FactValue) → Takes s (gone_if i o s).state (gone_if i o s).written
    by None = takes_none s
    by (Some f) = takes f (moved (without i s.memory) (gone_line s i (Some f)) s).state (moved (without i s.memory) (gone_line s i (Some f)) s).written
        (moved (without i s.memory) (gone_line s i (Some f)) s).answer (moved_so s (without i s.memory) (gone_line s i (Some f)))

pub gone_ends : (i : ℕ) (s : World) → Ends (fact_gone i s).answer
gone_ends i s = by (fact_at s.memory.network.facts i)
  where
    by : (o : Option FactValue) → Ends (gone_if i o s).answer
    by None = inl refl
    by (Some f) = (moved_so s (without i s.memory) (gone_line s i (Some f))).ends

pub gone_left : (i : ℕ) (s : World) → IsSound s.memory → (ix : ℕ) → fact_at (fact_gone i s).state.memory.network.facts ix ≡ (if i == ix then None else fact_at s.memory.network.facts ix)
gone_left i s sound ix = by (fact_at s.memory.network.facts i) refl
  where
    was_none : fact_at s.memory.network.facts i ≡ None → (t : Bool) → (i == ix) ≡ t → fact_at s.memory.network.facts ix ≡ (if t then None else fact_at s.memory.network.facts ix)
    was_none e true is =
        let same : i ≡ ix = (unsigned_Decides i ix).0 is in
        ap (fact_at s.memory.network.facts) (sym same) ∙ e
    was_none e false is = refl

    by : (o : Option FactValue) → fact_at s.memory.network.facts i ≡ o → fact_at (gone_if i o s).state.memory.network.facts ix ≡ (if i == ix then None else fact_at s.memory.network.facts ix)
    by None e = was_none e (i == ix) refl
    by (Some f) e =
        let m = moved_so s (without i s.memory) (gone_line s i (Some f)) in
        ap (λ (n : Memory). fact_at n.network.facts ix) (memory_is _ _ _ _ _ _ m) ∙ left_without s.memory sound i ix

-- each act of a list, by how its first ends
module _ {X : Type 0} (act : X → Act World (Unit {0})) (P : Result (Unit {0}) EarlyEnd → Type 0) (done : P (Ok tt)) (one : (x : X) (s : World) → P (act x s).answer) where
  pub each_ends_so : (xs : List X) (s : World) → P (each act xs s).answer
  each_ends_so [] s = done
  each_ends_so (x ∷ xs) s = by (act x s).answer (one x s) (λ t. each_ends_so xs t)
    where
      by : (r : Result (Unit {0}) EarlyEnd) → P r → ((t : World) → P (each act xs t).answer) → P (follow (act x s).state (act x s).written r (λ _. each act xs)).answer
      by (Ok v) h more = more (act x s).state
      by (Err e) h more = h

-- all facts
each_ends : (ixs : List ℕ) (s : World) → Ends (each fact_gone ixs s).answer
each_ends ixs s = each_ends_so fact_gone Ends (inl refl) gone_ends ixs s

both : (s t : Bool) (o : Option FactValue) → (if t then None else (if s then None else o)) ≡ (if s || t then None else o)
both true true o = refl
both true false o = refl
both false true o = refl
both false false o = refl

each_left : (ixs : List ℕ) (s : World) → IsSound s.memory → (each fact_gone ixs s).answer ≡ Ok tt → (ix : ℕ)
    → fact_at (each fact_gone ixs s).state.memory.network.facts ix ≡ (if list_any (λ i. i == ix) ixs then None else fact_at s.memory.network.facts ix)
each_left [] s sound h ix = refl
each_left (i ∷ ixs) s sound h ix = by (fact_gone i s).answer h (λ t is e. each_left ixs t is e ix)
  where
    by : (r : Result (Unit {0}) EarlyEnd) → (follow (fact_gone i s).state (fact_gone i s).written r (λ _. each fact_gone ixs)).answer ≡ Ok tt
        → ((t : World) → IsSound t.memory → (each fact_gone ixs t).answer ≡ Ok tt → fact_at (each fact_gone ixs t).state.memory.network.facts ix ≡ (if list_any (λ j. j == ix) ixs then None else fact_at t.memory.network.facts ix))
        → fact_at (follow (fact_gone i s).state (fact_gone i s).written r (λ _. each fact_gone ixs)).state.memory.network.facts ix ≡ (if (i == ix) || list_any (λ j. j == ix) ixs then None else fact_at s.memory.network.facts ix)
    by (Ok v) is more =
        more (fact_gone i s).state ((gone_takes i s).sound sound) is ∙ ap (λ o. if list_any (λ j. j == ix) ixs then None else o) (gone_left i s sound ix)
        ∙ both (i == ix) (list_any (λ j. j == ix) ixs) (fact_at s.memory.network.facts ix)
    by (Err e) is more = absurd (cc)

all_named : (facts : IndexedFacts) (ix : ℕ) → (if list_any (λ i. i == ix) (keys_of facts) then None else fact_at facts ix) ≡ None
all_named [] ix = refl
all_named ((i, f) ∷ facts) ix = by (i == ix) refl (is_at (nat_cmp ix) i) refl (all_named facts ix)
  where
    by : (t : Bool) → (i == ix) ≡ t → (u : Bool) → is_at (nat_cmp ix) i ≡ u → (if list_any (λ j. j == ix) (keys_of facts) then None else fact_at facts ix) ≡ None
        → (if t || list_any (λ j. j == ix) (keys_of facts) then None else cond u (Some f) (fact_at facts ix)) ≡ None
    by true e u d more = refl
    by false e true d more =
        let yes : (i == ix) ≡ true = (unsigned_Decides i ix).1 (sym ((is_at-Decides ix i).0 d)) in
        absurd (cc)
    by false e false d more = more

all_left_none : (s : World) → IsSound s.memory → (each fact_gone (keys_of s.memory.network.facts) s).answer ≡ Ok tt → (ix : ℕ)
    → fact_at (each fact_gone (keys_of s.memory.network.facts) s).state.memory.network.facts ix ≡ None
all_left_none s sound h ix = each_left (keys_of s.memory.network.facts) s sound h ix ∙ all_named s.memory.network.facts ix

no_facts : (facts : IndexedFacts) → ((ix : ℕ) → fact_at facts ix ≡ None) → facts ≡ []
no_facts [] h = refl
no_facts ((i, f) ∷ facts) h =
    let here : fact_at ((i, f) ∷ facts) i ≡ Some f = ap (λ t. cond t (Some f) (fact_at facts i)) ((is_at-Decides i i).1 refl) in
    let none : fact_at ((i, f) ∷ facts) i ≡ None = h i in
    absurd (cc)

pub all_gone : (s : World) → IsSound s.memory → (retracted_one (value.Symbol (codes "*")) s).answer ≡ Ok tt → (retracted_one (value.Symbol (codes "*")) s).state.memory.network.facts ≡ []
all_gone s sound h = no_facts (retracted_one (value.Symbol (codes "*")) s).state.memory.network.facts (all_left_none s sound h)

-- one value
taken_takes : (o : Option ℕ) (s : World) → Takes s (taken_by o s).state (taken_by o s).written
taken_takes None s = takes_none s
taken_takes (Some i) s = by (is_some (fact_at s.memory.network.facts i))
  where
    by : (t : Bool) → Takes s (if t then fact_gone i s else stop (ended.Fault NoSuchFact) s).state (if t then fact_gone i s else stop (ended.Fault NoSuchFact) s).written
    by true = gone_takes i s
    by false = takes_none s

one_takes : (v : Value) (s : World) → Takes s (retracted_one v s).state (retracted_one v s).written
one_takes (value.Fact i) s = gone_takes i s
one_takes (value.Int n) s = taken_takes (index_named n) s
one_takes (value.Symbol name) s = takes_each fact_gone (keys_of s.memory.network.facts) s gone_takes
one_takes (value.Str text) s = takes_each fact_gone (keys_of s.memory.network.facts) s gone_takes
one_takes (value.Multi fields) s = takes_each fact_gone (keys_of s.memory.network.facts) s gone_takes

pub values_take : (vs : List Value) (s : World) → Takes s (each retracted_one vs s).state (each retracted_one vs s).written
values_take vs s = takes_each retracted_one vs s one_takes

-- the ways in which the retraction of values ends
abbrev pub EndsSo : Result (Unit {0}) EarlyEnd → Type 0
EndsSo r = (r ≡ Ok tt) ⊎ ((r ≡ Err (ended.Fault NoSuchFact)) ⊎ (r ≡ Err (ended.Limit Numbers)))

ends_so : (r : Result (Unit {0}) EarlyEnd) → Ends r → EndsSo r
ends_so r (inl h) = inl h
ends_so r (inr h) = inr (inr h)

taken_ends : (o : Option ℕ) (s : World) → EndsSo (taken_by o s).answer
taken_ends None s = inr (inl refl)
taken_ends (Some i) s = by (is_some (fact_at s.memory.network.facts i))
  where
    by : (t : Bool) → EndsSo (if t then fact_gone i s else stop (ended.Fault NoSuchFact) s).answer
    by true = ends_so (fact_gone i s).answer (gone_ends i s)
    by false = inr (inl refl)

one_ends : (v : Value) (s : World) → EndsSo (retracted_one v s).answer
one_ends (value.Fact i) s = ends_so (fact_gone i s).answer (gone_ends i s)
one_ends (value.Int n) s = taken_ends (index_named n) s
one_ends (value.Symbol name) s = ends_so (each fact_gone (keys_of s.memory.network.facts) s).answer (each_ends (keys_of s.memory.network.facts) s)
one_ends (value.Str text) s = ends_so (each fact_gone (keys_of s.memory.network.facts) s).answer (each_ends (keys_of s.memory.network.facts) s)
one_ends (value.Multi fields) s = ends_so (each fact_gone (keys_of s.memory.network.facts) s).answer (each_ends (keys_of s.memory.network.facts) s)

pub values_end : (vs : List Value) (s : World) → EndsSo (each retracted_one vs s).answer
values_end vs s = each_ends_so retracted_one EndsSo (inl refl) one_ends vs s

no_fault : (r : Result (Unit {0}) EarlyEnd) → Ends r → r ≡ Err (ended.Fault NoSuchFact) → ⊥
no_fault r (inl e) h = cc
no_fault r (inr e) h = cc

module _ (s : World) where
  one_left : (v : Value) → is_retractable v ≡ true → IsSound s.memory → (retracted_one v s).answer ≡ Ok tt → (ix : ℕ)
      → fact_at (retracted_one v s).state.memory.network.facts ix ≡ (if names_fact ix v then None else fact_at s.memory.network.facts ix)
  one_left (value.Fact i) may sound h ix = gone_left i s sound ix
  one_left (value.Int (pos i)) may sound h ix = by (is_some (fact_at s.memory.network.facts i)) h
    where
      by : (t : Bool) → (if t then fact_gone i s else stop (ended.Fault NoSuchFact) s).answer ≡ Ok tt
          → fact_at (if t then fact_gone i s else stop (ended.Fault NoSuchFact) s).state.memory.network.facts ix ≡ (if i == ix then None else fact_at s.memory.network.facts ix)
      by true is = gone_left i s sound ix
      by false is = absurd (cc)
  one_left (value.Int (negsuc k)) may sound h ix = absurd (cc)
  one_left (value.Symbol name) may sound h ix = all_left_none s sound h ix ∙ sym (ap (λ t. if t then None else fact_at s.memory.network.facts ix) may)
  one_left (value.Str text) may sound h ix = absurd (cc)
  one_left (value.Multi fields) may sound h ix = absurd (cc)

  one_missing : (v : Value) → is_retractable v ≡ true → (retracted_one v s).answer ≡ Err (ended.Fault NoSuchFact) → IsMissing s.memory v × ((retracted_one v s).state ≡ s)
  one_missing (value.Fact i) may h = absurd (no_fault (fact_gone i s).answer (gone_ends i s) h)
  one_missing (value.Int (pos i)) may h = by (fact_at s.memory.network.facts i) refl h
    where
      by : (o : Option FactValue) → fact_at s.memory.network.facts i ≡ o → (if is_some o then fact_gone i s else stop (ended.Fault NoSuchFact) s).answer ≡ Err (ended.Fault NoSuchFact)
          → (fact_at s.memory.network.facts i ≡ None) × ((if is_some o then fact_gone i s else stop (ended.Fault NoSuchFact) s).state ≡ s)
      by None e is = (e, refl)
      by (Some f) e is = absurd (no_fault (fact_gone i s).answer (gone_ends i s) is)
  one_missing (value.Int (negsuc k)) may h = (tt, refl)
  one_missing (value.Symbol name) may h = absurd (no_fault (each fact_gone (keys_of s.memory.network.facts) s).answer (each_ends (keys_of s.memory.network.facts) s) h)
  one_missing (value.Str text) may h = absurd (cc)
  one_missing (value.Multi fields) may h = absurd (cc)

  ends_at : (v : Value) → IsMissing s.memory v → (retracted_one v s).answer ≡ Err (ended.Fault NoSuchFact)
  ends_at (value.Fact i) h = absurd h
  ends_at (value.Int (pos i)) h = ap (λ o. (if is_some o then fact_gone i s else stop (ended.Fault NoSuchFact) s).answer) h
  ends_at (value.Int (negsuc k)) h = refl
  ends_at (value.Symbol name) h = absurd h
  ends_at (value.Str text) h = absurd h
  ends_at (value.Multi fields) h = absurd h

-- values one after another
one_then : (m n p : Memory) (v : Value) (vs : List Value) → ((ix : ℕ) → fact_at n.network.facts ix ≡ (if names_fact ix v then None else fact_at m.network.facts ix)) → n.last ≡ m.last → LeavesUnnamed n vs p
    → LeavesUnnamed m (v ∷ vs) p
one_then m n p v vs first last more = record {
  left = λ ix. more.left ix ∙ ap (λ o. if is_named vs ix then None else o) (first ix) ∙ both (names_fact ix v) (is_named vs ix) (fact_at m.network.facts ix);
  last = more.last ∙ last;
}

none_named : (m : Memory) → LeavesUnnamed m [] m
none_named m = record { left = λ ix. refl; last = refl }

pub fine : (vs : List Value) (s : World) → IsSound s.memory → list_all is_retractable vs ≡ true → (each retracted_one vs s).answer ≡ Ok tt → LeavesUnnamed s.memory vs (each retracted_one vs s).state.memory
fine [] s sound may h = none_named s.memory
fine (v ∷ vs) s sound may h = by (retracted_one v s).answer refl h (λ t. fine vs t)
  where
    by : (r : Result (Unit {0}) EarlyEnd) → (retracted_one v s).answer ≡ r → (follow (retracted_one v s).state (retracted_one v s).written r (λ _. each retracted_one vs)).answer ≡ Ok tt
        → ((t : World) → IsSound t.memory → list_all is_retractable vs ≡ true → (each retracted_one vs t).answer ≡ Ok tt → LeavesUnnamed t.memory vs (each retracted_one vs t).state.memory)
        → LeavesUnnamed s.memory (v ∷ vs) (follow (retracted_one v s).state (retracted_one v s).written r (λ _. each retracted_one vs)).state.memory
    by (Ok u) e is more =
        let first = one_takes v s in
        one_then s.memory (retracted_one v s).state.memory (each retracted_one vs (retracted_one v s).state).state.memory v vs
        (one_left s v (first_so (is_retractable v) (list_all is_retractable vs) may) sound e) first.last
        (more (retracted_one v s).state (first.sound sound) (second_so (is_retractable v) (list_all is_retractable vs) may) is)
    by (Err x) e is more = absurd (cc)

pub fault : (vs : List Value) (s : World) → IsSound s.memory → list_all is_retractable vs ≡ true → (each retracted_one vs s).answer ≡ Err (ended.Fault NoSuchFact) → LeavesUpToMissing s vs (each retracted_one vs s).state
fault [] s sound may h = absurd (cc)
fault (v ∷ vs) s sound may h = by (retracted_one v s).answer refl h (λ t. fault vs t)
  where
    may_first : is_retractable v ≡ true
    may_first = first_so (is_retractable v) (list_all is_retractable vs) may

    by : (r : Result (Unit {0}) EarlyEnd) → (retracted_one v s).answer ≡ r → (follow (retracted_one v s).state (retracted_one v s).written r (λ _. each retracted_one vs)).answer ≡ Err (ended.Fault NoSuchFact)
        → ((t : World) → IsSound t.memory → list_all is_retractable vs ≡ true → (each retracted_one vs t).answer ≡ Err (ended.Fault NoSuchFact) → LeavesUpToMissing t vs (each retracted_one vs t).state)
        → LeavesUpToMissing s (v ∷ vs) (follow (retracted_one v s).state (retracted_one v s).written r (λ _. each retracted_one vs)).state
    by (Err x) e is next =
        let none = one_missing s v may_first (e ∙ is) in
        record {
          before = [];
          wrong = v;
          after = vs;
          split = refl;
          fine = refl;
          state = sym none.1;
          missing = subst (λ (t : World). IsMissing t.memory v) (sym none.1) none.0;
          left = subst (λ (t : World). LeavesUnnamed s.memory [] t.memory) (sym none.1) (none_named s.memory);
        }
    by (Ok u) e is next =
        let first = one_takes v s in
        let more = next (retracted_one v s).state (first.sound sound) (second_so (is_retractable v) (list_all is_retractable vs) may) is in
        record {
          before = v ∷ more.before;
          wrong = more.wrong;
          after = more.after;
          split = ap (λ us. v ∷ us) more.split;
          fine = ap (λ x. (follow (retracted_one v s).state (retracted_one v s).written x (λ _. each retracted_one more.before)).answer) e ∙ more.fine;
          state = ap (λ x. (follow (retracted_one v s).state (retracted_one v s).written x (λ _. each retracted_one more.before)).state) e ∙ more.state;
          missing = more.missing;
          left = one_then s.memory (retracted_one v s).state.memory (each retracted_one vs (retracted_one v s).state).state.memory v more.before (one_left s v may_first sound e) first.last more.left;
        }

pub ends : (before after : List Value) (wrong : Value) (s : World) → (each retracted_one before s).answer ≡ Ok tt → IsMissing (each retracted_one before s).state.memory wrong
    → (each retracted_one (before ++ wrong ∷ after) s).answer ≡ Err (ended.Fault NoSuchFact)
ends [] after wrong s h none = ap (λ x. (follow (retracted_one wrong s).state (retracted_one wrong s).written x (λ _. each retracted_one after)).answer) (ends_at s wrong none)
ends (v ∷ before) after wrong s h none = by (retracted_one v s).answer h none (λ t. ends before after wrong t)
  where
    by : (r : Result (Unit {0}) EarlyEnd) → (follow (retracted_one v s).state (retracted_one v s).written r (λ _. each retracted_one before)).answer ≡ Ok tt
        → IsMissing (follow (retracted_one v s).state (retracted_one v s).written r (λ _. each retracted_one before)).state.memory wrong
        → ((t : World) → (each retracted_one before t).answer ≡ Ok tt → IsMissing (each retracted_one before t).state.memory wrong → (each retracted_one (before ++ wrong ∷ after) t).answer ≡ Err (ended.Fault NoSuchFact))
        → (follow (retracted_one v s).state (retracted_one v s).written r (λ _. each retracted_one (before ++ wrong ∷ after))).answer ≡ Err (ended.Fault NoSuchFact)
    by (Ok u) is gap more = more (retracted_one v s).state is gap
    by (Err x) is gap more = absurd (cc)
