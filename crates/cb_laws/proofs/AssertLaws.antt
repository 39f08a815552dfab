-- What is asserted is there.
use Rattle.std.proofs.Common.{◌≡◌, ◌≢◌, ◌↔◌, ◌⊎◌, inl, inr, ◌∙◌, ◌+◌, ◌++◌, ◌<◌, ◌≤◌, ℕ, true, false, List, [], ◌∷◌, Option, Some, None, Result, Ok, Err, Contains, refl, sym, ap, subst, arith, nat_lt, rules}
use Rattle.cb_actions.specs.Acts.{Effect, follow, give, stop}
use Rattle.cb_actions.specs.Changes.{come_line}
use Rattle.cb_actions.specs.Effects.{added_beside, fact_added}
use Rattle.cb_actions.specs.Worlds.{World}
use Rattle.cb_actions.specs.declared.act.EarlyEnd.TheVariants as ended
use Rattle.cb_actions.specs.declared.act.EarlyEnd.{EarlyEnd}
use Rattle.cb_actions.specs.declared.act.Limit.TheVariants.{Numbers}
use Rattle.cb_facts.proofs.MemberLaws.{contains_here, contains_there}
use Rattle.cb_facts.specs.FactLists.{IsAbsent, fact_at}
use Rattle.cb_facts.specs.Facts.{FactValue}
use Rattle.cb_facts.specs.declared.value.Value.TheVariants as value
use Rattle.cb_facts.specs.declared.value.Value.{Value}
use Rattle.cb_knowledge_base.proofs.IndexOf.{index_of-absent, index_of-there}
use Rattle.cb_knowledge_base.specs.KnowledgeBase.{Memory, greatest_index, grown, index_of}
use Rattle.cb_laws.proofs.AgendaLaws.{moved_proper}
use Rattle.cb_laws.proofs.MemoryBasics.{base_of, found_there, not_found}
use Rattle.cb_laws.proofs.MoveLaws.{Moved, added_cases, memory_is, quiet_line}
use Rattle.cb_laws.proofs.PutLaws.{at_new, at_old, distinct_with, only_there, rising_with}
use Rattle.cb_laws.specs.Firing.{IsProper}
use Rattle.cb_laws.specs.Memories.{AreAsserted, ChangesFactsOnly, IsSound, IsThere, IsUnwatched, has_stamps_for}
use Rattle.cb_templates.proofs.Members.{first_or_other}

-- A fact was asserted and has this index: it is there, the others are as before, and there are no more.
pub record OneMore (m : Memory) (f : FactValue) (n : Memory) (ix : ℕ) : Type 0 where
  pub here : fact_at n.network.facts ix ≡ Some f
  pub stays : (q : ℕ) (g : FactValue) → fact_at m.network.facts q ≡ Some g → fact_at n.network.facts q ≡ Some g
  pub only : (q : ℕ) (g : FactValue) → fact_at n.network.facts q ≡ Some g → (fact_at m.network.facts q ≡ Some g) ⊎ (f ≡ g)
  pub sound : IsSound n

there_already : (m : Memory) (f : FactValue) (ix : ℕ) → IsSound m → index_of m.network.facts f ≡ Some ix → OneMore m f m ix
there_already m f ix sound e = record { here = found_there m f ix sound e; stays = λ q g at. at; only = λ q g at. inl at; sound = sound }

module _ (m : Memory) (f : FactValue) (sound : IsSound m) (absent : index_of m.network.facts f ≡ None) where
  was_free : (q : ℕ) (g : FactValue) → fact_at m.network.facts q ≡ Some g → q ≢ m.last + 1
  was_free q g at e =
      let gone : fact_at m.network.facts q ≡ None = sound.none_after q (omega arith) in
      cc

  either : (q : ℕ) (g : FactValue) → (fact_at m.network.facts q ≡ Some g) ⊎ ((q ≡ m.last + 1) × (f ≡ g)) → (fact_at m.network.facts q ≡ Some g) ⊎ (f ≡ g)
  either q g (inl at) = inl at
  either q g (inr b) = inr b.1

  is_new : IsAbsent m.network.facts f
  is_new ix at = not_found m f ix sound absent at

  pub one_new : OneMore m f (grown f m) (m.last + 1)
  one_new = record {
    here = at_new m f (m.last + 1);
    stays = λ q g at. at_old m f (m.last + 1) q (was_free q g at) ∙ at;
    only = λ q g at. either q g (only_there m f (m.last + 1) q g at);
    sound = record {
      rising = rising_with m f (m.last + 1) sound is_new;
      distinct = distinct_with m f (m.last + 1) sound is_new;
      none_after = λ ix above. at_old m f (m.last + 1) ix (λ e. omega arith) ∙ sound.none_after ix (omega arith);
    };
  }

-- The address that is answered: the fact is there under its index.
pub record Answered (f : FactValue) (s : World) (e : Effect World (Option Value)) (answer : Option Value) : Type 0 where
  pub ix : ℕ
  pub address : answer ≡ Some (value.Fact ix)
  pub more : OneMore s.memory f e.state.memory ix

pub answered : (f : FactValue) (s : World) (answer : Option Value) → IsSound s.memory → (fact_added f s).answer ≡ Ok answer → Answered f s (fact_added f s) answer
answered f s answer sound h = added_cases f s (λ e. e.answer ≡ Ok answer → Answered f s e answer) there grows (λ none e is. absurd (cc)) h
  where
    there : (ix : ℕ) → index_of s.memory.network.facts f ≡ Some ix → (give (Some (value.Fact ix)) s).answer ≡ Ok answer → Answered f s (give (Some (value.Fact ix)) s) answer
    there ix e is = record { ix = ix; address = cc; more = there_already s.memory f ix sound e }

    grows : index_of s.memory.network.facts f ≡ None → nat_lt s.memory.last greatest_index ≡ true → (t : World) (w : List ℕ) (r : Result (Unit {0}) EarlyEnd)
        → Moved s (grown f s.memory) (come_line s (s.memory.last + 1) f) t w r
        → (follow t w r (λ _. give (Some (value.Fact (s.memory.last + 1))))).answer ≡ Ok answer
        → Answered f s (follow t w r (λ _. give (Some (value.Fact (s.memory.last + 1))))) answer
    grows none e t w (Ok v) m is = record {
      ix = s.memory.last + 1;
      address = cc;
      more = subst (λ n. OneMore s.memory f n (s.memory.last + 1)) (sym (memory_is _ _ _ t w (Ok v) m)) (one_new s.memory f sound none);
    }
    grows none e t w (Err x) m is = absurd (cc)

-- However an assertion ends, those that were there are there, and there are no others but the fact.
pub record Stays (f : FactValue) (m n : Memory) : Type 0 where
  pub stays : (q : ℕ) (g : FactValue) → fact_at m.network.facts q ≡ Some g → fact_at n.network.facts q ≡ Some g
  pub only : (q : ℕ) (g : FactValue) → fact_at n.network.facts q ≡ Some g → (fact_at m.network.facts q ≡ Some g) ⊎ (f ≡ g)
  pub sound : IsSound n
  pub in_range : m.last ≤ greatest_index → n.last ≤ greatest_index

stays_same : (f : FactValue) (m : Memory) → IsSound m → Stays f m m
stays_same f m sound = record { stays = λ q g at. at; only = λ q g at. inl at; sound = sound; in_range = λ h. h }

stays_grown : (f : FactValue) (m : Memory) → IsSound m → index_of m.network.facts f ≡ None → nat_lt m.last greatest_index ≡ true → Stays f m (grown f m)
stays_grown f m sound none e =
    let more = one_new m f sound none in
    record { stays = more.stays; only = more.only; sound = more.sound; in_range = λ h. below e }
  where
    below : nat_lt m.last greatest_index ≡ true → m.last + 1 ≤ greatest_index
    below e =
        let less : m.last < greatest_index = search (rules, e) in
        omega arith

pub added_stays : (f : FactValue) (s : World) → IsSound s.memory → Stays f s.memory (fact_added f s).state.memory
added_stays f s sound = added_cases f s (λ e. Stays f s.memory e.state.memory) (λ ix e. stays_same f s.memory sound) grows (λ none e. stays_same f s.memory sound)
  where
    grows : index_of s.memory.network.facts f ≡ None → nat_lt s.memory.last greatest_index ≡ true → (t : World) (w : List ℕ) (r : Result (Unit {0}) EarlyEnd)
        → Moved s (grown f s.memory) (come_line s (s.memory.last + 1) f) t w r → Stays f s.memory (follow t w r (λ _. give (Some (value.Fact (s.memory.last + 1))))).state.memory
    grows none e t w (Ok v) m = subst (Stays f s.memory) (sym (memory_is _ _ _ t w (Ok v) m)) (stays_grown f s.memory sound none e)
    grows none e t w (Err x) m = subst (Stays f s.memory) (sym (memory_is _ _ _ t w (Err x) m)) (stays_grown f s.memory sound none e)

-- what the laws say of one assertion
pub is_there : (f : FactValue) (s : World) (answer : Option Value) → IsSound s.memory → (fact_added f s).answer ≡ Ok answer
    → (ix : ℕ) × (answer ≡ Some (value.Fact ix)) × (fact_at (fact_added f s).state.memory.network.facts ix ≡ Some f)
is_there f s answer sound h = let it = answered f s answer sound h in (it.ix, it.address, it.more.here)

pub known : (f : FactValue) (s : World) (ix : ℕ) → IsSound s.memory → fact_at s.memory.network.facts ix ≡ Some f → fact_added f s ≡ give (Some (value.Fact ix)) s
known f s ix sound at = ap (λ o. added_beside f o s) (index_of-there s.memory.network.facts f ix (base_of s.memory sound) at)

module _ (f : FactValue) (s : World) (sound : IsSound s.memory) (absent : IsAbsent s.memory.network.facts f) where
  is_absent : index_of s.memory.network.facts f ≡ None
  is_absent = index_of-absent s.memory.network.facts f (base_of s.memory sound) absent

  not_there : (ix : ℕ) → index_of s.memory.network.facts f ≡ Some ix → ⊥
  not_there ix e = let none = is_absent in cc

  pub no_index : greatest_index ≤ s.memory.last → fact_added f s ≡ stop (ended.Limit Numbers) s
  no_index above = added_cases f s (λ e. e ≡ stop (ended.Limit Numbers) s) (λ ix e. absurd (not_there ix e)) (λ none e t w r m. absurd (over e)) (λ none e. refl)
    where
      over : nat_lt s.memory.last greatest_index ≡ true → ⊥
      over e =
          let less : s.memory.last < greatest_index = search (rules, e) in
          omega arith

  module _ (below : s.memory.last < greatest_index) where
    not_full : nat_lt s.memory.last greatest_index ≡ false → ⊥
    not_full e =
        let less : nat_lt s.memory.last greatest_index ≡ true = search rules in
        cc

    pub is_grown : (fact_added f s).state.memory ≡ grown f s.memory
    is_grown = added_cases f s (λ e. e.state.memory ≡ grown f s.memory) (λ ix e. absurd (not_there ix e)) grows (λ none e. absurd (not_full e))
      where
        grows : index_of s.memory.network.facts f ≡ None → nat_lt s.memory.last greatest_index ≡ true → (t : World) (w : List ℕ) (r : Result (Unit {0}) EarlyEnd)
            → Moved s (grown f s.memory) (come_line s (s.memory.last + 1) f) t w r → (follow t w r (λ _. give (Some (value.Fact (s.memory.last + 1))))).state.memory ≡ grown f s.memory
        grows none e t w (Ok v) m = memory_is _ _ _ t w (Ok v) m
        grows none e t w (Err x) m = memory_is _ _ _ t w (Err x) m

    pub has_address : has_stamps_for f s ≡ true → (fact_added f s).answer ≡ Ok (Some (value.Fact (s.memory.last + 1)))
    has_address room = added_cases f s (λ e. e.answer ≡ Ok (Some (value.Fact (s.memory.last + 1)))) (λ ix e. absurd (not_there ix e)) grows (λ none e. absurd (not_full e))
      where
        grows : index_of s.memory.network.facts f ≡ None → nat_lt s.memory.last greatest_index ≡ true → (t : World) (w : List ℕ) (r : Result (Unit {0}) EarlyEnd)
            → Moved s (grown f s.memory) (come_line s (s.memory.last + 1) f) t w r
            → (follow t w r (λ _. give (Some (value.Fact (s.memory.last + 1))))).answer ≡ Ok (Some (value.Fact (s.memory.last + 1)))
        grows none e t w r m = ap (λ x. (follow t w x (λ _. give (Some (value.Fact (s.memory.last + 1))))).answer) (m.room room)

    pub has_no_stamps : has_stamps_for f s ≡ false → (fact_added f s).answer ≡ Err (ended.Limit Numbers)
    has_no_stamps room = added_cases f s (λ e. e.answer ≡ Err (ended.Limit Numbers)) (λ ix e. absurd (not_there ix e)) grows (λ none e. absurd (not_full e))
      where
        grows : index_of s.memory.network.facts f ≡ None → nat_lt s.memory.last greatest_index ≡ true → (t : World) (w : List ℕ) (r : Result (Unit {0}) EarlyEnd)
            → Moved s (grown f s.memory) (come_line s (s.memory.last + 1) f) t w r
            → (follow t w r (λ _. give (Some (value.Fact (s.memory.last + 1))))).answer ≡ Err (ended.Limit Numbers)
        grows none e t w r m = ap (λ x. (follow t w x (λ _. give (Some (value.Fact (s.memory.last + 1))))).answer) (m.no_room room)

-- how an assertion ends, and what it leaves alone
pub record Alone (s : World) (e : Effect World (Option Value)) : Type 0 where
  pub changes : ChangesFactsOnly s e.state
  pub proper : IsProper s.agenda → IsProper e.state.agenda
  pub quiet : IsUnwatched s → e.written ≡ []
  pub limit : (x : EarlyEnd) → e.answer ≡ Err x → x ≡ ended.Limit Numbers

pub adds_alone : (f : FactValue) (s : World) → Alone s (fact_added f s)
adds_alone f s = added_cases f s (Alone s) (λ ix e. there ix) grows (λ none e. record { changes = same; proper = λ p. p; quiet = λ h. refl; limit = λ x h. cc })
  where
    same : ChangesFactsOnly s s
    same = record { only = refl; rules = refl; last_rule = refl }

    there : (ix : ℕ) → Alone s (give (Some (value.Fact ix)) s)
    there ix = record { changes = same; proper = λ p. p; quiet = λ h. refl; limit = λ x h. absurd (cc) }

    changed_so : (t : World) (w : List ℕ) (r : Result (Unit {0}) EarlyEnd) → Moved s (grown f s.memory) (come_line s (s.memory.last + 1) f) t w r → ChangesFactsOnly s t
    changed_so t w r m =
        let is : t.memory ≡ grown f s.memory = memory_is _ _ _ t w r m in
        record {
          only = m.only ∙ ap (λ n. record s { memory = n; agenda = t.agenda }) (sym is);
          rules = ap (λ (n : Memory). n.network.rules) is;
          last_rule = ap (λ (n : Memory). n.last_rule) is;
        }

    unwatched : IsUnwatched s → come_line s (s.memory.last + 1) f ≡ []
    unwatched h = quiet_line s.watched.facts h.0 _

    limited : (r : Result (Unit {0}) EarlyEnd) (y x : EarlyEnd) → (r ≡ Ok tt) ⊎ (r ≡ Err (ended.Limit Numbers)) → r ≡ Err y → y ≡ x → x ≡ ended.Limit Numbers
    limited r y x (inl e) h is = absurd (cc)
    limited r y x (inr e) h is = cc

    grows : index_of s.memory.network.facts f ≡ None → nat_lt s.memory.last greatest_index ≡ true → (t : World) (w : List ℕ) (r : Result (Unit {0}) EarlyEnd)
        → Moved s (grown f s.memory) (come_line s (s.memory.last + 1) f) t w r → Alone s (follow t w r (λ _. give (Some (value.Fact (s.memory.last + 1)))))
    grows none e t w (Ok v) m = record { changes = changed_so t w (Ok v) m; proper = moved_proper s (grown f s.memory) (come_line s (s.memory.last + 1) f) t w (Ok v) m; quiet = λ h. ap (λ ws. ws ++ []) (m.quiet (unwatched h) h.1); limit = λ x h. absurd (cc) }
    grows none e t w (Err y) m = record { changes = changed_so t w (Err y) m; proper = moved_proper s (grown f s.memory) (come_line s (s.memory.last + 1) f) t w (Err y) m; quiet = λ h. m.quiet (unwatched h) h.1; limit = λ x h. limited (Err y) y x m.ends refl (cc) }

-- several assertions
pub several_sound : (s t : World) (fs : List FactValue) → IsSound s.memory → AreAsserted s fs t → IsSound t.memory
several_sound s t [] sound h = subst (λ (u : World). IsSound u.memory) h sound
several_sound s t (f ∷ fs) sound h = several_sound (fact_added f s).state t fs (added_stays f s sound).sound h.2

pub several_stay : (s t : World) (fs : List FactValue) (g : FactValue) (ix : ℕ) → IsSound s.memory → AreAsserted s fs t → fact_at s.memory.network.facts ix ≡ Some g → fact_at t.memory.network.facts ix ≡ Some g
several_stay s t [] g ix sound h at = subst (λ (u : World). fact_at u.memory.network.facts ix ≡ Some g) h at
several_stay s t (f ∷ fs) g ix sound h at =
    let step = added_stays f s sound in
    several_stay (fact_added f s).state t fs g ix step.sound h.2 (step.stays ix g at)

pub several_only : (s t : World) (fs : List FactValue) (g : FactValue) → IsSound s.memory → AreAsserted s fs t → IsThere t.memory g → IsThere s.memory g ⊎ Contains fs g
several_only s t [] g sound h at = inl (subst (λ (u : World). IsThere u.memory g) (sym h) at)
several_only s t (f ∷ fs) g sound h at = by (several_only (fact_added f s).state t fs g step.sound h.2 at)
  where
    step : Stays f s.memory (fact_added f s).state.memory
    step = added_stays f s sound

    first : (q : ℕ) → (fact_at s.memory.network.facts q ≡ Some g) ⊎ (f ≡ g) → IsThere s.memory g ⊎ Contains (f ∷ fs) g
    first q (inl was) = inl (q, was)
    first q (inr same) = inr (subst (Contains (f ∷ fs)) same (contains_here f fs))

    by : IsThere (fact_added f s).state.memory g ⊎ Contains fs g → IsThere s.memory g ⊎ Contains (f ∷ fs) g
    by (inl there) = first there.0 (step.only there.0 g there.1)
    by (inr c) = inr (contains_there f g fs c)

pub several_there : (s t : World) (fs : List FactValue) (g : FactValue) → IsSound s.memory → AreAsserted s fs t → IsThere s.memory g ⊎ Contains fs g → IsThere t.memory g
several_there s t fs g sound h (inl there) = (there.0, several_stay s t fs g there.0 sound h there.1)
several_there s t [] g sound h (inr (k, below, is)) = absurd (omega arith)
several_there s t (f ∷ fs) g sound h (inr c) = by (first_or_other f g fs c) (λ u later. several_there (fact_added f s).state t fs g u h.2 (inr later))
  where
    step : Answered f s (fact_added f s) h.0
    step = answered f s h.0 sound h.1

    by : (f ≡ g) ⊎ Contains fs g → (IsSound (fact_added f s).state.memory → Contains fs g → IsThere t.memory g) → IsThere t.memory g
    by (inl same) more = (step.ix, several_stay (fact_added f s).state t fs g step.ix step.more.sound h.2 (step.more.here ∙ ap Some same))
    by (inr later) more = more step.more.sound later

pub there_where : (s t : World) (fs : List FactValue) (g : FactValue) → IsSound s.memory → AreAsserted s fs t → IsThere t.memory g ↔ (IsThere s.memory g ⊎ Contains fs g)
there_where s t fs g sound h = (several_only s t fs g sound h, several_there s t fs g sound h)
