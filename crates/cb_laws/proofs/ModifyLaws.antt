-- What a `modify` does to the facts.
use Rattle.std.proofs.Common.{◌≡◌, ◌≢◌, ◌⊎◌, inl, inr, ◌∙◌, ◌==◌, ◌<◌, ◌≤◌, ◌++◌, ℕ, Bool, true, false, List, [], ◌∷◌, Option, Some, None, Result, Ok, Err, nat_eq, refl, sym, ap, subst, rules, if◌then◌else◌}
use Rattle.std.proofs.lemmas.Bool.{cases_lt}
use Rattle.std.specs.Cmp.{unsigned_Decides}
use Rattle.std.specs.Option.{ok_or}
use Rattle.cb_actions.specs.Acts.{Effect, after_writing, follow, give, give_or_fault, stop, ◌>>=◌}
use Rattle.cb_actions.specs.Changes.{come_line}
use Rattle.cb_actions.specs.Effects.{changed_to, fact_back, fact_gone, fact_replaced, index_said, modified, modified_at, replaced_beside, replaced_if_new, shared_out, unchanged_value}
use Rattle.cb_actions.specs.Worlds.{World}
use Rattle.cb_actions.specs.declared.act.EarlyEnd.{EarlyEnd}
use Rattle.cb_actions.specs.declared.act.EarlyEnd.TheVariants as ended
use Rattle.cb_actions.specs.declared.act.Limit.TheVariants.{Numbers}
use Rattle.cb_eval.specs.Constants.{false_symbol}
use Rattle.cb_exprs.specs.Shapes.{SlotCounts}
use Rattle.cb_facts.specs.FactLists.{IsAbsent, fact_at}
use Rattle.cb_facts.specs.Facts as content
use Rattle.cb_facts.specs.Facts.{FactContent, FactValue}
use Rattle.cb_facts.specs.declared.value.Value.{Value}
use Rattle.cb_facts.specs.declared.value.Value.TheVariants as value
use Rattle.cb_forms.specs.declared.fault.Fault.{Fault}
use Rattle.cb_forms.specs.declared.fault.Fault.TheVariants.{NoSuchFact}
use Rattle.cb_knowledge_base.proofs.IndexOf.{index_of-absent, index_of-there}
use Rattle.cb_knowledge_base.specs.KnowledgeBase.{Memory, greatest_index, index_of, put_back}
use Rattle.cb_laws.proofs.MemoryBasics.{base_of, not_found}
use Rattle.cb_laws.proofs.MoveLaws.{Moved, memory_is, moved_so, quiet_line}
use Rattle.cb_laws.proofs.PutLaws.{at_new, at_old, only_there, put_back_sound}
use Rattle.cb_laws.proofs.ReachedLaws.{AreTemplates, has_its_slots}
use Rattle.cb_laws.proofs.RetractLaws.{Ends, Takes, both_change, gone_ends, gone_left, gone_takes, still_unwatched}
use Rattle.cb_laws.specs.Memories.{ChangesFactsOnly, IsSound, IsUnwatched}
use Rattle.cb_laws.specs.Modified.{IsReplaced}
use Rattle.cb_laws.specs.Reached.{AreWellKept, HasItsSlots}
use Rattle.cb_templates.specs.Building.{Given, changed, content_changed, slot_values, with_kept_slots}
use Rattle.cb_templates.specs.Templates.{Templates}

-- a fact that is there has an index up to the last
given_by : (m : Memory) (ix : ℕ) (old : FactValue) → IsSound m → fact_at m.network.facts ix ≡ Some old → (m.last < ix) ⊎ (ix ≤ m.last) → ix ≤ m.last
given_by m ix old sound at (inl above) =
    let none : fact_at m.network.facts ix ≡ None = sound.none_after ix above in
    absurd (cc)
given_by m ix old sound at (inr below) = below

given : (m : Memory) (ix : ℕ) (old : FactValue) → IsSound m → fact_at m.network.facts ix ≡ Some old → ix ≤ m.last
given m ix old sound at = given_by m ix old sound at (cases_lt m.last ix)

limited : (r : Result (Unit {0}) EarlyEnd) (y x : EarlyEnd) → Ends r → r ≡ Err y → y ≡ x → x ≡ ended.Limit Numbers
limited r y x (inl e) h is = absurd (cc)
limited r y x (inr e) h is = cc

nothing : (bytes : List ℕ) → bytes ++ [] ≡ bytes
nothing bytes = search rules

-- the fact goes, and another comes under its index
module _ (ix : ℕ) (fact : FactValue) (s : World) (sound : IsSound s.memory) (absent : IsAbsent s.memory.network.facts fact) (below : ix ≤ s.memory.last) where
  abbrev Left : World → Type 0
  Left t = (q : ℕ) → fact_at t.memory.network.facts q ≡ (if ix == q then None else fact_at s.memory.network.facts q)

  abbrev back : World → Effect World (Option Value)
  back t = (fact_back ix fact >>= (λ _. give (Some (value.Fact ix)))) t

  module _ (t : World) (w : List ℕ) (takes : Takes s t w) (left : Left t) where
    still_absent : IsAbsent t.memory.network.facts fact
    still_absent q at = absent q (takes.kept sound q fact at)

    still_below : ix ≤ t.memory.last
    still_below = subst (λ n. ix ≤ n) (sym takes.last) below

    put_sound : IsSound (put_back ix fact t.memory)
    put_sound = put_back_sound t.memory fact ix (takes.sound sound) still_absent still_below

    put_only_by : (q : ℕ) (g : FactValue) → (fact_at t.memory.network.facts q ≡ Some g) ⊎ ((q ≡ ix) × (fact ≡ g)) → (fact_at s.memory.network.facts q ≡ Some g) ⊎ (fact ≡ g)
    put_only_by q g (inl at) = inl (takes.kept sound q g at)
    put_only_by q g (inr both) = inr both.1

    put_only : (q : ℕ) (g : FactValue) → fact_at (put_back ix fact t.memory).network.facts q ≡ Some g → (fact_at s.memory.network.facts q ≡ Some g) ⊎ (fact ≡ g)
    put_only q g at = put_only_by q g (only_there t.memory fact ix q g at)

    put_facts : (q : ℕ) → fact_at (put_back ix fact t.memory).network.facts q ≡ (if ix == q then Some fact else fact_at s.memory.network.facts q)
    put_facts q = by (ix == q) refl (left q)
      where
        by : (b : Bool) → (ix == q) ≡ b → fact_at t.memory.network.facts q ≡ (if b then None else fact_at s.memory.network.facts q)
            → fact_at (put_back ix fact t.memory).network.facts q ≡ (if b then Some fact else fact_at s.memory.network.facts q)
        by true e l = ap (fact_at (put_back ix fact t.memory).network.facts) (sym ((unsigned_Decides ix q).0 e)) ∙ at_new t.memory fact ix
        by false e l = at_old t.memory fact ix q (λ same.
            let yes : (ix == q) ≡ true = (unsigned_Decides ix q).1 (sym same) in
            cc) ∙ l

    module _ (u : World) (y : List ℕ) (r : Result (Unit {0}) EarlyEnd) (m : Moved t (put_back ix fact t.memory) (come_line t ix fact) u y r) where
      is : u.memory ≡ put_back ix fact t.memory
      is = memory_is _ _ _ u y r m

      back_changes : ChangesFactsOnly s u
      back_changes = both_change s t u takes.changes (record {
        only = m.only ∙ ap (λ n. record t { memory = n; agenda = u.agenda }) (sym is);
        rules = ap (λ (n : Memory). n.network.rules) is;
        last_rule = ap (λ (n : Memory). n.last_rule) is;
      })

      back_quiet : IsUnwatched s → w ++ y ≡ []
      back_quiet h =
          let later = still_unwatched s t takes.changes h in
          ap (λ ws. ws ++ y) (takes.quiet h) ∙ m.quiet (quiet_line t.watched.facts later.0 _) later.1

    put_so : (u : World) (y : List ℕ) (r : Result (Unit {0}) EarlyEnd) → Moved t (put_back ix fact t.memory) (come_line t ix fact) u y r
        → IsReplaced ix fact s (after_writing w (follow u y r (λ _. give (Some (value.Fact ix)))))
    put_so u y (Ok v) m = record {
      address = λ answer h. cc;
      facts = λ answer h q. ap (λ (n : Memory). fact_at n.network.facts q) (is u y (Ok v) m) ∙ put_facts q;
      limit = λ x h. absurd (cc);
      only = λ q g at. put_only q g (sym (ap (λ (n : Memory). fact_at n.network.facts q) (is u y (Ok v) m)) ∙ at);
      last = ap (λ (n : Memory). n.last) (is u y (Ok v) m) ∙ takes.last;
      sound = subst IsSound (sym (is u y (Ok v) m)) put_sound;
      changes = back_changes u y (Ok v) m;
      quiet = λ h. ap (λ ws. w ++ ws) (nothing y) ∙ back_quiet u y (Ok v) m h;
    }
    put_so u y (Err x) m = record {
      address = λ answer h. absurd (cc);
      facts = λ answer h q. absurd (cc);
      limit = λ z h. limited (Err x) x z m.ends refl (cc);
      only = λ q g at. put_only q g (sym (ap (λ (n : Memory). fact_at n.network.facts q) (is u y (Err x) m)) ∙ at);
      last = ap (λ (n : Memory). n.last) (is u y (Err x) m) ∙ takes.last;
      sound = subst IsSound (sym (is u y (Err x) m)) put_sound;
      changes = back_changes u y (Err x) m;
      quiet = back_quiet u y (Err x) m;
    }

  gone_so : (t : World) (w : List ℕ) (r : Result (Unit {0}) EarlyEnd) → Takes s t w → Ends r → Left t → IsReplaced ix fact s (follow t w r (λ _. back))
  gone_so t w (Ok v) takes ends left = put_so t w takes left (fact_back ix fact t).state (fact_back ix fact t).written (fact_back ix fact t).answer (moved_so t (put_back ix fact t.memory) (come_line t ix fact))
  gone_so t w (Err x) takes ends left = record {
    address = λ answer h. absurd (cc);
    facts = λ answer h q. absurd (cc);
    limit = λ z h. limited (Err x) x z ends refl (cc);
    only = λ q g at. inl (takes.kept sound q g at);
    last = takes.last;
    sound = takes.sound sound;
    changes = takes.changes;
    quiet = takes.quiet;
  }

  replaced_so : IsReplaced ix fact s (fact_replaced ix fact s)
  replaced_so = gone_so (fact_gone ix s).state (fact_gone ix s).written (fact_gone ix s).answer (gone_takes ix s) (gone_ends ix s) (gone_left ix s sound)

-- a fact that was changed has the slots of its template
changed_slots_by : (templates : Templates) (relation : List ℕ) (c : FactContent) (given : Given) (fact : FactValue) → AreTemplates templates → content_changed templates relation c given ≡ Ok fact → HasItsSlots templates fact
changed_slots_by templates relation (content.fields xs) given fact are h = absurd (cc)
changed_slots_by templates relation (content.slots pairs) given fact are h = has_its_slots templates relation (slot_values (with_kept_slots given pairs)) fact are h

changed_slots : (templates : Templates) (old : FactValue) (given : Given) (fact : FactValue) → AreTemplates templates → changed templates old given ≡ Ok fact → HasItsSlots templates fact
changed_slots templates old given fact are h = changed_slots_by templates old.relation old.content given fact are h

-- what holds of every state
pub modified_kept : (ix : ℕ) (given_slots : Given) (old fact : FactValue) (s : World) → AreWellKept s.memory s.templates → fact_at s.memory.network.facts ix ≡ Some old → changed s.templates old given_slots ≡ Ok fact
    → AreWellKept (replaced_if_new ix fact s).state.memory (replaced_if_new ix fact s).state.templates
modified_kept ix given_slots old fact s kept at made = by (index_of s.memory.network.facts fact) refl
  where
    right : HasItsSlots s.templates fact
    right = changed_slots s.templates old given_slots fact kept.templates_are made

    which : (q : ℕ) (g : FactValue) → (fact_at s.memory.network.facts q ≡ Some g) ⊎ (fact ≡ g) → HasItsSlots s.templates g
    which q g (inl was) = kept.slots q g was
    which q g (inr same) = subst (HasItsSlots s.templates) same right

    by : (o : Option ℕ) → index_of s.memory.network.facts fact ≡ o → AreWellKept (replaced_beside ix fact o s).state.memory (replaced_beside ix fact o s).state.templates
    by (Some there) e = kept
    by None e =
        let it = replaced_so ix fact s kept.sound (λ q. not_found s.memory fact q kept.sound e) (given s.memory ix old kept.sound at) in
        let same : (fact_replaced ix fact s).state.templates ≡ s.templates = ap (λ (w : World). w.templates) it.changes.only in
        subst (AreWellKept (fact_replaced ix fact s).state.memory) (sym same) (record {
          sound = it.sound;
          in_range = subst (λ n. n ≤ greatest_index) (sym it.last) kept.in_range;
          templates_are = kept.templates_are;
          slots = λ q g there. which q g (it.only q g there);
        })

-- what the laws say: which fact a value names, and what comes of it
pub says_which : (slots : SlotCounts) (v : Value) (vs : List Value) (ix : ℕ) (s : World) → index_said v ≡ Ok ix → modified slots (v ∷ vs) s ≡ modified_at (shared_out slots vs) ix s
says_which slots v vs ix s h = ap (λ r. (give_or_fault r >>= modified_at (shared_out slots vs)) s) h

pub says_none : (slots : SlotCounts) (v : Value) (vs : List Value) (f : Fault) (s : World) → index_said v ≡ Err f → modified slots (v ∷ vs) s ≡ stop (ended.Fault f) s
says_none slots v vs f s h = ap (λ r. (give_or_fault r >>= modified_at (shared_out slots vs)) s) h

its_address : (ix : ℕ) → unchanged_value ix ix ≡ value.Fact ix
its_address ix = ap (λ b. if b then value.Fact ix else false_symbol) ((unsigned_Decides ix ix).1 refl)

false_for : (ix other : ℕ) → ix ≢ other → unchanged_value ix other ≡ false_symbol
false_for ix other apart = by (nat_eq ix other) refl
  where
    by : (b : Bool) → nat_eq ix other ≡ b → (if b then value.Fact ix else false_symbol) ≡ false_symbol
    by true e = absurd (apart ((unsigned_Decides ix other).0 e))
    by false e = refl

module _ (ix : ℕ) (given_slots : Given) (s : World) where
  pub not_there : fact_at s.memory.network.facts ix ≡ None → modified_at given_slots ix s ≡ stop (ended.Fault NoSuchFact) s
  not_there h = ap (λ o. (give_or_fault (ok_or o NoSuchFact) >>= changed_to ix given_slots) s) h

  there : (old : FactValue) → fact_at s.memory.network.facts ix ≡ Some old → modified_at given_slots ix s ≡ changed_to ix given_slots old s
  there old h = ap (λ o. (give_or_fault (ok_or o NoSuchFact) >>= changed_to ix given_slots) s) h

  pub does_not_fit : (old : FactValue) (f : Fault) → fact_at s.memory.network.facts ix ≡ Some old → changed s.templates old given_slots ≡ Err f → modified_at given_slots ix s ≡ stop (ended.Fault f) s
  does_not_fit old f h e = there old h ∙ ap (λ r. (give_or_fault r >>= replaced_if_new ix) s) e

  fits : (old fact : FactValue) → fact_at s.memory.network.facts ix ≡ Some old → changed s.templates old given_slots ≡ Ok fact → modified_at given_slots ix s ≡ replaced_if_new ix fact s
  fits old fact h e = there old h ∙ ap (λ r. (give_or_fault r >>= replaced_if_new ix) s) e

  pub equal_there : (old fact : FactValue) (q : ℕ) → IsSound s.memory → fact_at s.memory.network.facts ix ≡ Some old → changed s.templates old given_slots ≡ Ok fact → fact_at s.memory.network.facts q ≡ Some fact
      → modified_at given_slots ix s ≡ give (Some (unchanged_value ix q)) s
  equal_there old fact q sound h e at = fits old fact h e ∙ ap (λ o. replaced_beside ix fact o s) (index_of-there s.memory.network.facts fact q (base_of s.memory sound) at)

  pub comes : (old fact : FactValue) → IsSound s.memory → fact_at s.memory.network.facts ix ≡ Some old → changed s.templates old given_slots ≡ Ok fact → IsAbsent s.memory.network.facts fact
      → IsReplaced ix fact s (modified_at given_slots ix s)
  comes old fact sound h e absent =
      let same : modified_at given_slots ix s ≡ fact_replaced ix fact s = fits old fact h e ∙ ap (λ o. replaced_beside ix fact o s) (index_of-absent s.memory.network.facts fact (base_of s.memory sound) absent) in
      subst (IsReplaced ix fact s) (sym same) (replaced_so ix fact s sound absent (given s.memory ix old sound h))

  pub equal_same : (old : FactValue) → IsSound s.memory → fact_at s.memory.network.facts ix ≡ Some old → changed s.templates old given_slots ≡ Ok old → modified_at given_slots ix s ≡ give (Some (value.Fact ix)) s
  equal_same old sound h e = equal_there old old ix sound h e h ∙ ap (λ v. give (Some v) s) (its_address ix)

  pub equal_other_by : (other : ℕ) (old fact : FactValue) → IsSound s.memory → fact_at s.memory.network.facts ix ≡ Some old → changed s.templates old given_slots ≡ Ok fact → fact_at s.memory.network.facts other ≡ Some fact → ix ≢ other
      → modified_at given_slots ix s ≡ give (Some false_symbol) s
  equal_other_by other old fact sound h e at apart = equal_there old fact other sound h e at ∙ ap (λ v. give (Some v) s) (false_for ix other apart)

pub equal_other : (ix other : ℕ) (given_slots : Given) (s : World) (old fact : FactValue) → IsSound s.memory → fact_at s.memory.network.facts ix ≡ Some old → changed s.templates old given_slots ≡ Ok fact
    → fact_at s.memory.network.facts other ≡ Some fact → ix ≢ other → modified_at given_slots ix s ≡ give (Some false_symbol) s
equal_other ix other given_slots s = equal_other_by ix given_slots s other
