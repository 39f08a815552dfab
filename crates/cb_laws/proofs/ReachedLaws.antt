-- What is done to facts and templates leaves them well kept.
use Rattle.std.proofs.Common.{◌≡◌, ◌≤◌, ◌⊎◌, inl, inr, ◌∙◌, ◌||◌, ℕ, Bool, true, false, cond, List, [], ◌∷◌, Option, Some, None, Result, Ok, Err, All, refl, sym, ap, subst, arith, if◌then◌else◌}
use Rattle.std.proofs.lemmas.List.Elements.{All-head, All-tail}
use Rattle.std.specs.BTreeMap.{is_at}
use Rattle.std.specs.Cmp.Lexicographic.{bytes_decides}
use Rattle.std.specs.List.{list_any}
use Rattle.std.specs.List.Sorted.{IsStrictlySortedBy}
use Rattle.std.specs.Ordering.{nat_cmp}
use Rattle.std.specs.Str.{bytes_eq}
use Rattle.cb_actions.specs.Acts.{give_or_fault, ◌>>=◌}
use Rattle.cb_actions.specs.Effects.{asserted, fact_added, parts_of, retracted}
use Rattle.cb_actions.specs.Worlds.{World}
use Rattle.cb_exprs.specs.Shapes.{Shape}
use Rattle.cb_facts.specs.FactLists.{IndexedFacts, fact_at}
use Rattle.cb_facts.specs.Facts as content
use Rattle.cb_facts.specs.Facts.{FactValue, ordered_fact}
use Rattle.cb_facts.specs.Results.{ok_then, with_first}
use Rattle.cb_facts.specs.Values.{is_multifield, spliced}
use Rattle.cb_facts.specs.declared.value.Value.TheVariants as value
use Rattle.cb_facts.specs.declared.value.Value.{Value}
use Rattle.cb_forms.specs.declared.fault.Fault.{Fault}
use Rattle.cb_knowledge_base.specs.KnowledgeBase.{Memory, greatest_index}
use Rattle.cb_laws.proofs.AssertLaws.{added_stays, adds_alone}
use Rattle.cb_laws.proofs.RetractedLaws.{retracted_takes}
use Rattle.cb_laws.specs.Reached.{AreSlotsOf, AreWellKept, FillSlots, HasItsDefault, HasItsSlots, IsTemplate}
use Rattle.cb_matches.specs.Networks.{Conditions}
use Rattle.cb_templates.proofs.SlotValueLaws.{default_is, is_built, one_of}
use Rattle.cb_templates.specs.Building.{Given, PartValues, built, built_by, field_values, filled, given_for, one_value, slot_values, value_or_default}
use Rattle.cb_templates.specs.Slots.{SlotShape}
use Rattle.cb_templates.specs.Templates.{Templates, slots_of}

-- each relation that has a template has one whose slots are right
abbrev pub AreTemplates : Templates → Type 0
AreTemplates templates = (relation : List ℕ) (slots : List SlotShape) → slots_of templates relation ≡ Some slots → IsTemplate slots

no_indices : IsStrictlySortedBy nat_cmp []
unfolding IsStrictlySortedBy
no_indices = tt

-- no facts, whatever the rules are
pub none_kept : (rules : Conditions) (last last_rule : ℕ) (templates : Templates) → last ≤ greatest_index → AreTemplates templates
    → AreWellKept (record { network = record { rules = rules; facts = [] }; last = last; last_rule = last_rule }) templates
none_kept rules last last_rule templates below made = record {
  sound = record { rising = no_indices; distinct = λ fact i j p q. absurd (cc); none_after = λ ix above. refl };
  in_range = below;
  templates_are = made;
  slots = λ ix fact at. absurd (cc);
}

-- what a slot is filled with is a multifield exactly in a multislot
given_kind : (vs : List Value) (v : Value) (t : Bool) → (if t then Ok (value.Multi (spliced vs)) else one_value vs) ≡ Ok v → is_multifield v ≡ t
given_kind vs v true h = let same : value.Multi (spliced vs) ≡ v = cc in ap is_multifield (sym same)
given_kind vs v false h = (one_of vs v h).is_single

value_kind : (s : SlotShape) (o : Option (List Value)) (v : Value) → HasItsDefault s → value_or_default s o ≡ Ok v → is_multifield v ≡ s.is_multi
value_kind s None v fine h = fine v (default_is s.default v h)
value_kind s (Some vs) v fine h = given_kind vs v s.is_multi h

filled_slots : (slots : List SlotShape) (given : Given) (pairs : List (List ℕ × Value)) → All HasItsDefault slots → filled slots given ≡ Ok pairs → FillSlots slots pairs
filled_slots [] given pairs fine h =
    let same : [] ≡ pairs = cc in
    subst (FillSlots []) same tt
filled_slots (s ∷ slots) given pairs fine h =
    by (value_or_default s (given_for given s.name)) refl (filled slots given) h (λ others is. filled_slots slots given others (All-tail HasItsDefault s slots fine) is)
  where
    by : (r : Result Value Fault) → value_or_default s (given_for given s.name) ≡ r → (rest : Result (List (List ℕ × Value)) Fault) → with_first (ok_then (λ v. (s.name, v)) r) rest ≡ Ok pairs
        → ((others : List (List ℕ × Value)) → rest ≡ Ok others → FillSlots slots others) → FillSlots (s ∷ slots) pairs
    by (Err f) e rest is more = absurd (cc)
    by (Ok v) e (Err f) is more = absurd (cc)
    by (Ok v) e (Ok others) is more =
        let same : (s.name, v) ∷ others ≡ pairs = cc in
        subst (FillSlots (s ∷ slots)) same (refl, value_kind s (given_for given s.name) v (All-head HasItsDefault s slots fine) e, more others refl)

-- a fact that was built has the slots of its template
pub has_its_slots : (templates : Templates) (relation : List ℕ) (parts : PartValues) (fact : FactValue) → AreTemplates templates → built templates relation parts ≡ Ok fact → HasItsSlots templates fact
has_its_slots templates relation parts fact are h = by (slots_of templates relation) refl parts h
  where
    by : (o : Option (List SlotShape)) → slots_of templates relation ≡ o → (parts : PartValues) → built templates relation parts ≡ Ok fact → HasItsSlots templates fact
    by None e (field_values vs) is =
        let made : Ok (ordered_fact relation (spliced vs)) ≡ Ok fact = sym (ap (λ o. built_by relation o (field_values vs)) e) ∙ is in
        let same : ordered_fact relation (spliced vs) ≡ fact = cc in
        subst (HasItsSlots templates) same (subst (λ o. AreSlotsOf o (content.fields (spliced vs))) (sym e) tt)
    by None e (slot_values given) is =
        let bad : built_by relation None (slot_values given) ≡ Ok fact = sym (ap (λ o. built_by relation o (slot_values given)) e) ∙ is in
        absurd (cc)
    by (Some them) e (field_values vs) is =
        let bad : built_by relation (Some them) (field_values vs) ≡ Ok fact = sym (ap (λ o. built_by relation o (field_values vs)) e) ∙ is in
        absurd (cc)
    by (Some them) e (slot_values given) is =
        let made = is_built templates relation them given fact e is in
        let full : FillSlots them made.pairs = filled_slots them given made.pairs (are relation them e).defaults made.filling in
        subst (HasItsSlots templates) made.fact_is (subst (λ o. AreSlotsOf o (content.slots made.pairs)) (sym e) full)

-- other rules
pub rules_kept : (m : Memory) (templates : Templates) (rules : Conditions) (last_rule : ℕ) → AreWellKept m templates
    → AreWellKept (record { network = record { rules = rules; facts = m.network.facts }; last = m.last; last_rule = last_rule }) templates
rules_kept m templates rules last_rule kept = record {
  sound = record { rising = kept.sound.rising; distinct = kept.sound.distinct; none_after = kept.sound.none_after };
  in_range = kept.in_range;
  templates_are = kept.templates_are;
  slots = kept.slots;
}

-- an assertion
pub added_kept : (fact : FactValue) (s : World) → AreWellKept s.memory s.templates → HasItsSlots s.templates fact → AreWellKept (fact_added fact s).state.memory (fact_added fact s).state.templates
added_kept fact s kept right =
    let it = added_stays fact s kept.sound in
    let same : (fact_added fact s).state.templates ≡ s.templates = ap (λ (w : World). w.templates) (adds_alone fact s).changes.only in
    subst (AreWellKept (fact_added fact s).state.memory) (sym same) (record { sound = it.sound; in_range = it.in_range kept.in_range; templates_are = kept.templates_are; slots = λ ix g at. which ix g (it.only ix g at) })
  where
    which : (ix : ℕ) (g : FactValue) → (fact_at s.memory.network.facts ix ≡ Some g) ⊎ (fact ≡ g) → HasItsSlots s.templates g
    which ix g (inl was) = kept.slots ix g was
    which ix g (inr same) = subst (HasItsSlots s.templates) same right

pub asserted_kept : (shape : Shape) (vs : List Value) (s : World) → AreWellKept s.memory s.templates → AreWellKept (asserted shape vs s).state.memory (asserted shape vs s).state.templates
asserted_kept shape vs s kept = by (built s.templates shape.relation (parts_of shape.slots vs)) refl
  where
    by : (r : Result FactValue Fault) → built s.templates shape.relation (parts_of shape.slots vs) ≡ r
        → AreWellKept ((give_or_fault r >>= fact_added) s).state.memory ((give_or_fault r >>= fact_added) s).state.templates
    by (Err f) e = kept
    by (Ok fact) e = added_kept fact s kept (has_its_slots s.templates shape.relation (parts_of shape.slots vs) fact kept.templates_are e)

-- a retraction
pub retracted_kept : (vs : List Value) (s : World) → AreWellKept s.memory s.templates → AreWellKept (retracted vs s).state.memory (retracted vs s).state.templates
retracted_kept vs s kept =
    let it = retracted_takes vs s in
    let same : (retracted vs s).state.templates ≡ s.templates = ap (λ (w : World). w.templates) it.changes.only in
    subst (AreWellKept (retracted vs s).state.memory) (sym same) (record {
      sound = it.sound kept.sound;
      in_range = subst (λ n. n ≤ greatest_index) (sym it.last) kept.in_range;
      templates_are = kept.templates_are;
      slots = λ ix fact at. kept.slots ix fact (it.kept kept.sound ix fact at);
    })

-- no fact that is there has the relation
pub not_first : (s t : Bool) → (s || t) ≡ false → s ≡ false
not_first true t h = absurd (cc)
not_first false t h = refl

not_second : (s t : Bool) → (s || t) ≡ false → t ≡ false
not_second true t h = absurd (cc)
not_second false t h = h

not_named : (facts : IndexedFacts) (name : List ℕ) (ix : ℕ) (fact : FactValue) → list_any (λ entry. bytes_eq entry.1.relation name) facts ≡ false → fact_at facts ix ≡ Some fact
    → bytes_eq fact.relation name ≡ false
not_named [] name ix fact none at = absurd (cc)
not_named ((i, there) ∷ facts) name ix fact none at =
    by (is_at (nat_cmp ix) i) at (not_named facts name ix fact (not_second (bytes_eq there.relation name) (list_any (λ entry. bytes_eq entry.1.relation name) facts) none))
  where
    by : (t : Bool) → cond t (Some there) (fact_at facts ix) ≡ Some fact → (fact_at facts ix ≡ Some fact → bytes_eq fact.relation name ≡ false) → bytes_eq fact.relation name ≡ false
    by true is more =
        let same : there ≡ fact = cc in
        ap (λ (f : FactValue). bytes_eq f.relation name) (sym same) ∙ not_first (bytes_eq there.relation name) (list_any (λ entry. bytes_eq entry.1.relation name) facts) none
    by false is more = more is

-- a definition of a template for a relation that no fact has
pub defined_kept : (m : Memory) (old new : Templates) (name : List ℕ) (them : List SlotShape) → AreWellKept m old → IsTemplate them → slots_of new name ≡ Some them
    → ((other : List ℕ) → (other ≡ name → ⊥) → slots_of new other ≡ slots_of old other) → list_any (λ entry. bytes_eq entry.1.relation name) m.network.facts ≡ false → AreWellKept m new
defined_kept m old new name them kept right here others none = record {
  sound = kept.sound;
  in_range = kept.in_range;
  templates_are = λ relation slots at. template relation slots (bytes_eq relation name) refl at;
  slots = λ ix fact at. by ix fact at;
} where
  differs : (relation : List ℕ) → bytes_eq relation name ≡ false → relation ≡ name → ⊥
  differs relation apart e = let yes : bytes_eq relation name ≡ true = (bytes_decides relation name).1 e in cc

  template : (relation : List ℕ) (slots : List SlotShape) (t : Bool) → bytes_eq relation name ≡ t → slots_of new relation ≡ Some slots → IsTemplate slots
  template relation slots true e at =
      let same : Some them ≡ Some slots = sym here ∙ sym (ap (slots_of new) ((bytes_decides relation name).0 e)) ∙ at in
      let is : them ≡ slots = cc in
      subst IsTemplate is right
  template relation slots false e at = kept.templates_are relation slots (sym (others relation (differs relation e)) ∙ at)

  by : (ix : ℕ) (fact : FactValue) → fact_at m.network.facts ix ≡ Some fact → HasItsSlots new fact
  by ix fact at = subst (λ o. AreSlotsOf o fact.content) (sym (others fact.relation (differs fact.relation (not_named m.network.facts name ix fact none at)))) (kept.slots ix fact at)
