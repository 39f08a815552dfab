-- What `assert` and `retract` do to the facts once their arguments have values.
use Rattle.std.proofs.Common.{◌≡◌, ◌∙◌, ℕ, ℤ, true, List, [], ◌∷◌, Option, Some, None, Result, Ok, Err, map, refl, sym, ap}
use Rattle.cb_actions.specs.Actions.{carried, carried_values}
use Rattle.cb_actions.specs.Acts.{after_writing, follow, give_or_fault, stop, ◌>>=◌}
use Rattle.cb_actions.specs.Effects.{each_given, fact_added, asserted, is_retractable, modified, parts_of, retracted}
use Rattle.cb_actions.specs.Laws.{with_answer}
use Rattle.cb_actions.specs.Worlds.{World}
use Rattle.cb_actions.specs.declared.act.EarlyEnd.{EarlyEnd}
use Rattle.cb_actions.specs.declared.act.EarlyEnd.TheVariants as ended
use Rattle.cb_actions.specs.declared.act.Limit.TheVariants.{Numbers}
use Rattle.cb_exprs.specs.Shapes.{Shape, SlotCounts}
use Rattle.cb_exprs.specs.Terms.{Terms, effect}
use Rattle.cb_exprs.specs.declared.effect.Effect.TheVariants as kind
use Rattle.cb_facts.specs.FactLists.{fact_at}
use Rattle.cb_facts.specs.Facts.{FactValue}
use Rattle.cb_facts.specs.declared.value.Value.{Value}
use Rattle.cb_facts.specs.declared.value.Value.TheVariants as value
use Rattle.cb_forms.specs.declared.fault.Fault.{Fault}
use Rattle.cb_laws.proofs.AssertLaws.{adds_alone, is_there}
use Rattle.cb_laws.specs.Firing.{IsProper}
use Rattle.cb_laws.specs.Memories.{AreAsserted, ChangesFactsOnly, IsSound, IsUnwatched}
use Rattle.cb_laws.specs.Naming.{names_fact}
use Rattle.cb_templates.specs.Building.{built, field_values, slot_values}

-- an assertion, by whether the fact has a fault
module _ (shape : Shape) (vs : List Value) (s : World) where
  pub is_asserted : (fact : FactValue) → built s.templates shape.relation (parts_of shape.slots vs) ≡ Ok fact → asserted shape vs s ≡ fact_added fact s
  is_asserted fact made = ap (λ r. (give_or_fault r >>= fact_added) s) made

  pub is_refused : (f : Fault) → built s.templates shape.relation (parts_of shape.slots vs) ≡ Err f → asserted shape vs s ≡ stop (ended.Fault f) s
  is_refused f h = ap (λ r. (give_or_fault r >>= fact_added) s) h

  pub address_there : (fact : FactValue) (answer : Option Value) → IsSound s.memory → built s.templates shape.relation (parts_of shape.slots vs) ≡ Ok fact → (asserted shape vs s).answer ≡ Ok answer
      → (ix : ℕ) × (answer ≡ Some (value.Fact ix)) × (fact_at (asserted shape vs s).state.memory.network.facts ix ≡ Some fact)
  address_there fact answer sound made h =
      let same = is_asserted fact made in
      let it = is_there fact s answer sound (sym (ap (λ e. e.answer) same) ∙ h) in
      (it.0, it.1, ap (λ e. fact_at e.state.memory.network.facts it.0) same ∙ it.2)

  pub one_asserted : (fact : FactValue) (answer : Option Value) → built s.templates shape.relation (parts_of shape.slots vs) ≡ Ok fact → (asserted shape vs s).answer ≡ Ok answer
      → AreAsserted s (fact ∷ []) (asserted shape vs s).state
  one_asserted fact answer made h =
      let same = is_asserted fact made in
      (answer, sym (ap (λ e. e.answer) same) ∙ h, sym (ap (λ e. e.state) same))

  pub limit_only : (fact : FactValue) (e : EarlyEnd) → built s.templates shape.relation (parts_of shape.slots vs) ≡ Ok fact → (asserted shape vs s).answer ≡ Err e → e ≡ ended.Limit Numbers
  limit_only fact e made h = (adds_alone fact s).limit e (sym (ap (λ it. it.answer) (is_asserted fact made)) ∙ h)

  pub asserts_only : ChangesFactsOnly s (asserted shape vs s).state
  asserts_only = by (built s.templates shape.relation (parts_of shape.slots vs))
    where
      by : (r : Result FactValue Fault) → ChangesFactsOnly s ((give_or_fault r >>= fact_added) s).state
      by (Err f) = record { only = refl; rules = refl; last_rule = refl }
      by (Ok fact) = (adds_alone fact s).changes

  pub asserts_proper : IsProper s.agenda → IsProper (asserted shape vs s).state.agenda
  asserts_proper p = by (built s.templates shape.relation (parts_of shape.slots vs))
    where
      by : (r : Result FactValue Fault) → IsProper ((give_or_fault r >>= fact_added) s).state.agenda
      by (Err f) = p
      by (Ok fact) = (adds_alone fact s).proper p

  pub asserts_quietly : IsUnwatched s → (asserted shape vs s).written ≡ []
  asserts_quietly h = by (built s.templates shape.relation (parts_of shape.slots vs))
    where
      by : (r : Result FactValue Fault) → ((give_or_fault r >>= fact_added) s).written ≡ []
      by (Err f) = refl
      by (Ok fact) = (adds_alone fact s).quiet h

-- a command, by how its arguments end
module _ (ts : Terms) (s : World) where
  pub assert_acts : (shape : Shape) (vs : List Value) → (carried_values None [] ts s).answer ≡ Ok vs
      → carried (effect (kind.Assert shape) ts) s ≡ after_writing (carried_values None [] ts s).written (asserted shape vs (carried_values None [] ts s).state)
  assert_acts shape vs h = ap (λ r. follow (carried_values None [] ts s).state (carried_values None [] ts s).written r (asserted shape)) h

  pub assert_ends : (shape : Shape) (e : EarlyEnd) → (carried_values None [] ts s).answer ≡ Err e → carried (effect (kind.Assert shape) ts) s ≡ with_answer (carried_values None [] ts s) (Err e)
  assert_ends shape e h = ap (λ r. follow (carried_values None [] ts s).state (carried_values None [] ts s).written r (asserted shape)) h

  pub retract_acts : (vs : List Value) → (carried_values None [] ts s).answer ≡ Ok vs
      → carried (effect kind.Retract ts) s ≡ after_writing (carried_values None [] ts s).written (retracted vs (carried_values None [] ts s).state)
  retract_acts vs h = ap (λ r. follow (carried_values None [] ts s).state (carried_values None [] ts s).written r retracted) h

  pub retract_ends : (e : EarlyEnd) → (carried_values None [] ts s).answer ≡ Err e → carried (effect kind.Retract ts) s ≡ with_answer (carried_values None [] ts s) (Err e)
  retract_ends e h = ap (λ r. follow (carried_values None [] ts s).state (carried_values None [] ts s).written r retracted) h

  pub modify_acts : (slots : SlotCounts) (vs : List Value) → (carried_values None [] ts s).answer ≡ Ok vs
      → carried (effect (kind.Modify slots) ts) s ≡ after_writing (carried_values None [] ts s).written (modified slots vs (carried_values None [] ts s).state)
  modify_acts slots vs h = ap (λ r. follow (carried_values None [] ts s).state (carried_values None [] ts s).written r (modified slots)) h

  pub modify_ends : (slots : SlotCounts) (e : EarlyEnd) → (carried_values None [] ts s).answer ≡ Err e → carried (effect (kind.Modify slots) ts) s ≡ with_answer (carried_values None [] ts s) (Err e)
  modify_ends slots e h = ap (λ r. follow (carried_values None [] ts s).state (carried_values None [] ts s).written r (modified slots)) h

-- what names a fact, and every integer, may be retracted
pub named_taken : (ix : ℕ) (v : Value) → names_fact ix v ≡ true → is_retractable v ≡ true
named_taken ix (value.Fact i) h = refl
named_taken ix (value.Int n) h = refl
named_taken ix (value.Symbol name) h = h
named_taken ix (value.Str bytes) h = absurd (cc)
named_taken ix (value.Multi fields) h = absurd (cc)

pub index_taken : (n : ℤ) → is_retractable (value.Int n) ≡ true
index_taken n = refl

-- the values of a fact's expressions
pub fields_given : (vs : List Value) → parts_of None vs ≡ field_values vs
fields_given vs = refl

each_is_given : (given : List (List ℕ × Value)) → each_given (map (λ g. g.0) given) (map (λ g. g.1) given) ≡ map (λ g. (g.0, g.1 ∷ [])) given
each_is_given [] = refl
each_is_given (g ∷ given) = ap (λ them. (g.0, g.1 ∷ []) ∷ them) (each_is_given given)

pub slots_given : (given : List (List ℕ × Value)) → parts_of (Some (map (λ g. g.0) given)) (map (λ g. g.1) given) ≡ slot_values (map (λ g. (g.0, g.1 ∷ [])) given)
slots_given given = ap slot_values (each_is_given given)
