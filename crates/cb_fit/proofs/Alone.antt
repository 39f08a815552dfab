-- Where a pattern fits a fact, what it asks of the fields that it takes alone holds of them.
use Rattle.std.proofs.Common.{◌≡◌, ◌∙◌, ◌+◌, inl, inr, Bool, true, false, ℕ, List, [], ◌∷◌, ◌++◌, Option, None, Some, ap, drop, length, map, refl, subst, sym}
use Rattle.std.proofs.Math.Seq.{drop-append_seam}
use Rattle.std.proofs.lemmas.List.{append_assoc, length-append}
use Rattle.std.specs.List.{flat_map}
use Rattle.std.specs.Option.{option_map_or}
use Rattle.std.specs.Prelude.{if◌then◌else◌}
use Rattle.cb_constraints.specs.Constraints.{Demand, Constraint}
use Rattle.cb_constraints.specs.Holding.{after_demand}
use Rattle.cb_constraints.specs.PatternValues.{PatternParts, SlotValue}
use Rattle.cb_constraints.specs.PatternValues as pattern
use Rattle.cb_exprs.specs.Bindings.{Bindings}
use Rattle.cb_facts.specs.Facts.{FactContent}
use Rattle.cb_facts.specs.Facts as fact
use Rattle.cb_facts.specs.Values.{fields_in, value_of_field}
use Rattle.cb_facts.specs.declared.single.Single.{Single}
use Rattle.cb_facts.specs.declared.value.Value.{Value}
use Rattle.cb_fit.proofs.AllGiven.{Keeps, demand-gives, turn-gives}
use Rattle.cb_fit.proofs.Listed.{Among, among-cases, among-left, among-right}
use Rattle.cb_fit.proofs.Segments.{then-some}
use Rattle.cb_fit.specs.FieldPlaces.{PlacedDemand, field_at, field_value, first_field, placed_at, placed_demands, row_demands, slot_demands}
use Rattle.cb_fit.specs.Related.{HoldInTurn, PartsFit, SlotsFit}
use Rattle.cb_fit.specs.Shapes.{loose_demand, loose_parts, loose_row, loose_slot}
use Rattle.cb_fit.specs.Ways.{segment_value, value_of_one}

-- a constraint for one field took one
one_field : (s : List Single) (v : Value) → value_of_one s ≡ Some v → (f : Single) × (s ≡ f ∷ []) × (value_of_field f ≡ v)
one_field [] v e = absurd (apart e)
  where
    apart : None ≡ Some v → ⊥
    apart d = cc
one_field (f ∷ []) v e = (f, refl, inside e)
  where
    inside : Some (value_of_field f) ≡ Some v → value_of_field f ≡ v
    inside d = cc
one_field (f ∷ g ∷ fs) v e = absurd (apart e)
  where
    apart : None ≡ Some v → ⊥
    apart d = cc

-- a demand holds of a value, where variables have at least the values that they had before
abbrev pub Holds : Demand → Value → Bindings → Type 0
Holds d v before = (mid grown : Bindings) × Keeps before mid × (after_demand d v mid ≡ Some grown)

-- a later demand also holds where variables had less
holds_before : (d : Demand) (v : Value) (before mid : Bindings) → Keeps before mid → Holds d v mid → Holds d v before
holds_before d v before mid keeps h = (h.0, h.1, (λ x w e. h.2 x w (keeps x w e)), h.3)

-- what is asked of a field of a row holds of it, where these are the fields of the row
abbrev RowHolds : Option ℕ → List Single → PlacedDemand → Bindings → Type 0
RowHolds slot fields d before = (v : Value) × (d.place.slot ≡ slot) × (field_at d.place.field fields ≡ Some v) × Holds d.demand v before

row_holds : (slot : Option ℕ) (cs : List Constraint) (ss : List (List Single)) (before after : Bindings) → HoldInTurn cs ss before after
    → (pre : List Single) (n : ℕ) → length pre ≡ n → (d : PlacedDemand) → Among d (row_demands slot n cs)
    → RowHolds slot (pre ++ flat_map (λ s. s) ss) d before
row_holds slot [] ss before after h pre n long d i = absurd i
row_holds slot (c ∷ cs) [] before after h pre n long d i = absurd h
row_holds slot (c ∷ cs) (s ∷ ss) before after h pre n long d i = by_kind (row_holds slot cs ss h.0 after h.2 (pre ++ s) (n + 1)) c.segment refl i
  where
    rest : List Single
    rest = flat_map (λ t. t) ss

    took : (v : Value) × (segment_value c.segment s ≡ Some v) × (after_demand c.demand v before ≡ Some h.0)
    took = then-some (λ v. after_demand c.demand v before) (segment_value c.segment s) h.0 h.1

    at_place : (f : Single) → s ≡ f ∷ [] → value_of_field f ≡ took.0 → field_at n (pre ++ (s ++ rest)) ≡ Some took.0
    at_place f one value =
        ap (λ m. first_field (drop m (pre ++ (s ++ rest)))) (sym long)
        ∙ (ap first_field (drop-append_seam pre (s ++ rest))
        ∙ (ap (λ t. first_field (t ++ rest)) one ∙ ap Some value))

    here : (f : Single) → s ≡ f ∷ [] → value_of_field f ≡ took.0 → RowHolds slot (pre ++ (s ++ rest)) (placed_at slot n c.demand) before
    here f one value = (took.0, refl, at_place f one value, (before, h.0, (λ x w e. e), took.2))

    later : (length (pre ++ s) ≡ n + 1 → (e : PlacedDemand) → Among e (row_demands slot (n + 1) cs) → RowHolds slot ((pre ++ s) ++ rest) e h.0)
        → (f : Single) → s ≡ f ∷ [] → Among d (row_demands slot (n + 1) cs) → RowHolds slot (pre ++ (s ++ rest)) d before
    later more f one k =
        let held =
        subst (λ fs. RowHolds slot fs d h.0) (append_assoc pre s rest)
        (more (length-append pre s ∙ (ap (λ t. length pre + length t) one ∙ ap (λ m. m + 1) long)) d k) in
        (held.0, held.1, held.2, holds_before d.demand held.0 before h.0 (demand-gives c.demand took.0 before h.0 took.2).0 held.3)

    by_kind : (length (pre ++ s) ≡ n + 1 → (e : PlacedDemand) → Among e (row_demands slot (n + 1) cs) → RowHolds slot ((pre ++ s) ++ rest) e h.0)
        → (b : Bool) → c.segment ≡ b → Among d (if b then [] else placed_at slot n c.demand ∷ row_demands slot (n + 1) cs) → RowHolds slot (pre ++ (s ++ rest)) d before
    by_kind more true kind k = absurd k
    by_kind more false kind (inl e) =
        let one = one_field s took.0 (sym (ap (λ b. segment_value b s) kind) ∙ took.1) in
        subst (λ it. RowHolds slot (pre ++ (s ++ rest)) it before) e (here one.0 one.1 one.2)
    by_kind more false kind (inr k) =
        let one = one_field s took.0 (sym (ap (λ b. segment_value b s) kind) ∙ took.1) in
        later more one.0 one.1 k

-- what is asked of a field holds of it in the content of a fact
abbrev pub PlaceHolds : FactContent → PlacedDemand → Bindings → Type 0
PlaceHolds f d before = (v : Value) × (field_value d.place.slot d.place.field f ≡ Some v) × Holds d.demand v before

slots_hold : (rows : List SlotValue) (slots : List (List ℕ × Value)) (cuts : List ℕ) (before after : Bindings) → SlotsFit rows slots cuts before after
    → (d : PlacedDemand) → Among d (flat_map slot_demands rows) → PlaceHolds (fact.slots slots) d before
slots_hold [] slots cuts before after h d i = absurd i
slots_hold (s ∷ rows) slots cuts before after (v, own, others, grown, there, joined, first, more) d i =
    elim (among-cases d (slot_demands s) (flat_map slot_demands rows) i) as (λ _. PlaceHolds (fact.slots slots) d before) [
      | inl k ↦
          let e = row_holds (Some s.place) s.row first.0 before grown first.3 [] 0 refl d k in (
            e.0,
            ap (λ o. field_value o d.place.field (fact.slots slots)) e.1
                ∙ (ap (λ o. option_map_or (λ u. field_at d.place.field (fields_in u)) o None) there
                ∙ (ap (field_at d.place.field) (sym first.1) ∙ e.2)),
            e.3,
          )
      | inr k ↦
          let e = slots_hold rows slots others grown after more d k in
          (e.0, e.1, holds_before d.demand e.0 before grown (turn-gives s.row first.0 before grown first.3).0 e.2)
    ]

pub parts_hold : (p : PatternParts) (f : FactContent) (cuts : List ℕ) (before after : Bindings) → PartsFit p f cuts before after
    → (d : PlacedDemand) → Among d (placed_demands p) → PlaceHolds f d before
parts_hold (pattern.fields row) (fact.fields fs) cuts before after h d i =
    let e = row_holds None row h.0 before after h.3 [] 0 refl d i in
    (e.0, ap (λ o. field_value o d.place.field (fact.fields fs)) e.1 ∙ (ap (field_at d.place.field) (sym h.1) ∙ e.2), e.3)
parts_hold (pattern.fields row) (fact.slots ss) cuts before after h d i = absurd h
parts_hold (pattern.slots rows) (fact.fields fs) cuts before after h d i = absurd h
parts_hold (pattern.slots rows) (fact.slots ss) cuts before after h d i = slots_hold rows ss cuts before after h d i

-- the same field without the variables and expressions that are asked of it
abbrev pub loose_placed : PlacedDemand → PlacedDemand
loose_placed d = record { place = d.place; demand = loose_demand d.demand }

row_loose : (slot : Option ℕ) (n : ℕ) (cs : List Constraint) (d : PlacedDemand) → Among d (row_demands slot n cs) → Among (loose_placed d) (row_demands slot n (loose_row cs))
row_loose slot n [] d i = absurd i
row_loose slot n (c ∷ cs) d i = by_kind (row_loose slot (n + 1) cs d) c.segment i
  where
    by_kind : (Among d (row_demands slot (n + 1) cs) → Among (loose_placed d) (row_demands slot (n + 1) (loose_row cs)))
        → (b : Bool) → Among d (if b then [] else placed_at slot n c.demand ∷ row_demands slot (n + 1) cs)
        → Among (loose_placed d) (if b then [] else placed_at slot n (loose_demand c.demand) ∷ row_demands slot (n + 1) (loose_row cs))
    by_kind more true k = absurd k
    by_kind more false (inl e) = inl (ap loose_placed e)
    by_kind more false (inr k) = inr (more k)

slots_loose : (rows : List SlotValue) (d : PlacedDemand) → Among d (flat_map slot_demands rows) → Among (loose_placed d) (flat_map slot_demands (map loose_slot rows))
slots_loose [] d i = absurd i
slots_loose (s ∷ rows) d i =
    elim (among-cases d (slot_demands s) (flat_map slot_demands rows) i) as (λ _. Among (loose_placed d) (flat_map slot_demands (map loose_slot (s ∷ rows)))) [
      | inl k ↦ among-left (loose_placed d) (slot_demands (loose_slot s)) (flat_map slot_demands (map loose_slot rows)) (row_loose (Some s.place) 0 s.row d k)
      | inr k ↦ among-right (loose_placed d) (slot_demands (loose_slot s)) (flat_map slot_demands (map loose_slot rows)) (slots_loose rows d k)
    ]

-- the pattern without its variables and expressions takes the same fields alone
pub parts_loose : (p : PatternParts) (d : PlacedDemand) → Among d (placed_demands p) → Among (loose_placed d) (placed_demands (loose_parts p))
parts_loose (pattern.fields row) d i = row_loose None 0 row d i
parts_loose (pattern.slots rows) d i = slots_loose rows d i
