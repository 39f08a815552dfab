-- Patterns that are decided by values: what a way gives, and where there is one.
use Rattle.std.proofs.Common.{◌≡◌, ◌≢◌, ◌∙◌, ◌↔◌, ◌+◌, ◌++◌, ℕ, Bool, true, false, not, List, [], ◌∷◌, Option, Some, None, ap, ap₂, cond, inl, inr, map, refl, subst, sym}
use Rattle.std.proofs.lemmas.Bool.{and_from, and_parts}
use Rattle.std.specs.Rc.{rc_value}
use Rattle.std.specs.Str.{bytes_eq}
use Rattle.cb_alpha.specs.JoinValues.{field_values, variable_values, with_first}
use Rattle.cb_beta.specs.GivenValues.{values_taken}
use Rattle.cb_beta.specs.TakenFields.{TakenFieldsValue}
use Rattle.cb_constraints.specs.Binders.{binders, constraints_in}
use Rattle.cb_constraints.specs.Bound.{given_if}
use Rattle.cb_constraints.specs.Constraints.{Constraint}
use Rattle.cb_constraints.specs.PatternValues.{PatternParts, PatternValue, SlotValue}
use Rattle.cb_constraints.specs.PatternValues as pattern
use Rattle.cb_exprs.specs.Bindings.{Bindings, value_at, with_variables}
use Rattle.cb_exprs.specs.Terms.{Term, term_of}
use Rattle.cb_facts.specs.Facts.{FactContent, FactValue}
use Rattle.cb_facts.specs.declared.value.Value.{Value}
use Rattle.cb_fit.specs.Comparisons.{choice_fields, compared_fields, conditions, is_decided}
use Rattle.cb_fit.specs.Decided.{AgreeWith, AreMet, AreOneOf, HoldOf, ValuesDecide, is_met, taken_by, taken_by_all, way_by_values}
use Rattle.cb_fit.specs.FieldPlaces.{PlacedDemand, placed_at, placed_demands, row_demands, slot_demands}
use Rattle.cb_fit.specs.JoinFields.{demand_join_fields, first_fields, giving_fields, join_fields, value_in}
use Rattle.cb_fit.specs.Plain.{bound_names, is_named}
use Rattle.cb_fit.specs.Shapes.{is_selected}
use Rattle.cb_fit.specs.Ways.{WayValue, ways}
use Rattle.cb_fit.specs.declared.comparison.ComparedField.{ComparedField}
use Rattle.cb_fit.specs.declared.field_place.FieldPlace.{FieldPlace}
use Rattle.cb_fit.specs.declared.join_fields.JoinField.{JoinField}
use Rattle.cb_join_node.proofs.Agreement.{both_there, past_address}
use Rattle.cb_join_node.specs.Meetings.{Meet}
use Rattle.cb_join_node.specs.declared.by_values.ByValues.{ByValues}
use Rattle.cb_join_node.specs.declared.joining.Joining.{Joining}
use Rattle.cb_matches.proofs.Lists.{filter_in, flat_in, in_filter, in_flat, in_map}
use Rattle.cb_matches.proofs.Lists as lists
use Rattle.cb_matches.specs.Chains.{In}
use Rattle.cb_matches.specs.Matches.{Partial, grown, test_holds, with_address}
use Rattle.cb_nodes.specs.Flat.{all_hold}
use Rattle.cb_scopes.proofs.Comparing.{all_so, so_all}
use Rattle.cb_scopes.specs.Compared.{all_compare}
use Rattle.cb_scopes.proofs.Decided.{in_named, named_in}
use Rattle.cb_scopes.specs.Decided.{known_fields, unknown_fields}
use Rattle.cb_scopes.specs.Scopes.{HasValuesOf, Scope}

some_value : (o : Option Value) → o ≢ None → (v : Value) × (o ≡ Some v)
some_value None h = absurd (h refl)
some_value (Some v) h = (v, refl)

no_value : (o : Option Value) → (o ≢ None → ⊥) → o ≡ None
no_value None h = refl
no_value (Some v) h = absurd (h (λ e. apart e))
  where
    apart : Some v ≡ None → ⊥
    apart d = cc

not_both : (b : Bool) → b ≡ true → b ≡ false → ⊥
not_both true t f = cc
not_both false t f = cc

-- the fields that a row asks alone are of its constraints
row_in : (slot : Option ℕ) (n : ℕ) (cs : List Constraint) (d : PlacedDemand) → In d (row_demands slot n cs) → (c : Constraint) × In c cs × (d.demand ≡ c.demand)
row_in slot n [] d h = absurd h
row_in slot n (c ∷ cs) d h = by (row_in slot (n + 1) cs d) c.segment h
  where
    by : (In d (row_demands slot (n + 1) cs) → (k : Constraint) × In k cs × (d.demand ≡ k.demand)) → (t : Bool) → In d (cond t [] (placed_at slot n c.demand ∷ row_demands slot (n + 1) cs))
        → (k : Constraint) × In k (c ∷ cs) × (d.demand ≡ k.demand)
    by others true i = absurd i
    by others false (inl e) = (c, inl refl, ap (λ (it : PlacedDemand). it.demand) e)
    by others false (inr i) = let more = others i in (more.0, inr more.1, more.2)

placed_in : (p : PatternParts) (d : PlacedDemand) → In d (placed_demands p) → (c : Constraint) × In c (constraints_in p) × (d.demand ≡ c.demand)
placed_in (pattern.fields row) d h = row_in None 0 row d h
placed_in (pattern.slots rows) d h =
    let s = in_flat slot_demands d rows h in
    let c = row_in (Some s.0.place) 0 s.0.row d s.2 in
    (c.0, flat_in (λ (it : SlotValue). it.row) c.0 rows s.0 s.1 c.1, c.2)

abbrev field_of : FieldPlace → List ℕ → JoinField
field_of at x = record { variable = x; slot = at.slot; field = at.field }

-- the variable of a join field is one of the pattern's
pub join_named : (p : PatternValue) (j : JoinField) → In j (join_fields p.parts) → is_named j.variable (bound_names p) ≡ true
join_named p j h =
    let d = in_flat demand_join_fields j (placed_demands p.parts) h in
    let x = in_map (field_of d.0.place) j (binders d.0.demand) d.2 in
    let c = placed_in p.parts d.0 d.1 in
    let here : In x.0 (binders c.0.demand) = subst (λ it. In x.0 (binders it)) c.2 x.1 in
    let there : In x.0 (bound_names p) = flat_in (λ (it : Constraint). binders it.demand) x.0 (constraints_in p.parts) c.0 c.1 here in
    in_named j.variable (bound_names p) (subst (λ it. In it (bound_names p)) (sym (ap (λ (it : JoinField). it.variable) x.2)) there)

-- fields and variables that have the same values have the same one by one
pub same_values_at : (js : List JoinField) (before : Bindings) (content : FactContent) (vs : List Value) → variable_values js before ≡ Some vs → field_values js content ≡ Some vs
    → (j : JoinField) → In j js → value_at j.variable before.variables ≡ value_in j content
same_values_at [] before content vs e d j h = absurd h
same_values_at (i ∷ js) before content vs e d j h =
    let a = both_there (value_at i.variable before.variables) (variable_values js before) vs e in
    let b = both_there (value_in i content) (field_values js content) vs d in
    let whole : a.v ∷ a.us ≡ b.v ∷ b.us = sym a.are ∙ b.are in
    let first : a.v ≡ b.v = cc in
    let rest : b.us ≡ a.us = cc in
    elim h as (λ _. value_at j.variable before.variables ≡ value_in j content) [
      | inl is ↦
          subst (λ (it : JoinField). value_at it.variable before.variables ≡ value_in it content) (sym is)
          (a.first_is ∙ (ap Some first ∙ sym b.first_is))
      | inr k ↦ same_values_at js before content a.us a.others_are (b.others_are ∙ ap Some rest) j k
    ]

-- variables that are known have values
pub all_known : (names : Scope) (m : Partial) → HasValuesOf names m → (js : List JoinField) → (vs : List Value) × (variable_values (known_fields js names) m.env ≡ Some vs)
all_known names m scope [] = ([], refl)
all_known names m scope (j ∷ js) = by (is_named j.variable names) refl (all_known names m scope js)
  where
    by : (t : Bool) → is_named j.variable names ≡ t → ((vs : List Value) × (variable_values (known_fields js names) m.env ≡ Some vs))
        → (vs : List Value) × (variable_values (cond t (j ∷ known_fields js names) (known_fields js names)) m.env ≡ Some vs)
    by true e (vs, is) =
        let v = some_value (value_at j.variable m.env.variables) ((scope j.variable).1 (named_in j.variable names e)) in
        (v.0 ∷ vs, ap₂ with_first v.1 is)
    by false e more = more

-- of several fields with one variable the first is one of them
first_in : (js : List JoinField) (j : JoinField) → In j (first_fields js) → In j js
first_in [] j h = absurd h
first_in (i ∷ js) j (inl is) = inl is
first_in (i ∷ js) j (inr h) = inr (first_in js j (in_filter (λ (k : JoinField). not (bytes_eq i.variable k.variable)) j (first_fields js) h).0)

-- what a way gives is what the unknown fields have
given_some : (x : List ℕ) (v : Value) (o : Option Value) → given_if x (Some v) o ≡ []
given_some x v None = refl
given_some x v (Some w) = refl

taken_same : (js : List JoinField) (before : Bindings) (content : FactContent) (names : Scope) → ((j : JoinField) → In j js → (value_at j.variable before.variables ≢ None) ↔ In j.variable names)
    → taken_by_all js before content ≡ values_taken (unknown_fields js names) content
taken_same [] before content names so = refl
taken_same (j ∷ js) before content names so = by (is_named j.variable names) refl (taken_same js before content names (λ i h. so i (inr h)))
  where
    by : (t : Bool) → is_named j.variable names ≡ t → taken_by_all js before content ≡ values_taken (unknown_fields js names) content
        → taken_by before content j ++ taken_by_all js before content ≡ values_taken (cond (not t) (j ∷ unknown_fields js names) (unknown_fields js names)) content
    by true e more =
        let v = some_value (value_at j.variable before.variables) ((so j (inl refl)).1 (named_in j.variable names e)) in
        ap (λ it. it ++ taken_by_all js before content) (ap (λ o. given_if j.variable o (value_in j content)) v.1 ∙ given_some j.variable v.0 (value_in j content)) ∙ more
    by false e more =
        let none = no_value (value_at j.variable before.variables) (λ some. not_both (is_named j.variable names) (in_named j.variable names ((so j (inl refl)).0 some)) e) in
        ap₂ (λ (xs ys : List (List ℕ × Value)). xs ++ ys) (ap (λ o. given_if j.variable o (value_in j content)) none) more

-- the law of patterns that are decided by values
pub record DecidedByValues : Type 0 where
  pub fits : (p : PatternValue) (f : FactValue) (before : Bindings) → is_decided p ≡ true → (ways p f before ≢ []) ↔ ((is_selected p f ≡ true) × ValuesDecide p before f.content)
  pub way : (p : PatternValue) (f : FactValue) (before : Bindings) → is_decided p ≡ true → is_selected p f ≡ true → ValuesDecide p before f.content
      → ways p f before ≡ way_by_values p before f.content ∷ []

no_ways : (ws : List WayValue) → (ws ≢ [] → ⊥) → ws ≡ []
no_ways [] h = refl
no_ways (w ∷ ws) h = absurd (h (λ e. apart e))
  where
    apart : w ∷ ws ≡ [] → ⊥
    apart d = cc

-- tests one by one
each_holds : (ts : List Term) (m : Partial) → all_hold ts m ≡ true → (t : Term) → In t ts → test_holds t m.env ≡ true
each_holds [] m e t h = absurd h
each_holds (u ∷ ts) m e t (inl is) = ap (λ it. test_holds it m.env) is ∙ (and_parts (test_holds u m.env) (all_hold ts m) e).0
each_holds (u ∷ ts) m e t (inr h) = each_holds ts m (and_parts (test_holds u m.env) (all_hold ts m) e).1 t h

all_are : (ts : List Term) (m : Partial) → ((t : Term) → In t ts → test_holds t m.env ≡ true) → all_hold ts m ≡ true
all_are [] m h = refl
all_are (u ∷ ts) m h = and_from (test_holds u m.env) (all_hold ts m) (h u (inl refl)) (all_are ts m (λ t i. h t (inr i)))

abbrev way_with : List ℕ → List (List ℕ × Value) → WayValue
way_with cuts bound = record { cuts = cuts; bound = bound }

-- a partial match and a fact that meet
module _ {T : Type 0} (law : DecidedByValues) (asked : Joining T) (by : ByValues) (m : Partial) (f : ℕ × FactValue) (meet : Meet asked by m f) where
  abbrev p : PatternValue
  p = asked.pattern

  abbrev js : List JoinField
  js = join_fields p.parts

  abbrev cs : List ComparedField
  cs = compared_fields p.parts

  abbrev content : FactContent
  content = f.1.content

  abbrev before : Bindings
  before = with_address asked.address f.0 m.env

  -- the address is the value of no variable that is asked
  join_apart : (j : JoinField) → In j js → value_at j.variable before.variables ≡ value_at j.variable m.env.variables
  join_apart j h = past_address asked.address f.0 m.env j.variable (λ e. not_both (is_named j.variable (bound_names p)) (join_named p j h) (meet.is.address j.variable e).0)

  compared_apart : (c : ComparedField) → In c cs → value_at c.variable before.variables ≡ value_at c.variable m.env.variables
  compared_apart c h = past_address asked.address f.0 m.env c.variable (λ e. (meet.is.address c.variable e).1 c h refl)

  agree : AgreeWith js before content
  agree j i v e =
      let h : In j js = lists.contains_in j js i in
      let here : value_at j.variable m.env.variables ≡ Some v = sym (join_apart j h) ∙ e in
      let known : In j.variable meet.names = (meet.scope j.variable).0 (λ none. there_is v (sym here ∙ none)) in
      let member : In j (known_fields js meet.names) = filter_in (λ (it : JoinField). is_named it.variable meet.names) j js h (in_named j.variable meet.names known) in
      sym (same_values_at asked.fields.items m.env content meet.values meet.asks meet.has j (subst (In j) (sym meet.is.fields) member)) ∙ here
    where
      there_is : (w : Value) → Some w ≡ None → ⊥
      there_is w d = cc

  one_of : AreOneOf (choice_fields p.parts) before content
  one_of = subst (λ it. AreOneOf it before content) (sym meet.is.unchosen) (λ c i. absurd (lists.contains_in c [] i))

  hold : all_compare by.compared.items m.env content ≡ true → HoldOf cs before content
  hold e c i =
      let h : In c cs = lists.contains_in c cs i in
      let is = all_so cs m.env content (ap (λ it. all_compare it m.env content) (sym meet.is.compared) ∙ e) c h in
      (is.0, is.1, is.2, compared_apart c h ∙ is.3, is.4)

  held : HoldOf cs before content → all_compare by.compared.items m.env content ≡ true
  held hs =
      ap (λ it. all_compare it m.env content) meet.is.compared
      ∙ so_all cs m.env content (λ c h. let is = hs c (lists.in_contains c cs h) in (is.0, is.1, is.2, sym (compared_apart c h) ∙ is.3, is.4))

  -- what a way gives, if it gives what the fields have
  abbrev GivesFields : WayValue → Type 0
  GivesFields way = way.bound ≡ values_taken (rc_value {X = TakenFieldsValue} by.taken).fields content

  bound_is : (way : WayValue) → GivesFields way → (way_by_values p before content).bound ≡ way.bound
  bound_is way bound =
      let gs = giving_fields p.parts in
      let given : taken_by_all gs before content ≡ values_taken (unknown_fields gs meet.names) content =
      taken_same gs before content meet.names (λ j h. subst (λ o. (o ≢ None) ↔ In j.variable meet.names) (sym (join_apart j (first_in js j h))) (meet.scope j.variable)) in
      given ∙ sym (bound ∙ ap (λ it. values_taken it content) meet.is.taken)

  -- the conditions hold where they do behind the pattern
  abbrev they_hold : WayValue → Bool
  they_hold way = all_hold (map term_of by.conditions.items) (grown asked.address f.0 m way)

  met : (way : WayValue) → GivesFields way → they_hold way ≡ true → AreMet p before content
  met way bound holds t i =
      ap (λ it. is_met (with_variables it before) t) (bound_is way bound)
      ∙ each_holds (conditions p.parts) (grown asked.address f.0 m way) (ap (λ ts. all_hold ts (grown asked.address f.0 m way)) (sym meet.is.conditional) ∙ holds) t (lists.contains_in t (conditions p.parts) i)

  met_so : (way : WayValue) → GivesFields way → AreMet p before content → they_hold way ≡ true
  met_so way bound is =
      ap (λ ts. all_hold ts (grown asked.address f.0 m way)) meet.is.conditional
      ∙ all_are (conditions p.parts) (grown asked.address f.0 m way)
      (λ t h. ap (λ it. is_met (with_variables it before) t) (sym (bound_is way bound)) ∙ is t (lists.in_contains t (conditions p.parts) h))

  -- the only way
  pub the_way : (way : WayValue) → all_compare by.compared.items m.env content ≡ true → way.cuts ≡ (rc_value {X = TakenFieldsValue} by.taken).cuts → GivesFields way → they_hold way ≡ true
      → ways p f.1 before ≡ way ∷ []
  the_way way e cuts bound holds =
      law.way p f.1 before meet.is.decided meet.selected (agree, hold e, one_of, met way bound holds)
      ∙ ap (λ it. it ∷ []) (ap₂ way_with (sym (cuts ∙ meet.is.cuts)) (bound_is way bound))

  -- and where there is none
  pub no_way : all_compare by.compared.items m.env content ≡ false → ways p f.1 before ≡ []
  no_way e = no_ways (ways p f.1 before) (λ some. not_both (all_compare by.compared.items m.env content) (held ((law.fits p f.1 before meet.is.decided).0 some).1.1) e)

  pub none_met : (way : WayValue) → GivesFields way → they_hold way ≡ false → ways p f.1 before ≡ []
  none_met way bound e = no_ways (ways p f.1 before) (λ some. not_both (they_hold way) (met_so way bound ((law.fits p f.1 before meet.is.decided).0 some).1.3) e)
