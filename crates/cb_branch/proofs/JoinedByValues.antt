-- Patterns that are decided by values: the fields with variables that have values before.
use Rattle.std.proofs.Common.{◌≡◌, ◌≢◌, ◌∙◌, ◌∷◌, ◌+◌, ◌||◌, inl, inr, ℕ, true, false, cond, not, List, [], Option, Some, None, refl, sym, ap, subst}
use Rattle.std.proofs.lemmas.List.Elements.{filter_agree}
use Rattle.std.specs.Cmp.Lexicographic.{bytes_decides}
use Rattle.std.specs.List.{filter, list_any}
use Rattle.std.specs.Str.{bytes_eq}
use Rattle.cb_branch.proofs.BoundNames.{in_named, never, or_true, same_bytes, same_named}
use Rattle.cb_branch.specs.Internal.Bounds.{AreSame}
use Rattle.cb_branch.specs.Internal.ByValues.{IsElsewhere, is_own}
use Rattle.cb_constraints.specs.Binders.{binders, constraints_in}
use Rattle.cb_constraints.specs.Constraints.{Constraint}
use Rattle.cb_constraints.specs.PatternValues.{PatternParts, PatternValue, SlotValue}
use Rattle.cb_constraints.specs.PatternValues as pattern
use Rattle.cb_fit.specs.Comparisons.{compared_fields}
use Rattle.cb_fit.specs.FieldPlaces.{PlacedDemand, placed_at, placed_demands, row_demands, slot_demands}
use Rattle.cb_fit.specs.JoinFields.{demand_join_fields, giving_fields, join_fields}
use Rattle.cb_fit.specs.Plain.{bound_names, is_named}
use Rattle.cb_fit.specs.declared.comparison.ComparedField.{ComparedField}
use Rattle.cb_fit.specs.declared.join_fields.JoinField.{JoinField}
use Rattle.cb_join_node.specs.Nodes.{IsByValues}
use Rattle.cb_join_node.specs.declared.by_values.ByValues.{ByValues}
use Rattle.cb_join_node.specs.declared.joining.Joining.{Joining}
use Rattle.cb_lookup_node.specs.LookupNodes.{AsksBy, IsLookup, looking_of}
use Rattle.cb_lookup_node.specs.declared.node.LookupNode.{LookupNode}
use Rattle.cb_matches.proofs.Lists.{by_test, flat_in, in_contains, in_filter, in_flat, in_map}
use Rattle.cb_matches.specs.Chains.{In}
use Rattle.cb_nodes.specs.Patterns.{AreJoinFields}
use Rattle.cb_scopes.specs.Decided.{known_fields, unknown_fields}
use Rattle.cb_scopes.specs.Scopes.{Scope}

-- the fields are the same where the variables with values are
known_same : (js : List JoinField) (us bs : Scope) → AreSame us bs → known_fields js us ≡ known_fields js bs
known_same js us bs same = filter_agree (λ (j : JoinField). is_named j.variable us) (λ (j : JoinField). is_named j.variable bs) (λ j. same_named us bs same j.variable) js

unknown_same : (js : List JoinField) (us bs : Scope) → AreSame us bs → unknown_fields js us ≡ unknown_fields js bs
unknown_same js us bs same = filter_agree (λ (j : JoinField). not (is_named j.variable us)) (λ (j : JoinField). not (is_named j.variable bs)) (λ j. ap not (same_named us bs same j.variable)) js

module _ {T : Type 0} where
  pub by_values_same : (us bs : Scope) (asked : Joining T) (by : ByValues) → AreSame us bs → IsByValues us asked by → IsByValues bs asked by
  by_values_same us bs asked by same is = record {
    decided = is.decided;
    unchosen = is.unchosen;
    fields = is.fields ∙ known_same (join_fields asked.pattern.parts) us bs same;
    taken = is.taken ∙ unknown_same (giving_fields asked.pattern.parts) us bs same;
    compared = is.compared;
    conditional = is.conditional;
    cuts = is.cuts;
    address = is.address;
  }

  pub lookup_same : (us bs : Scope) (node : LookupNode T) → AreSame us bs → IsLookup us node → IsLookup bs node
  lookup_same us bs node same is = record {
    decided = is.decided;
    unchosen = is.unchosen;
    unconditional = is.unconditional;
    asks = subst (λ (it : List JoinField). AsksBy (looking_of node.sight.value) node.fields.items it (compared_fields node.pattern.parts)) (known_same (join_fields node.pattern.parts) us bs same) is.asks;
  }

-- what is asked of a field that is taken alone is what a constraint asks
row_asks : (slot : Option ℕ) (n : ℕ) (cs : List Constraint) (d : PlacedDemand) → In d (row_demands slot n cs) → (c : Constraint) × In c cs × (d.demand ≡ c.demand)
row_asks slot n [] d h = absurd h
row_asks slot n (c ∷ cs) d h = by_test c.segment
    (λ t. absurd (subst (In d) (ap (λ b. cond b [] (placed_at slot n c.demand ∷ row_demands slot (n + 1) cs)) t) h))
    (λ f. go (λ i. row_asks slot (n + 1) cs d i) (subst (In d) (ap (λ b. cond b [] (placed_at slot n c.demand ∷ row_demands slot (n + 1) cs)) f) h))
  where
    go : (In d (row_demands slot (n + 1) cs) → (e : Constraint) × In e cs × (d.demand ≡ e.demand)) → In d (placed_at slot n c.demand ∷ row_demands slot (n + 1) cs)
        → (e : Constraint) × In e (c ∷ cs) × (d.demand ≡ e.demand)
    go rest (inl is) = (c, inl refl, ap (λ (it : PlacedDemand). it.demand) is)
    go rest (inr i) = let found = rest i in (found.0, inr found.1, found.2)

parts_ask : (p : PatternParts) (d : PlacedDemand) → In d (placed_demands p) → (c : Constraint) × In c (constraints_in p) × (d.demand ≡ c.demand)
parts_ask (pattern.fields row) d h = row_asks None 0 row d h
parts_ask (pattern.slots rows) d h =
    let (s, there, within) = in_flat slot_demands d rows h in
    let (c, asked, is) = row_asks (Some s.place) 0 s.row d within in
    (c, flat_in (λ (it : SlotValue). it.row) c rows s there asked, is)

-- so the variables of the fields are among those to which the pattern may give values
field_bound : (p : PatternValue) (j : JoinField) → In j (join_fields p.parts) → In j.variable (bound_names p)
field_bound p j h =
    let (d, placed, own) = in_flat demand_join_fields j (placed_demands p.parts) h in
    let (c, asked, demand_is) = parts_ask p.parts d placed in
    let (x, among, is) = in_map (λ (y : List ℕ). record { variable = y; slot = d.place.slot; field = d.place.field }) j (binders d.demand) own in
    let variable_is : j.variable ≡ x = ap (λ (it : JoinField). it.variable) is in
    flat_in (λ (it : Constraint). binders it.demand) j.variable (constraints_in p.parts) c asked
    (subst (λ (it : List (List ℕ)). In j.variable it) (ap binders demand_is) (subst (λ (y : List ℕ). In y (binders d.demand)) (sym variable_is) among))

none_bound : (x : List ℕ) (names : Scope) → is_named x names ≡ false → In x names → ⊥
none_bound x names absent h = never (sym (in_named x names h) ∙ absent)

-- where the address is none of the pattern's variables, all of its known fields can be joined on
pub known_join : (x : Option (List ℕ)) (p : PatternValue) (cs : List ComparedField) (names : Scope) (js : List JoinField) → js ≡ known_fields (join_fields p.parts) names → IsElsewhere x p cs → AreJoinFields js x p
known_join x p cs names js is apart j h =
    let kept = in_filter (λ (it : JoinField). is_named it.variable names) j (join_fields p.parts) (subst (In j) is h) in
    (in_contains j (join_fields p.parts) kept.0, λ e. none_bound j.variable (bound_names p) (apart j.variable e).0 (field_bound p j kept.0))

-- else those but its own can
own_is : (x : List ℕ) → is_own (Some x) x ≡ true
own_is x = same_bytes x

pub other_join : (x : Option (List ℕ)) (p : PatternValue) (names : Scope) (js known : List JoinField) → known ≡ known_fields (join_fields p.parts) names
    → js ≡ filter (λ (j : JoinField). not (is_own x j.variable)) known → AreJoinFields js x p
other_join x p names js known known_is is j h =
    let left = in_filter (λ (it : JoinField). not (is_own x it.variable)) j known (subst (In j) is h) in
    let kept = in_filter (λ (it : JoinField). is_named it.variable names) j (join_fields p.parts) (subst (In j) known_is left.0) in
    (in_contains j (join_fields p.parts) kept.0, λ e. never (sym left.1 ∙ ap not (ap (λ (it : Option (List ℕ)). is_own it j.variable) e ∙ own_is j.variable)))

-- a field that is compared with a variable
compared_any : (x : List ℕ) (cs : List ComparedField) (c : ComparedField) → In c cs → x ≡ c.variable → list_any (λ (d : ComparedField). bytes_eq x d.variable) cs ≡ true
compared_any x [] c h e = absurd h
compared_any x (d ∷ cs) c (inl is) e = ap (λ b. b || list_any (λ (f : ComparedField). bytes_eq x f.variable) cs) ((bytes_decides x d.variable).1 (e ∙ ap (λ (it : ComparedField). it.variable) is))
compared_any x (d ∷ cs) c (inr h) e = ap (λ b. bytes_eq x d.variable || b) (compared_any x cs c h e) ∙ or_true (bytes_eq x d.variable)

pub not_compared : (x : List ℕ) (cs : List ComparedField) → list_any (λ (d : ComparedField). bytes_eq x d.variable) cs ≡ false → (c : ComparedField) → In c cs → x ≢ c.variable
not_compared x cs absent c h e = never (sym (compared_any x cs c h e) ∙ absent)
