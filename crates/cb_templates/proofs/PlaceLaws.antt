-- What stands at the place of a slot's name.
use Rattle.std.proofs.Common.{◌≡◌, ◌∙◌, ◌++◌, ◌&&◌, ◌||◌, not, ℕ, suc, Bool, true, false, List, [], ◌∷◌, Option, Some, None, option_map, is_some, length, refl, sym, ap, ap₂, if◌then◌else◌}
use denote.Ref.{Bor}
use Rattle.std.proofs.lemmas.Option.{slice_get_past, slice_get_read}
use Rattle.std.specs.Cmp.{IsEquivalence}
use Rattle.std.specs.Cmp.Lexicographic.{nat_list_eq_equiv}
use Rattle.std.specs.List.{slice_get}
use Rattle.std.specs.Option.{IfSome, MatchOption, option_and_then, option_copied}
use Rattle.std.specs.Slice.{IsItemAt}
use Rattle.std.specs.Str.{bytes_eq}
use Rattle.cb_facts.specs.declared.value.Value.{Value}
use Rattle.cb_templates.specs.Building.{Given, are_distinct, given_for, given_names}
use Rattle.cb_templates.specs.GivenPlaces.{AreTheirPlaces}
use Rattle.cb_templates.specs.Slots.{GivenValues, SlotShape, names, slot_named}
use Rattle.cb_facts.specs.Places.{place_in}

by_place : {X : Type 0} (t : Bool) (x : X) (xs : List X) (p : Option ℕ) (r : Option X) → r ≡ option_and_then (slice_get xs) p
    → (if t then Some x else r) ≡ option_and_then (slice_get (x ∷ xs)) (if t then Some 0 else option_map suc p)
by_place true x xs p r e = refl
by_place false x xs None r e = e
by_place false x xs (Some i) r e = e

-- the slot with a name is the one at the place of the name
pub slot_by_place : (slots : List SlotShape) (name : List ℕ) → slot_named slots name ≡ option_and_then (slice_get slots) (place_in (names slots) name)
slot_by_place [] name = refl
slot_by_place (s ∷ slots) name = by_place (bytes_eq s.name name) s slots (place_in (names slots) name) (slot_named slots name) (slot_by_place slots name)

abbrev pub values_of : Option GivenValues → Option (List Value)
values_of o = option_map (λ g. g.1) o

values_by_place : (t : Bool) (g : GivenValues) (given : Given) (p : Option ℕ) (r : Option (List Value)) → r ≡ values_of (option_and_then (slice_get given) p)
    → (if t then Some g.1 else r) ≡ values_of (option_and_then (slice_get (g ∷ given)) (if t then Some 0 else option_map suc p))
values_by_place true g given p r e = refl
values_by_place false g given None r e = e
values_by_place false g given (Some i) r e = e

-- the values that are given for a slot stand at the place of its name
pub given_by_place : (given : Given) (name : List ℕ) → given_for given name ≡ option_map (λ g. g.1) (option_and_then (slice_get given) (place_in (given_names given) name))
given_by_place [] name = refl
given_by_place (g ∷ given) name =
    values_by_place (bytes_eq g.0 name) g given (place_in (given_names given) name) (given_for given name) (given_by_place given name)

has_place : (t : Bool) (vs : List Value) (r : Option (List Value)) (p : Option ℕ) → is_some r ≡ is_some p
    → is_some (if t then Some vs else r) ≡ is_some (if t then Some 0 else option_map suc p)
has_place true vs r p e = refl
has_place false vs r (Some i) e = e
has_place false vs r None e = e

-- a slot is given where its name has a place
pub is_given : (given : Given) (name : List ℕ) → is_some (given_for given name) ≡ is_some (place_in (given_names given) name)
is_given [] name = refl
is_given (g ∷ given) name = has_place (bytes_eq g.0 name) g.1 (given_for given name) (place_in (given_names given) name) (is_given given name)

given_or : (t u : Bool) (vs ws : List Value) (r s : Option (List Value)) → is_some s ≡ (is_some r || u)
    → is_some (if t then Some vs else s) ≡ (is_some (if t then Some vs else r) || u)
given_or true u vs ws r s e = refl
given_or false u vs ws r s e = e

one_given : (t : Bool) (vs : List Value) → is_some (if t then Some vs else None) ≡ t
one_given true vs = refl
one_given false vs = refl

-- a slot is given among slots and one more
given-push : (given : Given) (g : GivenValues) (name : List ℕ) → is_some (given_for (given ++ g ∷ []) name) ≡ (is_some (given_for given name) || bytes_eq g.0 name)
given-push [] g name = one_given (bytes_eq g.0 name) g.1
given-push (h ∷ given) g name =
    given_or (bytes_eq h.0 name) (bytes_eq g.0 name) h.1 g.1 (given_for given name) (given_for (given ++ g ∷ []) name) (given-push given g name)

one_of : (t : Bool) (vs : List Value) (r : Option (List Value)) → is_some (if t then Some vs else r) ≡ (t || is_some r)
one_of true vs r = refl
one_of false vs r = refl

split : (a d t b : Bool) → (not (a || t) && (d && not b)) ≡ ((not a && d) && not (t || b))
split true d t b = refl
split false false true b = refl
split false false false b = refl
split false true true b = refl
split false true false b = refl

-- no slot is given twice among slots and one more
pub distinct_after : (given : Given) (g : GivenValues) → are_distinct (given ++ g ∷ []) ≡ (are_distinct given && not (is_some (given_for given g.0)))
distinct_after [] g = refl
distinct_after (h ∷ given) g =
    ap₂ (λ (t u : Bool). not t && u) (given-push given g h.0) (distinct_after given g)
    ∙ split (is_some (given_for given h.0)) (are_distinct given) (bytes_eq g.0 h.0) (is_some (given_for given g.0))
    ∙ ap (λ t. (not (is_some (given_for given h.0)) && are_distinct given) && not t)
    (ap (λ t. t || is_some (given_for given g.0)) ((IsEquivalence.symm nat_list_eq_equiv) g.0 h.0) ∙ sym (one_of (bytes_eq h.0 g.0) h.1 (given_for given g.0)))

-- a loan of the element at a place lends what `slice_get` says
pub lent_at : {X : Type 0} (xs : List X) (i : ℕ) (r : Option (Bor X)) → IsItemAt xs i r → option_copied r ≡ slice_get xs i
lent_at xs i None h = sym (slice_get_past xs i h.3)
lent_at xs i (Some x) h = sym (slice_get_read xs (length xs) i x.now refl h.3.0 h.1)

pub match_lent : {X : Type 0} (r : Option (Bor X)) (o : Option X) → option_copied r ≡ o → MatchOption r (o ≡ None) (λ x. o ≡ Some x.now)
match_lent None o e = sym e
match_lent (Some x) o e = sym e

-- the loan of the slot at the place of its name
pub slot_lent : (slots : List SlotShape) (name : List ℕ) (place : ℕ) (r : Option (Bor SlotShape)) → place_in (names slots) name ≡ Some place → IsItemAt slots place r
    → MatchOption r (slot_named slots name ≡ None) (λ s. slot_named slots name ≡ Some s.now)
slot_lent slots name place r at h =
    match_lent r (slot_named slots name) (lent_at slots place r h ∙ sym (slot_by_place slots name ∙ ap (option_and_then (slice_get slots)) at))

-- the values at the place of a slot's name
pub values_at : (given : Given) (name : List ℕ) (place : ℕ) (r : Option (Bor GivenValues)) → place_in (given_names given) name ≡ Some place → IsItemAt given place r
    → given_for given name ≡ values_of (option_copied r)
values_at given name place r at h =
    given_by_place given name ∙ ap (λ p. values_of (option_and_then (slice_get given) p)) at ∙ ap values_of (sym (lent_at given place r h))

pub names_after : (given : Given) (g : GivenValues) → given_names given ++ g.0 ∷ [] ≡ given_names (given ++ g ∷ [])
names_after [] g = refl
names_after (h ∷ given) g = ap (λ ns. h.0 ∷ ns) (names_after given g)

-- the places of slots and one more
pub places_after : (places : Option (List (List ℕ))) (given : Given) (g : GivenValues) → IfSome places (λ p. p ≡ given_names given ++ g.0 ∷ []) → AreTheirPlaces places (given ++ g ∷ [])
places_after None given g h = h
places_after (Some p) given g h = h ∙ names_after given g

pub distinct_still : (given : Given) (g : GivenValues) (distinct is_new : Bool) → distinct ≡ are_distinct given → is_new ≡ not (is_some (given_for given g.0))
    → (distinct && is_new) ≡ are_distinct (given ++ g ∷ [])
distinct_still given g distinct is_new was new = ap₂ (λ t u. t && u) was new ∙ sym (distinct_after given g)
