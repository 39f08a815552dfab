-- The order of what patterns ask for: by where, by the mix of the values and by the values, and then by the number of the pattern. And the
-- order of places.
use Rattle.std.proofs.Common.{◌≡◌, ◌∙◌, ℕ, Bool, true, false, not, List, [], ◌∷◌, Option, Some, None, Ordering, Equal, ap, ap₂, is_eq, is_le, nat_cmp, refl, subst, sym}
use Rattle.std.proofs.lemmas.Map.Lookups.{exact_unsigned}
use Rattle.std.specs.Cmp.{Equal-is, IsTotalOrder, tied_itself}
use Rattle.std.specs.Cmp.Lexicographic.{slice_cmp}
use Rattle.std.specs.Option.{option_cmp}
use Rattle.std.specs.Ordering.{ordering_then}
use Rattle.cb_alpha.proofs.ValuesOrder.{values_exact}
use Rattle.cb_alpha.specs.Buckets.{values_cmp}
use Rattle.cb_alpha_network.proofs.Pieces.{le_then, least_number, nothing_least, then_assoc, then_equal}
use Rattle.cb_alpha_network.specs.Places.{place_cmp}
use Rattle.cb_alpha_network.specs.contracts.field_places.FieldPlacesPartialEq.TheImpl as places_eq
use Rattle.cb_alpha_network.specs.contracts.field_places.FieldPlacesOrd.TheImpl.Laws as places_laws
use Rattle.cb_alpha_network.specs.contracts.node_place.NodePlacePartialEq.TheImpl as place_eq
use Rattle.cb_alpha_network.specs.contracts.node_place.NodePlaceOrd.TheImpl.Laws as place_laws
use Rattle.cb_alpha_network.specs.contracts.wanted.EntryOrd.TheImpl as entry_ord
use Rattle.cb_alpha_network.specs.contracts.wanted.SoughtOrd.TheImpl as sought_ord
use Rattle.cb_alpha_network.specs.contracts.wanted.SoughtOrd.TheImpl.Laws as sought_laws
use Rattle.cb_alpha_network.specs.contracts.wanted.SoughtPartialEq.TheImpl as sought_eq
use Rattle.cb_alpha_network.specs.declared.node_place.NodePlace.{NodePlace}
use Rattle.cb_alpha_network.specs.declared.wanted.Entry.{Entry}
use Rattle.cb_alpha_network.specs.declared.wanted.Sought.{Sought}
use Rattle.cb_facts.specs.contracts.value.ValueOrd.TheImpl as value_ord
use Rattle.cb_facts.specs.declared.value.Value.{Value}
use Rattle.cb_fit.specs.declared.field_place.FieldPlace.{FieldPlace}

option_exact : {A : Type 0} (R : A → A → Ordering) → ((a b : A) → R a b ≡ Equal → a ≡ b) → (p q : Option A) → option_cmp R p q ≡ Equal → p ≡ q
option_exact R exact None None h = refl
option_exact R exact None (Some b) h = cc
option_exact R exact (Some a) None h = cc
option_exact R exact (Some a) (Some b) h = ap Some (exact a b h)

list_exact : {A : Type 0} (R : A → A → Ordering) → ((a b : A) → R a b ≡ Equal → a ≡ b) → (xs ys : List A) → slice_cmp R xs ys ≡ Equal → xs ≡ ys
list_exact R exact [] [] h = refl
list_exact R exact [] (y ∷ ys) h = cc
list_exact R exact (x ∷ xs) [] h = cc
list_exact {A} R exact (x ∷ xs) (y ∷ ys) h =
    let both = then_equal (R x y) (slice_cmp R xs ys) h in
    ap₂ (λ (z : A) (zs : List A). z ∷ zs) (exact x y both.0) (list_exact R exact xs ys both.1)

-- ---- what compares equal is equal

make_field : Option ℕ → ℕ → FieldPlace
make_field s n = record { slot = s; field = n }

make_place : ℕ → ℕ → ℕ → NodePlace
make_place r b n = record { rule = r; branch = b; node = n }

make_sought : ℕ → ℕ → List Value → Sought
make_sought s m vs = record { spot = s; mix = m; values = vs }

make_entry : Sought → ℕ → Entry
make_entry s n = record { sought = s; number = n }

abbrev field_cmp : FieldPlace → FieldPlace → Ordering
field_cmp a b = ordering_then (option_cmp nat_cmp a.slot b.slot) (nat_cmp a.field b.field)

abbrev pub sought_cmp : Sought → Sought → Ordering
sought_cmp = sought_ord.ghosts.cmp

pub sought_total : IsTotalOrder sought_cmp
sought_total = sought_laws.total-law

pub place_total : IsTotalOrder place_cmp
place_total = place_laws.total-law

abbrev pub entry_cmp : Entry → Entry → Ordering
entry_cmp = entry_ord.ghosts.cmp

field_exact : (a b : FieldPlace) → field_cmp a b ≡ Equal → a ≡ b
unfolding make_field
field_exact a b h =
    let both = then_equal (option_cmp nat_cmp a.slot b.slot) (nat_cmp a.field b.field) h in
    ap₂ make_field (option_exact nat_cmp exact_unsigned a.slot b.slot both.0) (exact_unsigned a.field b.field both.1)

pub place_exact : (a b : NodePlace) → place_cmp a b ≡ Equal → a ≡ b
unfolding make_place
place_exact a b h =
    let rules = then_equal (nat_cmp a.rule b.rule) (ordering_then (nat_cmp a.branch b.branch) (nat_cmp a.node b.node)) h in
    let others = then_equal (nat_cmp a.branch b.branch) (nat_cmp a.node b.node) rules.1 in
    let e : a.rule ≡ b.rule = exact_unsigned a.rule b.rule rules.0 in
    let f : a.branch ≡ b.branch = exact_unsigned a.branch b.branch others.0 in
    let g : a.node ≡ b.node = exact_unsigned a.node b.node others.1 in
    ap₂ (λ (r : ℕ) (n : ℕ). make_place r a.branch n) e g ∙ ap (λ n. make_place b.rule n b.node) f

pub sought_exact : (a b : Sought) → sought_cmp a b ≡ Equal → a ≡ b
unfolding make_sought
sought_exact a b h =
    let spots = then_equal (nat_cmp a.spot b.spot) (ordering_then (nat_cmp a.mix b.mix) (values_cmp a.values b.values)) h in
    let others = then_equal (nat_cmp a.mix b.mix) (values_cmp a.values b.values) spots.1 in
    let e : a.spot ≡ b.spot = exact_unsigned a.spot b.spot spots.0 in
    let f : a.mix ≡ b.mix = exact_unsigned a.mix b.mix others.0 in
    let g : a.values ≡ b.values = values_exact a.values b.values others.1 in
    ap₂ (λ (s : ℕ) (vs : List Value). make_sought s a.mix vs) e g ∙ ap (λ m. make_sought b.spot m b.values) f

pub entry_exact : (a b : Entry) → entry_cmp a b ≡ Equal → a ≡ b
unfolding make_entry
entry_exact a b h =
    let both = then_equal (sought_cmp a.sought b.sought) (nat_cmp a.number b.number) h in
    ap₂ make_entry (sought_exact a.sought b.sought both.0) (exact_unsigned a.number b.number both.1)

-- ---- and by `==`

pub not_so : (b : Bool) → not b ≡ true → b ≡ false
not_so true h = cc
not_so false h = refl

pub same_places : (a b : List FieldPlace) → places_eq.ghosts.eq a b ≡ true → a ≡ b
same_places a b h = list_exact field_cmp field_exact a b ((Equal-is (slice_cmp field_cmp a b)).0 (sym (places_laws.matches_eq-law a b) ∙ h))

pub same_sought : (a b : Sought) → sought_eq.ghosts.eq a b ≡ true → a ≡ b
same_sought a b h = sought_exact a b ((Equal-is (sought_cmp a b)).0 (sym (sought_laws.matches_eq-law a b) ∙ h))

pub sought_same : (a b : Sought) → a ≡ b → sought_eq.ghosts.eq a b ≡ true
sought_same a b e = sought_laws.matches_eq-law a b ∙ ap is_eq (subst (λ it. sought_cmp a it ≡ Equal) e (tied_itself sought_laws.total-law a))

pub same_place : (a b : NodePlace) → place_eq.ghosts.eq a b ≡ true → a ≡ b
same_place a b h = place_exact a b ((Equal-is (place_cmp a b)).0 (sym (place_laws.matches_eq-law a b) ∙ h))

-- ---- the order by a first part, and then by more

abbrev pub more_sought : Entry → Entry → Ordering
more_sought a b = nat_cmp a.number b.number

abbrev pub more_there : Entry → Entry → Ordering
more_there a b = ordering_then (ordering_then (nat_cmp a.sought.mix b.sought.mix) (values_cmp a.sought.values b.sought.values)) (nat_cmp a.number b.number)

pub by_sought : (a b : Entry) → entry_cmp a b ≡ ordering_then (sought_cmp a.sought b.sought) (more_sought a b)
by_sought a b = refl

pub by_spot : (a b : Entry) → entry_cmp a b ≡ ordering_then (nat_cmp a.sought.spot b.sought.spot) (more_there a b)
by_spot a b = sym (then_assoc (nat_cmp a.sought.spot b.sought.spot) (ordering_then (nat_cmp a.sought.mix b.sought.mix) (values_cmp a.sought.values b.sought.values)) (nat_cmp a.number b.number))

pub least_sought : (s : Sought) (z : Entry) → is_le (more_sought (record { sought = s; number = 0 }) z) ≡ true
least_sought s z = least_number z.number

pub least_there : (s : ℕ) (z : Entry) → is_le (more_there (record { sought = record { spot = s; mix = 0; values = [] }; number = 0 }) z) ≡ true
least_there s z =
    le_then (ordering_then (nat_cmp 0 z.sought.mix) (values_cmp [] z.sought.values)) (nat_cmp 0 z.number)
    (le_then (nat_cmp 0 z.sought.mix) (values_cmp [] z.sought.values) (least_number z.sought.mix) (nothing_least value_ord.ghosts.cmp z.sought.values))
    (least_number z.number)

pub place_ties : (a b : NodePlace) → place_eq.ghosts.eq a b ≡ is_eq (place_cmp a b)
place_ties a b = place_laws.matches_eq-law a b
