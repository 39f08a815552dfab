-- What is found in the table.
use Rattle.std.proofs.Common.{◌≡◌, ◌≢◌, ◌∙◌, ◌∷◌, ℕ, Bool, true, false, List, [], Contains, Some, if◌then◌else◌, ap, filter, inl, inr, map, nat_cmp, nat_eq, refl, sym}
use Rattle.std.proofs.lemmas.Map.Lookups.{exact_unsigned}
use Rattle.std.specs.BTreeMap.{is_at}
use Rattle.std.specs.BTreeMap.Range.{range_contains}
use Rattle.std.specs.Cmp.{nat_cmp_total, unsigned_Decides}
use Rattle.std.specs.Cmp.Lexicographic.{bytes_decides}
use Rattle.std.specs.List.Sorted.{IsStrictlySortedBy}
use Rattle.std.specs.Set.{remove_key}
use Rattle.std.specs.Str.{bytes_eq}
use Rattle.std.specs.declared.ops.Bound.TheVariants.{Included, Unbounded}
use Rattle.cb_alpha.specs.JoinValues.{with_first}
use Rattle.cb_alpha_network.proofs.Order.{by_sought, by_spot, entry_cmp, entry_exact, least_sought, least_there, more_sought, more_there, same_sought, sought_cmp, sought_exact, sought_same, sought_total}
use Rattle.cb_alpha_network.proofs.Pieces.{in_piece, key_stays, not_equal, run}
use Rattle.cb_alpha_network.specs.Wanted.{Wants, constants_of, places_of, sought_in, values_at, wanted_of}
use Rattle.cb_alpha_network.specs.contracts.wanted.SoughtPartialEq.TheImpl as sought_eq
use Rattle.cb_alpha_network.specs.declared.asked.Asked.{Asked}
use Rattle.cb_alpha_network.specs.declared.spots.Spot.{Spot}
use Rattle.cb_alpha_network.specs.declared.wanted.Entry.{Entry}
use Rattle.cb_alpha_network.specs.declared.wanted.Sought.{Sought}
use Rattle.cb_constraints.specs.PatternValues.{PatternValue}
use Rattle.cb_exprs.specs.Bindings.{no_bindings}
use Rattle.cb_facts.specs.Facts.{FactContent, FactValue}
use Rattle.cb_facts.specs.declared.value.Value.{Value}
use Rattle.cb_fit.specs.ConstantFields.{constant_fields}
use Rattle.cb_fit.specs.FieldPlaces.{field_value}
use Rattle.cb_fit.specs.Shapes.{has_shape, has_way, loose}
use Rattle.cb_fit.specs.Ways.{way_with, ways_of_parts}
use Rattle.cb_fit.specs.declared.constant_fields.ConstantField.{ConstantField}
use Rattle.cb_matches.proofs.Lists.{by_test, in_contains}
use Rattle.cb_matches.specs.Chains.{In}

-- ---- by what is sought, and by where

abbrev pub has_sought : Sought → Entry → Bool
has_sought s e = sought_eq.ghosts.eq e.sought s

abbrev pub has_spot : ℕ → Entry → Bool
has_spot s e = nat_eq e.sought.spot s

-- what stands before all entries that ask for this
abbrev pub probe : Sought → Entry
probe s = record { sought = s; number = 0 }

-- what stands before all that is sought at the places with a number
abbrev pub least_at : ℕ → Sought
least_at s = record { spot = s; mix = 0; values = [] }

pub in_sought : (keys : List Entry) → IsStrictlySortedBy entry_cmp keys → (s : Sought) (e : Entry) → In e keys → e.sought ≡ s
    → In e (run (has_sought s) (filter (range_contains entry_cmp (Included (probe s)) Unbounded) keys))
in_sought keys sorted s =
    in_piece entry_cmp more_sought (λ e. e.sought) sought_cmp sought_total sought_exact by_sought (probe s) (least_sought s)
    (has_sought s) (λ z t. same_sought z.sought s t) (λ z e. sought_same z.sought s e) keys sorted

pub in_spot : (keys : List Entry) → IsStrictlySortedBy entry_cmp keys → (s : ℕ) (e : Entry) → In e keys → e.sought.spot ≡ s
    → In e (run (has_spot s) (filter (range_contains entry_cmp (Included (probe (least_at s))) Unbounded) keys))
in_spot keys sorted s =
    in_piece entry_cmp more_there (λ e. e.sought.spot) nat_cmp nat_cmp_total exact_unsigned by_spot (probe (least_at s)) (least_there s)
    (has_spot s) (λ z t. (unsigned_Decides z.sought.spot s).0 t) (λ z e. (unsigned_Decides z.sought.spot s).1 e) keys sorted

-- ---- one entry less

pub entry_stays : (keys : List Entry) (lost other : Entry) → other.number ≢ lost.number → In other keys → In other (remove_key (is_at (entry_cmp lost)) keys)
entry_stays keys lost other apart i = key_stays (is_at (entry_cmp lost)) keys other i (not_equal (entry_cmp lost other) (λ e. apart (sym (ap (λ (it : Entry). it.number) (entry_exact lost other e)))))

-- ---- a fact that has the shape of a pattern is asked for

-- a fact with the shape of a pattern has its constants
abbrev pub HasConstants : Type 0
HasConstants = (p : PatternValue) (f : FactValue) → has_shape p f ≡ true → (c : ConstantField) → Contains (constant_fields p.parts) c
    → field_value c.place.slot c.place.field f.content ≡ Some c.value

-- a fact of another relation hasn't the shape
no_shape : (p : PatternValue) (f : FactValue) → bytes_eq p.relation f.relation ≡ false → has_shape p f ≡ false
no_shape p f other = ap (λ b. has_way (if b then map (way_with (loose p).parts no_bindings) (ways_of_parts (loose p).parts f.content no_bindings) else [])) other

all_there : (content : FactContent) (cs : List ConstantField) → ((c : ConstantField) → In c cs → field_value c.place.slot c.place.field content ≡ Some c.value)
    → values_at (places_of cs) content ≡ Some (constants_of cs)
all_there content [] has = refl
all_there content (c ∷ cs) has =
    ap (λ it. with_first it (values_at (places_of cs) content)) (has c (inl refl))
    ∙ ap (with_first (Some c.value)) (all_there content cs (λ d h. has d (inr h)))

pub is_wanted : HasConstants → (p : PatternValue) (f : FactValue) → has_shape p f ≡ true → Wants (wanted_of p) f
is_wanted law p f t = (same, all_there f.content (constant_fields p.parts) (λ c h. law p f t c (in_contains c (constant_fields p.parts) h)))
  where
    same : p.relation ≡ f.relation
    same = by_test (bytes_eq p.relation f.relation) (λ e. (bytes_decides p.relation f.relation).0 e)
        (λ e. let no : true ≡ false = sym t ∙ no_shape p f e in cc)

-- ---- while the table is gone through

-- the numbers of those that ask for the fact by its values there are among these
abbrev pub AreAdded : Asked → FactValue → List ℕ → Spot → Type 0
AreAdded table f numbers spot = (values : List Value) (number : ℕ) → values_at spot.places f.content ≡ Some values
    → In (record { sought = sought_in spot.number values; number = number }) table.entries.keys → In number numbers
