-- What a look at the number of fields and at the constants rules out.
use Rattle.std.proofs.Common.{arith, ◌≡◌, ◌∙◌, ◌++◌, ◌==◌, ◌&&◌, ◌||◌, ◌≤◌, Bool, true, false, List, ℕ, [], ◌∷◌, Option, None, Some, ap, drop, length, map, nat_le, refl, sym, take}
use Rattle.std.proofs.lemmas.Bool.{eqb-true, leb-true}
use Rattle.std.proofs.lemmas.List.{append-nil, take-append-drop}
use Rattle.std.specs.Option.{option_map_or}
use Rattle.std.specs.Str.{bytes_eq}
use Rattle.std.specs.Prelude.{if◌then◌else◌}
use Rattle.cb_constraints.specs.Constraints.{Constraint}
use Rattle.cb_constraints.specs.PatternValues.{PatternParts, PatternValue, SlotValue}
use Rattle.cb_constraints.specs.PatternValues as pattern
use Rattle.cb_constraints.specs.Rows.{before_segments, fields_wanted, segments_wanted}
use Rattle.cb_exprs.specs.Bindings.{Bindings}
use Rattle.cb_facts.specs.Facts.{FactContent, FactValue}
use Rattle.cb_facts.specs.Facts as fact
use Rattle.cb_facts.specs.Values.{fields_in}
use Rattle.cb_facts.specs.declared.single.Single.{Single}
use Rattle.cb_facts.specs.declared.value.Value.{Value}
use Rattle.cb_fit.proofs.Groups.{leading-none, wrong-length}
use Rattle.cb_fit.proofs.Rows.{nothing-follows}
use Rattle.cb_fit.proofs.Splits.{leading-ones, ones-want}
use Rattle.cb_fit.proofs.Takes.{nothing-taken}
use Rattle.cb_fit.proofs.Trailing.{back-never}
use Rattle.cb_fit.specs.Internal.{are_ones, may_take, may_take_back, may_take_front, may_take_row, may_take_slot, may_take_slots, slot_takes_length, slots_take_lengths, take_lengths, takes_length}
use Rattle.cb_fit.specs.Ways.{each_followed_by, slot_at, way_with, ways, ways_of_parts, ways_of_row, ways_of_slot, ways_of_slots}

-- the looks of a row, one after another
pub never_long : (cs : List Constraint) (fs : List Single) → takes_length cs (length fs) ≡ false → may_take_row cs fs ≡ false
never_long cs fs e = ap (λ b. b && (may_take_front cs fs && (are_ones cs || may_take_back cs fs))) e

pub never_front : (cs : List Constraint) (fs : List Single) → takes_length cs (length fs) ≡ true → may_take_front cs fs ≡ false → may_take_row cs fs ≡ false
never_front cs fs e f = ap (λ b. b && (may_take_front cs fs && (are_ones cs || may_take_back cs fs))) e ∙ ap (λ b. b && (are_ones cs || may_take_back cs fs)) f

pub by_its_back : (cs : List Constraint) (fs : List Single) → takes_length cs (length fs) ≡ true → may_take_front cs fs ≡ true → may_take_row cs fs ≡ (are_ones cs || may_take_back cs fs)
by_its_back cs fs e f = ap (λ b. b && (may_take_front cs fs && (are_ones cs || may_take_back cs fs))) e ∙ ap (λ b. b && (are_ones cs || may_take_back cs fs)) f

both-true : (a b : Bool) → a && b ≡ true → (a ≡ true) × (b ≡ true)
both-true true b e = (refl, e)
both-true false b e = let never : false ≡ true = e in cc

abbrev looks : List Constraint → List Single → Bool
looks cs fs = may_take_front cs fs && (are_ones cs || may_take_back cs fs)

pub front_may : (cs : List Constraint) (fs : List Single) → may_take_row cs fs ≡ true → may_take (take (before_segments cs) cs) fs ≡ true
front_may cs fs e = (both-true (may_take_front cs fs) (are_ones cs || may_take_back cs fs) (both-true (takes_length cs (length fs)) (looks cs fs) e).1).0

front-never : (cs : List Constraint) (fs : List Single) (env : Bindings) → may_take (take (before_segments cs) cs) fs ≡ false → ways_of_row cs fs env ≡ []
front-never cs fs env e =
    ap (λ xs. ways_of_row xs fs env) (sym (take-append-drop (before_segments cs) cs))
    ∙ leading-none (take (before_segments cs) cs) (drop (before_segments cs) cs) fs env (leading-ones cs) (nothing-taken (take (before_segments cs) cs) fs env e)

-- as many fields as a row can take are enough for its constraints for one field
pub enough-fields : (cs : List Constraint) (n : ℕ) → takes_length cs n ≡ true → fields_wanted cs ≤ n
enough-fields cs n e = by (are_ones cs) e
  where
    by : (ones : Bool) → (if ones then n == fields_wanted cs else nat_le (fields_wanted cs) n) ≡ true → fields_wanted cs ≤ n
    by true h = omega (arith, eqb-true n (fields_wanted cs) h)
    by false h = leb-true (fields_wanted cs) n h

-- a row that may not take the fields has no ways
pub never_taken : (cs : List Constraint) (fs : List Single) (env : Bindings) → may_take_row cs fs ≡ false → ways_of_row cs fs env ≡ []
never_taken cs fs env e = by (takes_length cs (length fs)) (may_take_front cs fs) (are_ones cs) refl refl e
  where
    by : (b f o : Bool) → takes_length cs (length fs) ≡ b → may_take_front cs fs ≡ f → b && (f && (o || may_take_back cs fs)) ≡ false → ways_of_row cs fs env ≡ []
    by false f o t d h = wrong-length cs fs env t
    by true false o t d h = front-never cs fs env d
    by true true false t d h = back-never cs fs env (enough-fields cs (length fs) t) h
    by true true true t d h = let never : true ≡ false = h in cc

-- a row of constraints for one field that may take the fields has one for each
pub all-taken : (os cs row : List Constraint) (fs : List Single) → segments_wanted os ≡ 0 → cs ≡ [] → row ≡ os ++ cs → may_take_row row fs ≡ true → length os ≡ length fs
all-taken os cs row fs o e r h = sym (eqb-true (length fs) (length os) (sym (by-length row is-os) ∙ (both-true (takes_length row (length fs)) (looks row fs) h).0))
  where
    is-os : row ≡ os
    is-os = r ∙ (ap (λ xs. os ++ xs) e ∙ append-nil os)

    by-length : (row : List Constraint) → row ≡ os → takes_length row (length fs) ≡ (length fs == length os)
    by-length row d =
        ap (λ cs. takes_length cs (length fs)) d
        ∙ (ap (λ n. if n == 0 then length fs == fields_wanted os else nat_le (fields_wanted os) (length fs)) o
        ∙ ap (λ n. length fs == n) (ap fields_wanted (sym (append-nil os)) ∙ (ones-want os [] o ∙ omega arith)))

-- nor have the rows of slots, of which one may not take the fields of its slot
slot-never : (s : SlotValue) (o : Option Value) (env : Bindings) → option_map_or (λ v. may_take_row s.row (fields_in v)) o false ≡ false → option_map_or (λ v. ways_of_row s.row (fields_in v) env) o [] ≡ []
slot-never s None env e = refl
slot-never s (Some v) env e = never_taken s.row (fields_in v) env e

pub slots_never_taken : (ss : List SlotValue) (slots : List (List ℕ × Value)) (env : Bindings) → may_take_slots ss slots ≡ false → ways_of_slots ss slots env ≡ []
slots_never_taken [] slots env e = let never : true ≡ false = e in cc
slots_never_taken (s ∷ ss) slots env e = by (may_take_slot s slots) refl e (λ h grown. slots_never_taken ss slots grown h)
  where
    by : (b : Bool) → may_take_slot s slots ≡ b → b && may_take_slots ss slots ≡ false → (may_take_slots ss slots ≡ false → (grown : Bindings) → ways_of_slots ss slots grown ≡ [])
        → ways_of_slots (s ∷ ss) slots env ≡ []
    by true t h others = nothing-follows (ways_of_slots ss slots) (ways_of_slot s slots env) (others h)
    by false t h others = ap (each_followed_by (ways_of_slots ss slots)) (slot-never s (slot_at s.place slots) env t)

-- a slot with fields too few or too many may not be taken
slot-wrong_length : (s : SlotValue) (o : Option Value) → option_map_or (λ v. takes_length s.row (length (fields_in v))) o false ≡ false → option_map_or (λ v. may_take_row s.row (fields_in v)) o false ≡ false
slot-wrong_length s None e = refl
slot-wrong_length s (Some v) e = never_long s.row (fields_in v) e

slots-wrong_lengths : (ss : List SlotValue) (slots : List (List ℕ × Value)) → slots_take_lengths ss slots ≡ false → may_take_slots ss slots ≡ false
slots-wrong_lengths [] slots e = let never : true ≡ false = e in cc
slots-wrong_lengths (s ∷ ss) slots e = by (slot_takes_length s slots) (may_take_slot s slots) refl refl e (slots-wrong_lengths ss slots)
  where
    by : (l b : Bool) → slot_takes_length s slots ≡ l → may_take_slot s slots ≡ b → l && slots_take_lengths ss slots ≡ false → (slots_take_lengths ss slots ≡ false → may_take_slots ss slots ≡ false)
        → b && may_take_slots ss slots ≡ false
    by l false t m h others = refl
    by true true t m h others = others h
    by false true t m h others = let never : true ≡ false = sym m ∙ slot-wrong_length s (slot_at s.place slots) t in cc

-- a fact with fields too few or too many is taken in no way
parts-never_taken : (p : PatternParts) (c : FactContent) (env : Bindings) → take_lengths p c ≡ false → ways_of_parts p c env ≡ []
parts-never_taken (pattern.fields row) (fact.fields fs) env e = never_taken row fs env (never_long row fs e)
parts-never_taken (pattern.fields row) (fact.slots ss) env e = refl
parts-never_taken (pattern.slots rows) (fact.fields fs) env e = refl
parts-never_taken (pattern.slots rows) (fact.slots ss) env e = slots_never_taken rows ss env (slots-wrong_lengths rows ss e)

-- and so the pattern fits it in none
pub lengths_never_fit : (p : PatternValue) (f : FactValue) (env : Bindings) → take_lengths p.parts f.content ≡ false → ways p f env ≡ []
lengths_never_fit p f env e = by (bytes_eq p.relation f.relation)
  where
    by : (b : Bool) → (if b then map (way_with p.parts env) (ways_of_parts p.parts f.content env) else []) ≡ []
    by true = ap (map (way_with p.parts env)) (parts-never_taken p.parts f.content env e)
    by false = refl

pub other_slots_may : (s : SlotValue) (ss : List SlotValue) (slots : List (List ℕ × Value)) → may_take_slots (s ∷ ss) slots ≡ true → may_take_slots ss slots ≡ true
other_slots_may s ss slots e = (both-true (may_take_slot s slots) (may_take_slots ss slots) e).1
