-- A plain pattern fits just the facts that its lengths and constants let through.
use Rattle.std.proofs.Common.{◌≡◌, ◌∙◌, ◌&&◌, ◌+◌, ◌++◌, ℕ, suc, Bool, true, false, List, [], ◌∷◌, Option, Some, None, ap, arith, length, map, refl, sym, take, if◌then◌else◌}
use Rattle.std.proofs.lemmas.Bool.{and_parts, eqb-true}
use Rattle.std.proofs.lemmas.List.{append-nil}
use Rattle.std.specs.List.{list_all}
use Rattle.std.specs.Option.{option_map_or}
use Rattle.std.specs.Str.{bytes_eq}
use Rattle.cb_constraints.specs.Constraints.{Constraint, Demand}
use Rattle.cb_constraints.specs.Holding.{after_demand, may_hold, provided}
use Rattle.cb_constraints.specs.PatternValues.{PatternParts, PatternValue, SlotValue}
use Rattle.cb_constraints.specs.PatternValues as pattern
use Rattle.cb_constraints.specs.Rows.{before_segments, segments_wanted}
use Rattle.cb_exprs.specs.Bindings.{Bindings, no_bindings}
use Rattle.cb_facts.specs.Facts.{FactContent, FactValue}
use Rattle.cb_facts.specs.Facts as fact
use Rattle.cb_facts.specs.Values.{fields_in, value_of_field}
use Rattle.cb_facts.specs.declared.single.Single.{Single}
use Rattle.cb_facts.specs.declared.value.Value.{Value}
use Rattle.cb_fit.proofs.Looked.{all-taken, front_may, never_taken, slots_never_taken}
use Rattle.cb_fit.proofs.LooseDemands.{holds-loosely}
use Rattle.cb_fit.proofs.Rows.{after_one, is-one, one-step, others-are-ones}
use Rattle.cb_fit.proofs.StandsAlone.{demand-stays}
use Rattle.cb_fit.specs.Internal.{are_ones, may_take, may_take_row, may_take_slot, may_take_slots}
use Rattle.cb_fit.specs.Internal.PlainParts.{are_plain, may_take_parts, parts_take_ones, slot_takes_ones}
use Rattle.cb_fit.specs.Shapes.{has_way}
use Rattle.cb_fit.specs.StandsAlone.{demand_alone, parts_alone, row_alone, slot_alone}
use Rattle.cb_fit.specs.Ways.{Taken, after_cuts, each_followed_by, slot_at, way_with, ways, ways_of_parts, ways_of_row, ways_of_slots}

-- there is one way, which gives no variable a value
abbrev OneWay : List Taken → Bindings → Type 0
OneWay ts env = (cuts : List ℕ) × (ts ≡ record { cuts = cuts; env = env } ∷ [])

-- what has no variable and no expression holds where its constants do
by_constants : (d : Demand) (v : Value) (env : Bindings) → demand_alone d ≡ true → after_demand d v env ≡ provided (may_hold d v) env
by_constants d v env e = ap (λ it. after_demand it v env) (sym (demand-stays d e)) ∙ holds-loosely d v env

-- a row of constraints for one field each
all_before : (cs : List Constraint) → segments_wanted cs ≡ 0 → take (before_segments cs) cs ≡ cs
all_before [] e = refl
all_before (c ∷ cs) e = by c.segment (is-one c.segment (segments_wanted cs) e) (all_before cs (others-are-ones c.segment (segments_wanted cs) e))
  where
    one_more : (n : ℕ) → 1 + n ≡ suc n
    one_more n = omega arith

    by : (segment : Bool) → segment ≡ false → take (before_segments cs) cs ≡ cs → take (if segment then 0 else 1 + before_segments cs) (c ∷ cs) ≡ c ∷ cs
    by true d h = let never : true ≡ false = d in cc
    by false d h = ap (λ n. take n (c ∷ cs)) (one_more (before_segments cs)) ∙ ap (λ xs. c ∷ xs) h

first_of : (cs : List Constraint) (fs : List Single) (env : Bindings) → OneWay (ways_of_row cs fs env) env → OneWay (after_one cs fs (Some env)) env
first_of cs fs env (cuts, is) = (1 ∷ cuts, ap (map (after_cuts (1 ∷ []))) is)

each_takes : (cs : List Constraint) (fs : List Single) (env : Bindings) → segments_wanted cs ≡ 0 → row_alone cs ≡ true → length cs ≡ length fs → may_take cs fs ≡ true → OneWay (ways_of_row cs fs env) env
each_takes [] [] env ones alone long may = ([], refl)
each_takes [] (f ∷ fs) env ones alone long may = absurd (cc)
each_takes (c ∷ cs) [] env ones alone long may = absurd (cc)
each_takes (c ∷ cs) (f ∷ fs) env ones alone long may =
    let constants = and_parts (demand_alone c.demand) (row_alone cs) alone in
    let mays = and_parts (may_hold c.demand (value_of_field f)) (may_take cs fs) may in
    let rest = each_takes cs fs env (others-are-ones c.segment (segments_wanted cs) ones) constants.1 (less long) mays.1 in
    let all = first_of cs fs env rest in (
      all.0,
      one-step c cs (f ∷ fs) env (is-one c.segment (segments_wanted cs) ones)
          ∙ (ap (after_one cs fs) (by_constants c.demand (value_of_field f) env constants.0 ∙ ap (λ b. provided b env) mays.0) ∙ all.1),
    )
  where
    less : suc (length cs) ≡ suc (length fs) → length cs ≡ length fs
    less d = cc

row_takes : (cs : List Constraint) (fs : List Single) (env : Bindings) → are_ones cs ≡ true → row_alone cs ≡ true → may_take_row cs fs ≡ true → OneWay (ways_of_row cs fs env) env
row_takes cs fs env ones alone may =
    let none = eqb-true (segments_wanted cs) 0 ones in
    each_takes cs fs env none alone (all-taken cs [] cs fs none refl (sym (append-nil cs)) may) (ap (λ xs. may_take xs fs) (sym (all_before cs none)) ∙ front_may cs fs may)

-- the rows of slots
slot_takes : (s : SlotValue) (o : Option Value) (env : Bindings) → slot_takes_ones s ≡ true → slot_alone s ≡ true → option_map_or (λ v. may_take_row s.row (fields_in v)) o false ≡ true
    → OneWay (option_map_or (λ v. ways_of_row s.row (fields_in v) env) o []) env
slot_takes s None env ones alone may = let never : false ≡ true = may in cc
slot_takes s (Some v) env ones alone may = row_takes s.row (fields_in v) env ones alone may

one_then_one : (next : Bindings → List Taken) (firsts : List Taken) (env : Bindings) → OneWay firsts env → OneWay (next env) env → OneWay (each_followed_by next firsts) env
one_then_one next firsts env (own, first) (others, more) = (own ++ others, ap (each_followed_by next) first ∙ ap (λ ts. map (after_cuts own) ts ++ []) more)

slots_take : (ss : List SlotValue) (slots : List (List ℕ × Value)) (env : Bindings) → list_all slot_takes_ones ss ≡ true → list_all slot_alone ss ≡ true → may_take_slots ss slots ≡ true
    → OneWay (ways_of_slots ss slots env) env
slots_take [] slots env ones alone may = ([], refl)
slots_take (s ∷ ss) slots env ones alone may =
    let one = and_parts (slot_takes_ones s) (list_all slot_takes_ones ss) ones in
    let constants = and_parts (slot_alone s) (list_all slot_alone ss) alone in
    let mays = and_parts (may_take_slot s slots) (may_take_slots ss slots) may in
    one_then_one (ways_of_slots ss slots) (option_map_or (λ v. ways_of_row s.row (fields_in v) env) (slot_at s.place slots) []) env
    (slot_takes s (slot_at s.place slots) env one.0 constants.0 mays.0) (slots_take ss slots env one.1 constants.1 mays.1)

-- what a pattern asks
parts_take : (p : PatternParts) (content : FactContent) (env : Bindings) → parts_take_ones p ≡ true → parts_alone p ≡ true → may_take_parts p content ≡ true → OneWay (ways_of_parts p content env) env
parts_take (pattern.fields row) (fact.fields fs) env ones alone may = row_takes row fs env ones alone may
parts_take (pattern.fields row) (fact.slots ss) env ones alone may = let never : false ≡ true = may in cc
parts_take (pattern.slots rows) (fact.fields fs) env ones alone may = let never : false ≡ true = may in cc
parts_take (pattern.slots rows) (fact.slots ss) env ones alone may = slots_take rows ss env ones alone may

parts_never : (p : PatternParts) (content : FactContent) (env : Bindings) → may_take_parts p content ≡ false → ways_of_parts p content env ≡ []
parts_never (pattern.fields row) (fact.fields fs) env e = never_taken row fs env e
parts_never (pattern.fields row) (fact.slots ss) env e = refl
parts_never (pattern.slots rows) (fact.fields fs) env e = refl
parts_never (pattern.slots rows) (fact.slots ss) env e = slots_never_taken rows ss env e

pub plain_fits : (p : PatternValue) (f : FactValue) → are_plain p.parts ≡ true → has_way (ways p f no_bindings) ≡ (may_take_parts p.parts f.content && bytes_eq p.relation f.relation)
plain_fits p f e = by (bytes_eq p.relation f.relation) (may_take_parts p.parts f.content) refl
  where
    by : (same may : Bool) → may_take_parts p.parts f.content ≡ may
        → has_way (if same then map (way_with p.parts no_bindings) (ways_of_parts p.parts f.content no_bindings) else []) ≡ may && same
    by true true d =
        let plain = and_parts (parts_take_ones p.parts) (parts_alone p.parts) e in
        ap (λ ts. has_way (map (way_with p.parts no_bindings) ts)) (parts_take p.parts f.content no_bindings plain.0 plain.1 d).1
    by true false d = ap (λ ts. has_way (map (way_with p.parts no_bindings) ts)) (parts_never p.parts f.content no_bindings d)
    by false true d = refl
    by false false d = refl
