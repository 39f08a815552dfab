-- The list of ways has all that the condition alone allows, and nothing else.
use Rattle.std.proofs.Common.{arith, ◌≡◌, ◌⊎◌, ◌∙◌, ◌+◌, ◌≤◌, inl, inr, Bool, true, false, ℕ, List, [], ◌∷◌, ◌++◌, Option, None, Some, ap, drop, length, map, refl, subst, sym, take}
use Rattle.std.proofs.Math.Seq.{take-append_seam, drop-append_seam}
use Rattle.std.proofs.lemmas.List.{length-take-le, take-append-drop, length-append}
use Rattle.std.specs.List.{Contains, flat_map}
use Rattle.std.specs.Cmp.Lexicographic.{bytes_decides}
use Rattle.std.specs.Option.{option_map_or}
use Rattle.std.specs.Prelude.{option_map, option_to_list, if◌then◌else◌}
use Rattle.std.specs.Str.{bytes_eq}
use Rattle.cb_constraints.specs.Constraints.{Constraint}
use Rattle.cb_constraints.specs.PatternValues.{PatternParts, PatternValue, SlotValue}
use Rattle.cb_constraints.specs.PatternValues as pattern
use Rattle.cb_exprs.specs.Bindings.{Bindings}
use Rattle.cb_facts.specs.Facts.{FactContent, FactValue}
use Rattle.cb_facts.specs.Facts as fact
use Rattle.cb_facts.specs.Values.{fields_in}
use Rattle.cb_facts.specs.declared.single.Single.{Single}
use Rattle.cb_facts.specs.declared.value.Value.{Value}
use Rattle.cb_fit.proofs.Listed.{Among, among-contained, among-flat, among-flat-back, among-left, among-map, among-map-back, among-numbers, among-cases, contains-among, numbers-from}
use Rattle.cb_fit.proofs.Rows.{step}
use Rattle.cb_fit.specs.Related.{Fits, HoldInTurn, PartsFit, RowFits, SlotsFit}
use Rattle.cb_fit.specs.Ways.{Taken, WayValue, after_cuts, after_segment, each_followed_by, numbers, slot_at, taken_way, way_with, ways, ways_of_parts, ways_of_row, ways_of_slot, ways_of_slots}

-- what was taken so far, and what variables have
abbrev pub took : List ℕ → Bindings → Taken
took cuts env = record { cuts = cuts; env = env }

-- what the first of several takes, if it holds
abbrev pub first_taken : ℕ → Option Bindings → List Taken
first_taken n o = option_to_list (option_map (λ grown. took (n ∷ []) grown) o)

pub stepped : (next : Bindings → List Taken) (n : ℕ) (o : Option Bindings) (grown : Bindings) (t : Taken) → o ≡ Some grown → Among t (next grown) → Among (after_cuts (n ∷ []) t) (each_followed_by next (first_taken n o))
stepped next n o grown t e h =
    subst (λ p. Among (after_cuts (n ∷ []) t) (each_followed_by next (first_taken n p))) (sym e)
    (among-left (after_cuts (n ∷ []) t) (map (after_cuts (n ∷ [])) (next grown)) [] (among-map (after_cuts (n ∷ [])) t (next grown) h))

abbrev pub StepBack : (Bindings → List Taken) → ℕ → Option Bindings → Taken → Type 0
StepBack next n o t = (grown : Bindings) × (u : Taken) × (o ≡ Some grown) × (after_cuts (n ∷ []) u ≡ t) × Among u (next grown)

pub step-back : (next : Bindings → List Taken) (n : ℕ) (o : Option Bindings) (t : Taken) → Among t (each_followed_by next (first_taken n o)) → StepBack next n o t
step-back next n None t h = absurd h
step-back next n (Some grown) t h = by (among-cases t (map (after_cuts (n ∷ [])) (next grown)) [] h)
  where
    by : Among t (map (after_cuts (n ∷ [])) (next grown)) ⊎ ⊥ → StepBack next n (Some grown) t
    by (inl i) = let w = among-map-back (after_cuts (n ∷ [])) t (next grown) i in (grown, w.0, refl, w.1, w.2)
    by (inr i) = absurd i

-- segments of which the constraints hold in turn are a way
turn-listed : (cs : List Constraint) (ss : List (List Single)) (before after : Bindings) → HoldInTurn cs ss before after
    → Among (took (map length ss) after) (ways_of_row cs (flat_map (λ s. s) ss) before)
turn-listed [] [] before after e = inl (ap (took []) e)
turn-listed [] (s ∷ ss) before after h = absurd h
turn-listed (c ∷ cs) [] before after h = absurd h
turn-listed (c ∷ cs) (s ∷ ss) before after h =
    let rest = flat_map (λ x. x) ss in
    let long = length-append s rest in
    among-flat (step c cs (s ++ rest) before) (length s) (took (length s ∷ map length ss) after) (numbers 0 (length (s ++ rest) + 1))
    (among-numbers (length s) 0 (length (s ++ rest) + 1) (length s) (omega arith) (omega arith))
    (stepped (ways_of_row cs (drop (length s) (s ++ rest))) (length s) (after_segment c (take (length s) (s ++ rest)) before) h.0 (took (map length ss) after)
    (ap (λ x. after_segment c x before) (take-append_seam s rest) ∙ h.1)
    (subst (λ x. Among (took (map length ss) after) (ways_of_row cs x h.0)) (sym (drop-append_seam s rest)) (turn-listed cs ss h.0 after h.2)))

pub row-listed : (cs : List Constraint) (fields : List Single) (cuts : List ℕ) (before after : Bindings) → RowFits cs fields cuts before after → Among (took cuts after) (ways_of_row cs fields before)
row-listed cs fields cuts before after h =
    subst (λ x. Among (took x after) (ways_of_row cs fields before)) h.2
    (subst (λ x. Among (took (map length h.0) after) (ways_of_row cs x before)) h.1 (turn-listed cs h.0 before after h.3))

-- one segment more in front
longer : (c : Constraint) (cs : List Constraint) (fields : List Single) (before grown after : Bindings) (n : ℕ) (cuts : List ℕ) → n ≤ length fields
    → after_segment c (take n fields) before ≡ Some grown → RowFits cs (drop n fields) cuts grown after → RowFits (c ∷ cs) fields (n ∷ cuts) before after
longer c cs fields before grown after n cuts le e h =
    (take n fields ∷ h.0, ap (λ x. take n fields ++ x) h.1 ∙ take-append-drop n fields, ap (λ m. m ∷ map length h.0) (length-take-le n fields le) ∙ ap (λ ms. n ∷ ms) h.2, (grown, e, h.3))

-- and each way is one
pub row-fits : (cs : List Constraint) (fields : List Single) (before : Bindings) (t : Taken) → Among t (ways_of_row cs fields before) → RowFits cs fields t.cuts before t.env
row-fits [] [] before t (inl e) = ([], refl, ap (λ u. u.cuts) e, ap (λ u. u.env) e)
row-fits [] [] before t (inr h) = absurd h
row-fits [] (f ∷ fs) before t h = absurd h
row-fits (c ∷ cs) fields before t h =
    let w = among-flat-back (step c cs fields before) t (numbers 0 (length fields + 1)) h in
    let n = w.0 in
    let at = numbers-from n 0 (length fields + 1) w.1 in
    let same = at.1 in
    let below = at.2 in
    let b = step-back (ways_of_row cs (drop n fields)) n (after_segment c (take n fields) before) t w.2 in
    subst (λ u. RowFits (c ∷ cs) fields u.cuts before u.env) b.3
    (longer c cs fields before b.0 b.1.env n b.1.cuts (omega arith) b.2 (row-fits cs (drop n fields) b.0 b.1 b.4))

slot-listed : (s : SlotValue) (slots : List (List ℕ × Value)) (v : Value) (cuts : List ℕ) (before after : Bindings) (o : Option Value) → o ≡ Some v → RowFits s.row (fields_in v) cuts before after
    → Among (took cuts after) (option_map_or (λ x. ways_of_row s.row (fields_in x) before) o [])
slot-listed s slots v cuts before after o e h =
    subst (λ p. Among (took cuts after) (option_map_or (λ x. ways_of_row s.row (fields_in x) before) p [])) (sym e) (row-listed s.row (fields_in v) cuts before after h)

pub slot-fits : (s : SlotValue) (before : Bindings) (t : Taken) (o : Option Value) → Among t (option_map_or (λ x. ways_of_row s.row (fields_in x) before) o [])
    → (v : Value) × (o ≡ Some v) × RowFits s.row (fields_in v) t.cuts before t.env
slot-fits s before t None h = absurd h
slot-fits s before t (Some v) h = (v, refl, row-fits s.row (fields_in v) before t h)

pub slots-listed : (ss : List SlotValue) (slots : List (List ℕ × Value)) (cuts : List ℕ) (before after : Bindings) → SlotsFit ss slots cuts before after → Among (took cuts after) (ways_of_slots ss slots before)
slots-listed [] slots cuts before after (e, d) = inl (ap (λ x. took x before) (sym e) ∙ ap (took cuts) d)
slots-listed (s ∷ ss) slots cuts before after (v, own, others, grown, is, joined, first, more) =
    subst (λ x. Among (took x after) (ways_of_slots (s ∷ ss) slots before)) (sym joined)
    (among-flat (λ t. map (after_cuts t.cuts) (ways_of_slots ss slots t.env)) (took own grown) (took (own ++ others) after) (ways_of_slot s slots before)
    (slot-listed s slots v own before grown (slot_at s.place slots) is first)
    (among-map (after_cuts own) (took others after) (ways_of_slots ss slots grown) (slots-listed ss slots others grown after more)))

pub slots-fit : (ss : List SlotValue) (slots : List (List ℕ × Value)) (before : Bindings) (t : Taken) → Among t (ways_of_slots ss slots before) → SlotsFit ss slots t.cuts before t.env
slots-fit [] slots before t (inl e) = (sym (ap (λ u. u.cuts) e), ap (λ u. u.env) e)
slots-fit [] slots before t (inr h) = absurd h
slots-fit (s ∷ ss) slots before t h =
    let w = among-flat-back (λ u. map (after_cuts u.cuts) (ways_of_slots ss slots u.env)) t (ways_of_slot s slots before) h in
    let first = slot-fits s before w.0 (slot_at s.place slots) w.1 in
    let more = among-map-back (after_cuts w.0.cuts) t (ways_of_slots ss slots w.0.env) w.2 in
    subst (λ u. SlotsFit (s ∷ ss) slots u.cuts before u.env) more.1
    (first.0, w.0.cuts, more.0.cuts, w.0.env, first.1, refl, first.2, slots-fit ss slots w.0.env more.0 more.2)

parts-listed : (p : PatternParts) (f : FactContent) (cuts : List ℕ) (before after : Bindings) → PartsFit p f cuts before after → Among (took cuts after) (ways_of_parts p f before)
parts-listed (pattern.fields row) (fact.fields fs) cuts before after h = row-listed row fs cuts before after h
parts-listed (pattern.fields row) (fact.slots ss) cuts before after h = absurd h
parts-listed (pattern.slots rows) (fact.fields fs) cuts before after h = absurd h
parts-listed (pattern.slots rows) (fact.slots ss) cuts before after h = slots-listed rows ss cuts before after h

parts-fit : (p : PatternParts) (f : FactContent) (before : Bindings) (t : Taken) → Among t (ways_of_parts p f before) → PartsFit p f t.cuts before t.env
parts-fit (pattern.fields row) (fact.fields fs) before t h = row-fits row fs before t h
parts-fit (pattern.fields row) (fact.slots ss) before t h = absurd h
parts-fit (pattern.slots rows) (fact.fields fs) before t h = absurd h
parts-fit (pattern.slots rows) (fact.slots ss) before t h = slots-fit rows ss before t h

pub listed : (p : PatternValue) (f : FactValue) (cuts : List ℕ) (before after : Bindings) → Fits p f cuts before after → Contains (ways p f before) (taken_way p before cuts after)
listed p f cuts before after h =
    contains-among (taken_way p before cuts after) (ways p f before)
    (of-relation (bytes_eq p.relation f.relation) ((bytes_decides p.relation f.relation).1 h.0)
    (among-map (way_with p.parts before) (took cuts after) (ways_of_parts p.parts f.content before) (parts-listed p.parts f.content cuts before after h.1)))
  where
    of-relation : (b : Bool) → b ≡ true → Among (taken_way p before cuts after) (map (way_with p.parts before) (ways_of_parts p.parts f.content before))
        → Among (taken_way p before cuts after) (if b then map (way_with p.parts before) (ways_of_parts p.parts f.content before) else [])
    of-relation true e i = i
    of-relation false e i = let never : false ≡ true = e in cc

abbrev FitsSo : PatternValue → FactValue → Bindings → WayValue → Type 0
FitsSo p f before w = (after : Bindings) × Fits p f w.cuts before after × (w ≡ taken_way p before w.cuts after)

pub fitting : (p : PatternValue) (f : FactValue) (before : Bindings) (w : WayValue) → Contains (ways p f before) w → FitsSo p f before w
fitting p f before w h = of-relation (bytes_eq p.relation f.relation) (bytes_decides p.relation f.relation).0 (among-contained w (ways p f before) h)
  where
    of-relation : (b : Bool) → (b ≡ true → p.relation ≡ f.relation) → Among w (if b then map (way_with p.parts before) (ways_of_parts p.parts f.content before) else []) → FitsSo p f before w
    of-relation true same i =
        let back = among-map-back (way_with p.parts before) w (ways_of_parts p.parts f.content before) i in
        subst (FitsSo p f before) back.1 (back.0.env, (same refl, parts-fit p.parts f.content before back.0 back.2), refl)
    of-relation false same i = absurd i
