-- The ways rise by their cuts.
use Rattle.std.proofs.Common.{arith, ◌≡◌, ◌⊎◌, ◌∙◌, ◌+◌, ◌<◌, inl, inr, Bool, true, false, ℕ, zero, suc, List, [], ◌∷◌, ◌++◌, Option, None, Some, ap, drop, length, map, refl, subst, sym, take}
use Rattle.std.proofs.lemmas.List.Elements.{All-cons, All-nil}
use Rattle.std.proofs.lemmas.List.Kept.{AllPairs-cons}
use Rattle.std.specs.Bool.{⊤}
use Rattle.std.specs.Cmp.{nat_cmp_is}
use Rattle.std.specs.Cmp.Lexicographic.{slice_cmp}
use Rattle.std.specs.List.{All, AllPairs, flat_map}
use Rattle.std.specs.Option.{option_map_or}
use Rattle.std.specs.Ordering.{nat_cmp, ordering_then}
use Rattle.std.specs.Prelude.{if◌then◌else◌}
use Rattle.std.specs.Str.{bytes_eq}
use Rattle.std.specs.declared.cmp.Ordering.{Ordering}
use Rattle.std.specs.declared.cmp.Ordering.TheVariants.{Less, Equal, Greater}
use Rattle.cb_constraints.specs.Constraints.{Constraint}
use Rattle.cb_constraints.specs.PatternValues.{PatternParts, PatternValue, SlotValue}
use Rattle.cb_constraints.specs.PatternValues as pattern
use Rattle.cb_exprs.specs.Bindings.{Bindings}
use Rattle.cb_facts.specs.Facts.{FactContent, FactValue}
use Rattle.cb_facts.specs.Facts as fact
use Rattle.cb_facts.specs.Values.{fields_in}
use Rattle.cb_facts.specs.declared.single.Single.{Single}
use Rattle.cb_facts.specs.declared.value.Value.{Value}
use Rattle.cb_fit.proofs.CutsFix.{cuts-as-many}
use Rattle.cb_fit.proofs.Listed.{Among, among-cases, among-flat-back, among-map-back, numbers-from}
use Rattle.cb_fit.proofs.Related.{slot-fits, step-back, StepBack, first_taken}
use Rattle.cb_fit.proofs.Rows.{step}
use Rattle.cb_fit.specs.Ways.{Taken, WayValue, after_cuts, after_segment, each_followed_by, numbers, slot_at, way_with, ways, ways_of_parts, ways_of_row, ways_of_slot, ways_of_slots}

-- the first has the shorter segment where their lengths first differ
abbrev pub Before : List ℕ → List ℕ → Type 0
Before one other = slice_cmp nat_cmp one other ≡ Less

abbrev pub Rising : List Taken → Type 0
Rising [] = ⊤
Rising (t ∷ ts) = ((u : Taken) → Among u ts → Before t.cuts u.cuts) × Rising ts

rising-both : (ts us : List Taken) → Rising ts → Rising us → ((t u : Taken) → Among t ts → Among u us → Before t.cuts u.cuts) → Rising (ts ++ us)
rising-both [] us h i between = i
rising-both (t ∷ ts) us h i between = (λ u m. by u (among-cases u ts us m), rising-both ts us h.1 i (λ v w m n. between v w (inr m) n))
  where
    by : (u : Taken) → Among u ts ⊎ Among u us → Before t.cuts u.cuts
    by u (inl m) = h.0 u m
    by u (inr m) = between t u (inl refl) m

smaller-first : (n m : ℕ) (ns ms : List ℕ) → n < m → Before (n ∷ ns) (m ∷ ms)
smaller-first n m ns ms h = ap (λ o. ordering_then o (slice_cmp nat_cmp ns ms)) (sym (nat_cmp_is n m Less h))

-- the same lengths in front change nothing
same-in-front : (ns one other : List ℕ) → Before one other → Before (ns ++ one) (ns ++ other)
same-in-front [] one other h = h
same-in-front (n ∷ ns) one other h = ap (λ o. ordering_then o (slice_cmp nat_cmp (ns ++ one) (ns ++ other))) (sym (nat_cmp_is n n Equal refl)) ∙ same-in-front ns one other h

then-less : (o : Ordering) (p q : Ordering) → (p ≡ Less → q ≡ Less) → ordering_then o p ≡ Less → ordering_then o q ≡ Less
then-less Less p q f h = refl
then-less Equal p q f h = f h
then-less Greater p q f h = h

-- nor does what follows equally many that differ
decided : (ns ms one other : List ℕ) → length ns ≡ length ms → Before ns ms → Before (ns ++ one) (ms ++ other)
decided [] [] one other n h = absurd (apart h)
  where
    apart : Equal ≡ Less → ⊥
    apart e = cc
decided [] (m ∷ ms) one other n h = absurd (omega arith)
decided (n ∷ ns) [] one other e h = absurd (omega arith)
decided (n ∷ ns) (m ∷ ms) one other e h =
    then-less (nat_cmp n m) (slice_cmp nat_cmp ns ms) (slice_cmp nat_cmp (ns ++ one) (ms ++ other)) (decided ns ms one other (omega arith)) h

rising-after : (ns : List ℕ) (ts : List Taken) → Rising ts → Rising (map (after_cuts ns) ts)
rising-after ns [] h = tt
rising-after ns (t ∷ ts) h =
    (λ u m. let w = among-map-back (after_cuts ns) u ts m in subst (λ v. Before (ns ++ t.cuts) v.cuts) w.1 (same-in-front ns t.cuts w.0.cuts (h.0 w.0 w.2)), rising-after ns ts h.1)

-- lengths that rise, each with ways that begin with it
rising-numbers : (f : ℕ → List Taken) (n k : ℕ) → ((i : ℕ) → Rising (f i)) → ((i : ℕ) (t : Taken) → Among t (f i) → (rest : List ℕ) × (i ∷ rest ≡ t.cuts)) → Rising (flat_map f (numbers n k))
rising-numbers f n zero h begins = tt
rising-numbers f n (suc k) h begins =
    rising-both (f n) (flat_map f (numbers (n + 1) k)) (h n) (rising-numbers f (n + 1) k h begins)
    (λ t u m l.
    let w = among-flat-back f u (numbers (n + 1) k) l in
    let at = numbers-from w.0 (n + 1) k w.1 in
    let is = at.1 in
    let first = begins n t m in
    let other = begins w.0 u w.2 in
    subst (λ x. Before x u.cuts) first.1 (subst (λ x. Before (n ∷ first.0) x) other.1 (smaller-first n w.0 first.0 other.0 (omega arith))))

no-more : (ts : List Taken) → Rising ts → Rising (ts ++ [])
no-more ts h = rising-both ts [] h tt (λ t u m l. absurd l)

rising-step : (next : Bindings → List Taken) (n : ℕ) (o : Option Bindings) → ((env : Bindings) → Rising (next env)) → Rising (each_followed_by next (first_taken n o))
rising-step next n None h = tt
rising-step next n (Some grown) h = no-more (map (after_cuts (n ∷ [])) (next grown)) (rising-after (n ∷ []) (next grown) (h grown))

begins-with : (next : Bindings → List Taken) (n : ℕ) (o : Option Bindings) (t : Taken) → StepBack next n o t → (rest : List ℕ) × (n ∷ rest ≡ t.cuts)
begins-with next n o t h = (h.1.cuts, ap (λ u. u.cuts) h.3)

row-rising : (cs : List Constraint) (fields : List Single) (env : Bindings) → Rising (ways_of_row cs fields env)
row-rising [] [] env = ((λ u m. absurd m), tt)
row-rising [] (f ∷ fs) env = tt
row-rising (c ∷ cs) fields env =
    rising-numbers (step c cs fields env) 0 (length fields + 1)
    (λ n. rising-step (ways_of_row cs (drop n fields)) n (after_segment c (take n fields) env) (row-rising cs (drop n fields)))
    (λ n t m. begins-with (ways_of_row cs (drop n fields)) n (after_segment c (take n fields) env) t (step-back (ways_of_row cs (drop n fields)) n (after_segment c (take n fields) env) t m))

slot-rising : (s : SlotValue) (env : Bindings) (o : Option Value) → Rising (option_map_or (λ v. ways_of_row s.row (fields_in v) env) o [])
slot-rising s env None = tt
slot-rising s env (Some v) = row-rising s.row (fields_in v) env

-- what comes of each of several that rise and are equally long
rising-then : (next : Bindings → List Taken) (k : ℕ) (firsts : List Taken) → ((env : Bindings) → Rising (next env)) → ((t : Taken) → Among t firsts → length t.cuts ≡ k) → Rising firsts → Rising (each_followed_by next firsts)
rising-then next k [] h long r = tt
rising-then next k (t ∷ ts) h long r =
    rising-both (map (after_cuts t.cuts) (next t.env)) (each_followed_by next ts) (rising-after t.cuts (next t.env) (h t.env)) (rising-then next k ts h (λ u m. long u (inr m)) r.1)
    (λ v w m l.
    let one = among-map-back (after_cuts t.cuts) v (next t.env) m in
    let from = among-flat-back (λ u. map (after_cuts u.cuts) (next u.env)) w ts l in
    let other = among-map-back (after_cuts from.0.cuts) w (next from.0.env) from.2 in
    subst (λ x. Before x.cuts w.cuts) one.1 (subst (λ x. Before (t.cuts ++ one.0.cuts) x.cuts) other.1
    (decided t.cuts from.0.cuts one.0.cuts other.0.cuts (long t (inl refl) ∙ sym (long from.0 (inr from.1))) (r.0 from.0 from.1))))

slots-rising : (ss : List SlotValue) (slots : List (List ℕ × Value)) (env : Bindings) → Rising (ways_of_slots ss slots env)
slots-rising [] slots env = ((λ u m. absurd m), tt)
slots-rising (s ∷ ss) slots env =
    rising-then (ways_of_slots ss slots) (length s.row) (ways_of_slot s slots env) (slots-rising ss slots)
    (λ t m. let w = slot-fits s env t (slot_at s.place slots) m in cuts-as-many s.row (fields_in w.0) t.cuts env t.env w.2)
    (slot-rising s env (slot_at s.place slots))

parts-rising : (p : PatternParts) (f : FactContent) (env : Bindings) → Rising (ways_of_parts p f env)
parts-rising (pattern.fields row) (fact.fields fs) env = row-rising row fs env
parts-rising (pattern.fields row) (fact.slots ss) env = tt
parts-rising (pattern.slots rows) (fact.fields fs) env = tt
parts-rising (pattern.slots rows) (fact.slots ss) env = slots-rising rows ss env

abbrev InOrder : WayValue → WayValue → Type 0
InOrder v w = Before v.cuts w.cuts

all-later : (p : PatternParts) (before : Bindings) (t : Taken) (ts : List Taken) → ((u : Taken) → Among u ts → Before t.cuts u.cuts) → All (InOrder (way_with p before t)) (map (way_with p before) ts)
all-later p before t [] h = All-nil (InOrder (way_with p before t))
all-later p before t (u ∷ us) h =
    All-cons (InOrder (way_with p before t)) (way_with p before u) (map (way_with p before) us) (h u (inl refl)) (all-later p before t us (λ v m. h v (inr m)))

no-pairs : AllPairs InOrder []
no-pairs i j d lt below = absurd (omega arith)

in-order : (p : PatternParts) (before : Bindings) (ts : List Taken) → Rising ts → AllPairs InOrder (map (way_with p before) ts)
in-order p before [] h = no-pairs
in-order p before (t ∷ ts) h = AllPairs-cons InOrder (way_with p before t) (map (way_with p before) ts) (all-later p before t ts h.0) (in-order p before ts h.1)

pub rising : (p : PatternValue) (f : FactValue) (before : Bindings) → AllPairs InOrder (ways p f before)
rising p f before = of-relation (bytes_eq p.relation f.relation)
  where
    of-relation : (b : Bool) → AllPairs InOrder (if b then map (way_with p.parts before) (ways_of_parts p.parts f.content before) else [])
    of-relation true = in-order p.parts before (ways_of_parts p.parts f.content before) (parts-rising p.parts f.content before)
    of-relation false = no-pairs
