-- A constraint for a segment, and those for one field that follow it.
use Rattle.std.proofs.Common.{arith, ◌≡◌, ◌∙◌, ◌+◌, ◌-◌, ◌==◌, ◌<◌, ◌≤◌, Bool, true, false, List, ℕ, [], ◌∷◌, ◌++◌, Option, None, Some, ap, drop, length, map, refl, replicate, sym, take, slice_range, leb, nat_le}
use Rattle.std.proofs.lemmas.List.{append-nil, append_assoc, length-drop, map-append}
use Rattle.std.proofs.lemmas.Bool.{eqb-false, eqb-true, leb-false, leb-true}
use Rattle.std.specs.List.{flat_map}
use Rattle.std.specs.Option.{option_and_then}
use Rattle.std.specs.Prelude.{option_map, option_to_list, if◌then◌else◌}
use Rattle.cb_constraints.specs.Constraints.{Constraint}
use Rattle.cb_constraints.specs.Holding.{Meets}
use Rattle.cb_constraints.specs.Rows.{fields_wanted, segments_wanted}
use Rattle.cb_exprs.specs.Bindings.{Bindings}
use Rattle.cb_facts.specs.declared.single.Single.{Single}
use Rattle.cb_fit.proofs.Numbers.{at-both-ends, flat-flat, flat-same}
use Rattle.cb_fit.proofs.Places.{drop_past, drop_to}
use Rattle.cb_fit.proofs.Rows.{all-of-ones, cuts-together, nothing-follows, ones-before, ones_then, shorter, step, too-short}
use Rattle.cb_fit.specs.Internal.{Begun, after_ones, begun_at, begun_if, endings, env_after, takes_length, with_group}
use Rattle.cb_fit.specs.Ways.{Taken, after_cuts, after_segment, each_followed_by, numbers, ways_of_row, with_length}
use Rattle.cb_fit.specs.Internal.Searches.{SearchValue}

abbrev pub grown_to : Begun → ℕ → ℕ → Bindings → Begun
grown_to b n k grown = record { cuts = b.cuts ++ (n ∷ replicate k 1); left = drop k (drop n b.left); env = grown }

-- the beginning that is kept
pub made : (c : Constraint) (os : List Constraint) (fields : List Single) (cuts more : List ℕ) (from to at : ℕ) (env g1 g2 : Bindings)
    → from ≤ to → at ≡ to + length os → more ≡ cuts ++ ((to - from) ∷ replicate (length os) 1)
    → after_segment c (slice_range fields from to) env ≡ Some g1 → after_ones os (drop to fields) g1 ≡ Some g2
    → with_group c os (record { cuts = cuts; left = drop from fields; env = env }) (to - from) ≡ record { cuts = more; left = drop at fields; env = g2 } ∷ []
made c os fields cuts more from to at env g1 g2 h e m s o =
    ap (λ x. option_to_list (option_map (grown_to (record { cuts = cuts; left = drop from fields; env = env }) (to - from) (length os)) (option_and_then (after_ones os (drop (to - from) (drop from fields))) x))) s
    ∙ (ap (λ x. option_to_list (option_map (grown_to (record { cuts = cuts; left = drop from fields; env = env }) (to - from) (length os)) (after_ones os x g1))) (drop_to fields from to h)
    ∙ (ap (λ x. option_to_list (option_map (grown_to (record { cuts = cuts; left = drop from fields; env = env }) (to - from) (length os)) x)) o
    ∙ (ap (λ x. record { cuts = x; left = drop (length os) (drop (to - from) (drop from fields)); env = g2 } ∷ []) (sym m)
    ∙ ap (λ x. record { cuts = more; left = x; env = g2 } ∷ []) (drop_past fields from to (length os) at h e))))

none-of : {X : Type 0} (f : Bindings → X) (next : Bindings → Option Bindings) (o : Option Bindings) → ((g : Bindings) → next g ≡ None) → option_to_list (option_map f (option_and_then next o)) ≡ []
none-of f next None h = refl
none-of f next (Some g) h = ap (λ x. option_to_list (option_map f x)) (h g)

-- none is, where those for one field take nothing
pub none-made : (c : Constraint) (os : List Constraint) (fields : List Single) (cuts : List ℕ) (from to : ℕ) (env : Bindings)
    → from ≤ to → ((g : Bindings) → after_ones os (drop to fields) g ≡ None)
    → with_group c os (record { cuts = cuts; left = drop from fields; env = env }) (to - from) ≡ []
none-made c os fields cuts from to env h e =
    none-of (grown_to (record { cuts = cuts; left = drop from fields; env = env }) (to - from) (length os)) (after_ones os (drop (to - from) (drop from fields)))
    (after_segment c (take (to - from) (drop from fields)) env) (λ g. ap (λ x. after_ones os x g) (drop_to fields from to h) ∙ e g)

-- nor where the constraint for the segment holds and those for one field don't
pub none-after : (c : Constraint) (os : List Constraint) (fields : List Single) (cuts : List ℕ) (from to : ℕ) (env grown : Bindings)
    → from ≤ to → after_segment c (slice_range fields from to) env ≡ Some grown → after_ones os (drop to fields) grown ≡ None
    → with_group c os (record { cuts = cuts; left = drop from fields; env = env }) (to - from) ≡ []
none-after c os fields cuts from to env grown h s o =
    ap (λ x. option_to_list (option_map (grown_to (record { cuts = cuts; left = drop from fields; env = env }) (to - from) (length os)) (option_and_then (after_ones os (drop (to - from) (drop from fields))) x))) s
    ∙ (ap (λ x. option_to_list (option_map (grown_to (record { cuts = cuts; left = drop from fields; env = env }) (to - from) (length os)) (after_ones os x grown))) (drop_to fields from to h)
    ∙ ap (λ x. option_to_list (option_map (grown_to (record { cuts = cuts; left = drop from fields; env = env }) (to - from) (length os)) x)) o)

-- the same by what a test said of those for one field
pub group-taken : (s : SearchValue) (c : Constraint) (os : List Constraint) (fields : List Single) (cuts mid new : List ℕ) (from to at : ℕ) (holds : Bool)
    → from ≤ to → at ≡ to + length os → mid ≡ cuts ++ (to - from) ∷ [] → (holds ≡ true → new ≡ mid ++ replicate (length os) 1)
    → after_segment c (slice_range fields from to) (env_after s cuts) ≡ Some (env_after s mid) → Meets holds (env_after s new) (after_ones os (drop to fields) (env_after s mid))
    → with_group c os (begun_at s fields cuts from) (to - from) ≡ begun_if holds (begun_at s fields new at)
group-taken s c os fields cuts mid new from to at true h e m n seg met =
    made c os fields cuts new from to at (env_after s cuts) (env_after s mid) (env_after s new) h e
    (n refl ∙ (ap (λ xs. xs ++ replicate (length os) 1) m ∙ append_assoc cuts ((to - from) ∷ []) (replicate (length os) 1))) seg met
group-taken s c os fields cuts mid new from to at false h e m n seg met = none-after c os fields cuts from to (env_after s cuts) (env_after s mid) h seg met

-- what becomes of it
pub after-group : (rest os : List Constraint) (b : Begun) (n : ℕ) (after : Option Bindings)
    → flat_map (endings rest) (option_to_list (option_map (grown_to b n (length os)) after))
    ≡ map (after_cuts b.cuts) (map (after_cuts (n ∷ [])) (ones_then rest (length os) (drop n b.left) after))
after-group rest os b n None = refl
after-group rest os b n (Some grown) =
    append-nil (map (after_cuts (b.cuts ++ (n ∷ replicate (length os) 1))) (ways_of_row rest (drop (length os) (drop n b.left)) grown))
    ∙ sym (ap (map (after_cuts b.cuts)) (cuts-together (n ∷ []) (replicate (length os) 1) (ways_of_row rest (drop (length os) (drop n b.left)) grown))
    ∙ cuts-together b.cuts (n ∷ replicate (length os) 1) (ways_of_row rest (drop (length os) (drop n b.left)) grown))

pub of-one-length : (rest os : List Constraint) (b : Begun) (n : ℕ) (after : Option Bindings) → segments_wanted os ≡ 0
    → flat_map (endings rest) (option_to_list (option_map (grown_to b n (length os)) (option_and_then (after_ones os (drop n b.left)) after)))
    ≡ map (after_cuts b.cuts) (each_followed_by (ways_of_row (os ++ rest) (drop n b.left)) (option_to_list (option_map (λ grown. record { cuts = n ∷ []; env = grown }) after)))
of-one-length rest os b n None e = refl
of-one-length rest os b n (Some grown) e =
    after-group rest os b n (after_ones os (drop n b.left) grown)
    ∙ (ap (λ ts. map (after_cuts b.cuts) (map (after_cuts (n ∷ [])) ts)) (sym (ones-before os rest (drop n b.left) grown e))
    ∙ ap (map (after_cuts b.cuts)) (sym (append-nil (map (after_cuts (n ∷ [])) (ways_of_row (os ++ rest) (drop n b.left) grown)))))

pub map-of-all : {X : Type 0} (f : Taken → Taken) (g : X → List Taken) (xs : List X) → flat_map (λ x. map f (g x)) xs ≡ map f (flat_map g xs)
map-of-all f g [] = refl
map-of-all f g (x ∷ xs) = ap (λ ts. map f (g x) ++ ts) (map-of-all f g xs) ∙ sym (map-append f (g x) (flat_map g xs))

-- lengths that leave too few fields, or too many where no segment follows
pub leaves-too-few : (c : Constraint) (cs : List Constraint) (fields : List Single) (env : Bindings) (i : ℕ) → length fields - i < fields_wanted cs → step c cs fields env i ≡ []
leaves-too-few c cs fields env i h = nothing-follows (ways_of_row cs (drop i fields)) (with_length c fields env i) (λ e. too-short cs (drop i fields) e (shorter fields i (fields_wanted cs) h))

pub longer : (xs : List Single) (i m : ℕ) → m < length xs - i → m < length (drop i xs)
longer xs i m h = rw (length-drop i xs) h

pub leaves-too-many : (c : Constraint) (cs : List Constraint) (fields : List Single) (env : Bindings) (i : ℕ) → segments_wanted cs ≡ 0 → fields_wanted cs < length fields - i → step c cs fields env i ≡ []
leaves-too-many c cs fields env i e h = nothing-follows (ways_of_row cs (drop i fields)) (with_length c fields env i) (λ g. all-of-ones cs (drop i fields) g e (longer fields i (fields_wanted cs) h))

-- the lengths to try are enough: all of them, or those from one on where no segment follows
pub lengths-enough : (c : Constraint) (cs : List Constraint) (fields : List Single) (env : Bindings) (first spare : ℕ) → first ≤ spare → (0 < first → segments_wanted cs ≡ 0)
    → length fields ≡ fields_wanted cs + spare
    → flat_map (step c cs fields env) (numbers 0 (length fields + 1)) ≡ flat_map (step c cs fields env) (numbers first (spare + 1 - first))
lengths-enough c cs fields env first spare h last e =
    at-both-ends (step c cs fields env) first (spare + 1 - first) (length fields + 1) (omega arith)
    (λ i a. leaves-too-many c cs fields env i (last (omega arith)) (omega arith))
    (λ i a b. leaves-too-few c cs fields env i (omega arith))

-- all that becomes of a beginning
pub group-step : (c : Constraint) (os rest : List Constraint) (b : Begun) (first spare : ℕ)
    → segments_wanted os ≡ 0 → first ≤ spare → (0 < first → segments_wanted (os ++ rest) ≡ 0) → length b.left ≡ fields_wanted (os ++ rest) + spare
    → flat_map (endings rest) (flat_map (with_group c os b) (numbers first (spare + 1 - first))) ≡ endings (c ∷ (os ++ rest)) b
group-step c os rest b first spare o h last e =
    flat-flat (endings rest) (with_group c os b) (numbers first (spare + 1 - first))
    ∙ (flat-same (λ n. flat_map (endings rest) (with_group c os b n)) (λ n. map (after_cuts b.cuts) (step c (os ++ rest) b.left b.env n)) (numbers first (spare + 1 - first)) (λ n. of-one-length rest os b n (after_segment c (take n b.left) b.env) o)
    ∙ (map-of-all (after_cuts b.cuts) (step c (os ++ rest) b.left b.env) (numbers first (spare + 1 - first))
    ∙ ap (map (after_cuts b.cuts)) (sym (lengths-enough c (os ++ rest) b.left b.env first spare h last e))))

pub as-wanted : (segment : Bool) (n m : ℕ) → n < m → n < (if segment then 0 else 1) + m
as-wanted true n m h = omega arith
as-wanted false n m h = omega arith

-- nothing becomes of one with too few fields left
pub nothing-becomes : (c : Constraint) (cs : List Constraint) (b : Begun) → length b.left < fields_wanted cs → endings (c ∷ cs) b ≡ []
nothing-becomes c cs b h = ap (map (after_cuts b.cuts)) (too-short (c ∷ cs) b.left b.env (as-wanted c.segment (length b.left) (fields_wanted cs) h))

-- a choice, which is for all that becomes of the beginning
pub no-segments : (os rest : List Constraint) → segments_wanted os ≡ 0 → rest ≡ [] → segments_wanted (os ++ rest) ≡ 0
no-segments os rest e r = ap (λ cs. segments_wanted (os ++ cs)) r ∙ (ap segments_wanted (append-nil os) ∙ e)

pub choice-done : (c : Constraint) (os rest : List Constraint) (fields : List Single) (b : Begun) (at to last wanted : ℕ)
    → segments_wanted os ≡ 0 → wanted ≡ fields_wanted (os ++ rest) → wanted ≤ length fields → last ≡ length fields - wanted → at ≤ to → to ≤ last
    → (at < to → rest ≡ []) → b.left ≡ drop at fields
    → flat_map (endings rest) (flat_map (with_group c os b) (numbers (to - at) (last + 1 - to))) ≡ endings (c ∷ (os ++ rest)) b
choice-done c os rest fields b at to last wanted o w h l a d r e =
    ap (λ k. flat_map (endings rest) (flat_map (with_group c os b) (numbers (to - at) k))) (omega arith)
    ∙ group-step c os rest b (to - at) (last - at) o (omega arith) (λ t. no-segments os rest o (r (omega arith)))
    (ap length e ∙ (length-drop at fields ∙ (omega arith ∙ ap (λ k. k + (last - at)) w)))

pub group_skipped : (c : Constraint) (cs : List Constraint) (fields : List Single) (b : Begun) (at wanted : ℕ)
    → wanted ≡ fields_wanted cs → length fields - at < wanted → b.left ≡ drop at fields → endings (c ∷ cs) b ≡ []
group_skipped c cs fields b at wanted w h d =
    nothing-becomes c cs b (rw d (shorter-than w))
  where
    shorter-than : wanted ≡ fields_wanted cs → length (drop at fields) < fields_wanted cs
    shorter-than e = rw (sym e) (shorter fields at wanted (omega arith))

-- a row that can't take so many fields has no ways
pub wrong-length : (cs : List Constraint) (fields : List Single) (env : Bindings) → takes_length cs (length fields) ≡ false → ways_of_row cs fields env ≡ []
wrong-length cs fields env h = by-kind (segments_wanted cs == 0) refl h
  where
    by-kind : (ones : Bool) → (segments_wanted cs == 0) ≡ ones → (if ones then length fields == fields_wanted cs else nat_le (fields_wanted cs) (length fields)) ≡ false → ways_of_row cs fields env ≡ []
    by-kind true o e = by-order (leb (fields_wanted cs) (length fields)) refl
      where
        by-order : (enough : Bool) → leb (fields_wanted cs) (length fields) ≡ enough → ways_of_row cs fields env ≡ []
        by-order false l = too-short cs fields env (leb-false (fields_wanted cs) (length fields) l)
        by-order true l = all-of-ones cs fields env (eqb-true (segments_wanted cs) 0 o) (more (leb-true (fields_wanted cs) (length fields) l) (eqb-false (length fields) (fields_wanted cs) e))
          where
            more : fields_wanted cs ≤ length fields → (length fields ≡ fields_wanted cs → ⊥) → fields_wanted cs < length fields
            more a d = omega (arith, d)
    by-kind false o e = too-short cs fields env (leb-false (fields_wanted cs) (length fields) e)

-- a row after constraints for one field, if these hold
pub leading-some : (os cs : List Constraint) (fields : List Single) (cuts : List ℕ) (env grown : Bindings) → segments_wanted os ≡ 0 → after_ones os fields env ≡ Some grown
    → map (after_cuts cuts) (ways_of_row (os ++ cs) fields env) ≡ endings cs (record { cuts = cuts ++ replicate (length os) 1; left = drop (length os) fields; env = grown })
leading-some os cs fields cuts env grown e h =
    ap (map (after_cuts cuts)) (ones-before os cs fields env e ∙ ap (ones_then cs (length os) fields) h)
    ∙ cuts-together cuts (replicate (length os) 1) (ways_of_row cs (drop (length os) fields) grown)

pub leading-none : (os cs : List Constraint) (fields : List Single) (env : Bindings) → segments_wanted os ≡ 0 → after_ones os fields env ≡ None → ways_of_row (os ++ cs) fields env ≡ []
leading-none os cs fields env e h = ones-before os cs fields env e ∙ ap (ones_then cs (length os) fields) h
