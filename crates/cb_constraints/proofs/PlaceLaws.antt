-- Each variable once with its first place, and how one is found among them.
use Rattle.std.proofs.Common.{◌≡◌, ◌∙◌, ◌&&◌, ◌||◌, ◌++◌, ℕ, suc, Bool, true, false, cond, not, is_some, All, List, [], ◌∷◌, Option, None, Some, ap, append-nil, append_assoc, eqb-true, filter, map, nat_eq, refl, sym, if◌then◌else◌}
use Rattle.std.proofs.lemmas.List.{map-append}
use Rattle.std.proofs.lemmas.List.Elements.{All-cons, All-head, All-nil, All-tail}
use Rattle.std.proofs.lemmas.List.Folds.{list_any-append}
use Rattle.std.specs.Option.{option_and_then, option_map}
use Rattle.std.specs.Cmp.Lexicographic.{bytes_decides}
use Rattle.std.specs.List.{slice_get}
use Rattle.std.specs.Map.{lookup}
use Rattle.std.specs.Str.{bytes_eq}
use Rattle.cb_constraints.specs.Bound.{each_once}
use Rattle.cb_constraints.specs.Internal.Places.{has_place, if_before, is_before}
use Rattle.cb_constraints.specs.Internal.Tables.{first_places, has_variable, with_place, with_places}
use Rattle.cb_constraints.specs.declared.place.Place.{Place}
use Rattle.cb_facts.specs.Places.{place_in}

turned : (x y : List ℕ) → bytes_eq x y ≡ bytes_eq y x
turned x y = by (bytes_eq x y) (bytes_eq y x) (bytes_decides x y).0 (bytes_decides x y).1 (bytes_decides y x).0 (bytes_decides y x).1
  where
    by : (a b : Bool) → (a ≡ true → x ≡ y) → (x ≡ y → a ≡ true) → (b ≡ true → y ≡ x) → (y ≡ x → b ≡ true) → a ≡ b
    by true b f g h i = sym (i (sym (f refl)))
    by false false f g h i = refl
    by false true f g h i = g (sym (h refl))

-- a variable is found by the number of its name
pub found : (x : List ℕ) (names : List (List ℕ)) (es : List (List ℕ × Place)) → names ≡ map (λ e. e.0) es
    → option_and_then (λ i. option_map (λ e. e.1) (slice_get es i)) (place_in names x) ≡ lookup (bytes_eq x) es
found x names es named = ap (λ ns. option_and_then (λ i. option_map (λ e. e.1) (slice_get es i)) (place_in ns x)) named ∙ among es
  where
    among : (es : List (List ℕ × Place)) → option_and_then (λ i. option_map (λ e. e.1) (slice_get es i)) (place_in (map (λ e. e.0) es) x) ≡ lookup (bytes_eq x) es
    among [] = refl
    among (e ∷ es) =
        ap (λ b. option_and_then (λ i. option_map (λ d. d.1) (slice_get (e ∷ es) i)) (cond b (Some 0) (option_map suc (place_in (map (λ d. d.0) es) x)))) (turned e.0 x)
        ∙ by (bytes_eq x e.0) (place_in (map (λ d. d.0) es) x) (among es)
      where
        by : (b : Bool) (o : Option ℕ) → option_and_then (λ i. option_map (λ d. d.1) (slice_get es i)) o ≡ lookup (bytes_eq x) es
            → option_and_then (λ i. option_map (λ d. d.1) (slice_get (e ∷ es) i)) (cond b (Some 0) (option_map suc o)) ≡ cond b (Some e.1) (lookup (bytes_eq x) es)
        by true o later = refl
        by false None later = later
        by false (Some i) later = later

-- it is among them where its name is
has-name : (x : List ℕ) (es : List (List ℕ × Place)) → is_some (place_in (map (λ e. e.0) es) x) ≡ has_variable x es
has-name x [] = refl
has-name x (e ∷ es) =
    ap (λ b. is_some (cond b (Some 0) (option_map suc (place_in (map (λ d. d.0) es) x)))) (turned e.0 x)
    ∙ by (bytes_eq x e.0) (place_in (map (λ d. d.0) es) x) (has-name x es)
  where
    by : (b : Bool) (o : Option ℕ) → is_some o ≡ has_variable x es → is_some (cond b (Some 0) (option_map suc o)) ≡ (b || has_variable x es)
    by true o later = refl
    by false None later = later
    by false (Some i) later = later

pub placed : (x : List ℕ) (p : Place) (names : List (List ℕ)) (es : List (List ℕ × Place)) (b : Bool) → names ≡ map (λ e. e.0) es → is_some (place_in names x) ≡ b
    → with_places es ((x, p) ∷ []) ≡ (if b then es else es ++ (x, p) ∷ [])
placed x p names es b named is = ap (λ t. if t then es else es ++ (x, p) ∷ []) (sym (has-name x es) ∙ (ap (λ ns. is_some (place_in ns x)) (sym named) ∙ is))

pub named_too : (x : List ℕ) (p : Place) (names : List (List ℕ)) (es : List (List ℕ × Place)) → names ≡ map (λ e. e.0) es → names ++ x ∷ [] ≡ map (λ e. e.0) (es ++ (x, p) ∷ [])
named_too x p names es named = ap (λ ns. ns ++ x ∷ []) named ∙ sym (map-append (λ e. e.0) es ((x, p) ∷ []))

pub with_both : (es fs gs : List (List ℕ × Place)) → with_places es (fs ++ gs) ≡ with_places (with_places es fs) gs
with_both es [] gs = refl
with_both es (f ∷ fs) gs = with_both (with_place es f) fs gs

-- what is added one after another are the first places
twice : (p q r : List ℕ × Place → Bool) → ((d : List ℕ × Place) → r d ≡ (q d && p d)) → (ds : List (List ℕ × Place)) → filter r ds ≡ filter p (filter q ds)
twice p q r h [] = refl
twice p q r h (d ∷ ds) = ap (λ b. cond b (d ∷ filter r ds) (filter r ds)) (h d) ∙ by (q d) (twice p q r h ds)
  where
    by : (b : Bool) → filter r ds ≡ filter p (filter q ds) → cond (b && p d) (d ∷ filter r ds) (filter r ds) ≡ filter p (cond b (d ∷ filter q ds) (filter q ds))
    by true later = ap (λ xs. cond (p d) (d ∷ xs) xs) later
    by false later = later

abbrev is-new : List (List ℕ × Place) → List ℕ × Place → Bool
is-new es d = not (has_variable d.0 es)

abbrev is-other : List ℕ × Place → List ℕ × Place → Bool
is-other e d = not (bytes_eq e.0 d.0)

other-too : (es : List (List ℕ × Place)) (f : List ℕ × Place) → has_variable f.0 es ≡ true → (d : List ℕ × Place) → is-new es d ≡ (is-other f d && is-new es d)
other-too es f is d = by (bytes_eq f.0 d.0) refl
  where
    by : (b : Bool) → bytes_eq f.0 d.0 ≡ b → is-new es d ≡ (not b && is-new es d)
    by true same = ap (λ x. not (has_variable x es)) (sym ((bytes_decides f.0 d.0).0 same)) ∙ ap not is
    by false apart = refl

new-and-other : (es : List (List ℕ × Place)) (f d : List ℕ × Place) → is-new (es ++ f ∷ []) d ≡ (is-other f d && is-new es d)
new-and-other es f d =
    ap not (list_any-append (λ e. bytes_eq d.0 e.0) es (f ∷ []) ∙ ap (λ b. has_variable d.0 es || (b || false)) (turned d.0 f.0))
    ∙ by (has_variable d.0 es) (bytes_eq f.0 d.0)
  where
    by : (a b : Bool) → not (a || (b || false)) ≡ (not b && not a)
    by true true = refl
    by true false = refl
    by false true = refl
    by false false = refl

added : (es fs : List (List ℕ × Place)) → with_places es fs ≡ es ++ filter (is-new es) (first_places fs)
added es [] = sym (append-nil es)
added es (f ∷ fs) = by (has_variable f.0 es) refl (λ ds. added ds fs)
  where
    by : (b : Bool) → has_variable f.0 es ≡ b → ((ds : List (List ℕ × Place)) → with_places ds fs ≡ ds ++ filter (is-new ds) (first_places fs))
        → with_places (if b then es else es ++ f ∷ []) fs
        ≡ es ++ cond (not b) (f ∷ filter (is-new es) (filter (is-other f) (first_places fs))) (filter (is-new es) (filter (is-other f) (first_places fs)))
    by true is more = more es ∙ ap (λ ds. es ++ ds) (twice (is-new es) (is-other f) (is-new es) (other-too es f is) (first_places fs))
    by false is more =
        more (es ++ f ∷ [])
        ∙ (append_assoc es (f ∷ []) (filter (is-new (es ++ f ∷ [])) (first_places fs))
        ∙ ap (λ ds. es ++ (f ∷ ds)) (twice (is-new es) (is-other f) (is-new (es ++ f ∷ [])) (new-and-other es f) (first_places fs)))

all-new : (ds : List (List ℕ × Place)) → filter (is-new []) ds ≡ ds
all-new [] = refl
all-new (d ∷ ds) = ap (λ xs. d ∷ xs) (all-new ds)

pub all_added : (fs : List (List ℕ × Place)) → with_places [] fs ≡ first_places fs
all_added fs = added [] fs ∙ all-new (first_places fs)

-- the place of a variable among them is its first
look-others : (x y : List ℕ) (es : List (List ℕ × Place)) → bytes_eq x y ≡ false → lookup (bytes_eq x) (filter (λ d. not (bytes_eq y d.0)) es) ≡ lookup (bytes_eq x) es
look-others x y [] apart = refl
look-others x y (e ∷ es) apart = by (bytes_eq y e.0) refl (look-others x y es apart)
  where
    by : (b : Bool) → bytes_eq y e.0 ≡ b → lookup (bytes_eq x) (filter (λ d. not (bytes_eq y d.0)) es) ≡ lookup (bytes_eq x) es
        → lookup (bytes_eq x) (cond (not b) (e ∷ filter (λ d. not (bytes_eq y d.0)) es) (filter (λ d. not (bytes_eq y d.0)) es))
        ≡ cond (bytes_eq x e.0) (Some e.1) (lookup (bytes_eq x) es)
    by true is later = later ∙ ap (λ t. cond t (Some e.1) (lookup (bytes_eq x) es)) (sym (ap (bytes_eq x) (sym ((bytes_decides y e.0).0 is)) ∙ apart))
    by false is later = ap (λ o. cond (bytes_eq x e.0) (Some e.1) o) later

pub looked_up : (x : List ℕ) (es : List (List ℕ × Place)) → lookup (bytes_eq x) (first_places es) ≡ lookup (bytes_eq x) es
looked_up x [] = refl
looked_up x (e ∷ es) = by (bytes_eq x e.0) refl (looked_up x es)
  where
    by : (b : Bool) → bytes_eq x e.0 ≡ b → lookup (bytes_eq x) (first_places es) ≡ lookup (bytes_eq x) es
        → cond b (Some e.1) (lookup (bytes_eq x) (filter (is-other e) (first_places es))) ≡ cond b (Some e.1) (lookup (bytes_eq x) es)
    by true is later = refl
    by false is later = look-others x e.0 (first_places es) is ∙ later

-- and so it is of each of them
at-first-kept : (e : List ℕ × Place) (es ds : List (List ℕ × Place)) → All (λ d. lookup (bytes_eq d.0) es ≡ Some d.1) ds
    → All (λ d. lookup (bytes_eq d.0) (e ∷ es) ≡ Some d.1) (filter (is-other e) ds)
at-first-kept e es [] h = All-nil (λ d. lookup (bytes_eq d.0) (e ∷ es) ≡ Some d.1)
at-first-kept e es (d ∷ ds) h =
    by (bytes_eq e.0 d.0) refl (All-head (λ c. lookup (bytes_eq c.0) es ≡ Some c.1) d ds h)
    (at-first-kept e es ds (All-tail (λ c. lookup (bytes_eq c.0) es ≡ Some c.1) d ds h))
  where
    by : (b : Bool) → bytes_eq e.0 d.0 ≡ b → lookup (bytes_eq d.0) es ≡ Some d.1 → All (λ c. lookup (bytes_eq c.0) (e ∷ es) ≡ Some c.1) (filter (is-other e) ds)
        → All (λ c. lookup (bytes_eq c.0) (e ∷ es) ≡ Some c.1) (cond (not b) (d ∷ filter (is-other e) ds) (filter (is-other e) ds))
    by true is here later = later
    by false is here later =
        All-cons (λ c. lookup (bytes_eq c.0) (e ∷ es) ≡ Some c.1) d (filter (is-other e) ds)
        (ap (λ t. cond t (Some e.1) (lookup (bytes_eq d.0) es)) (turned d.0 e.0 ∙ is) ∙ here) later

pub at_first : (es : List (List ℕ × Place)) → All (λ d. lookup (bytes_eq d.0) es ≡ Some d.1) (first_places es)
at_first [] = All-nil (λ d. lookup (bytes_eq d.0) [] ≡ Some d.1)
at_first (e ∷ es) =
    All-cons (λ d. lookup (bytes_eq d.0) (e ∷ es) ≡ Some d.1) e (filter (is-other e) (first_places es))
    (ap (λ t. cond t (Some e.1) (lookup (bytes_eq e.0) es)) ((bytes_decides e.0 e.0).1 refl))
    (at-first-kept e es (first_places es) (at_first es))

-- so a variable is found among the places before a check, if its first is one of them
late : (x : List ℕ) (n i : ℕ) (es ds : List (List ℕ × Place)) → All (λ d. lookup (bytes_eq d.0) es ≡ Some d.1) ds → if_before n i (lookup (bytes_eq x) es) ≡ None → if_before n i (lookup (bytes_eq x) ds) ≡ None
late x n i es [] h none = refl
late x n i es (d ∷ ds) h none = by (bytes_eq x d.0) refl (late x n i es ds (All-tail (λ c. lookup (bytes_eq c.0) es ≡ Some c.1) d ds h) none)
  where
    by : (b : Bool) → bytes_eq x d.0 ≡ b → if_before n i (lookup (bytes_eq x) ds) ≡ None → if_before n i (cond b (Some d.1) (lookup (bytes_eq x) ds)) ≡ None
    by true is later =
        ap (if_before n i) (sym (All-head (λ c. lookup (bytes_eq c.0) es ≡ Some c.1) d ds h) ∙ ap (λ y. lookup (bytes_eq y) es) (sym ((bytes_decides x d.0).0 is)))
        ∙ none
    by false is later = later

among-before : (x : List ℕ) (n i : ℕ) (es ds : List (List ℕ × Place)) → All (λ d. lookup (bytes_eq d.0) es ≡ Some d.1) ds
    → lookup (bytes_eq x) (filter (λ d. is_before d.1 n i) ds) ≡ if_before n i (lookup (bytes_eq x) ds)
among-before x n i es [] h = refl
among-before x n i es (d ∷ ds) h =
    by (is_before d.1 n i) (bytes_eq x d.0) refl refl (among-before x n i es ds (All-tail (λ c. lookup (bytes_eq c.0) es ≡ Some c.1) d ds h))
  where
    by : (b t : Bool) → is_before d.1 n i ≡ b → bytes_eq x d.0 ≡ t → lookup (bytes_eq x) (filter (λ c. is_before c.1 n i) ds) ≡ if_before n i (lookup (bytes_eq x) ds)
        → lookup (bytes_eq x) (cond b (d ∷ filter (λ c. is_before c.1 n i) ds) (filter (λ c. is_before c.1 n i) ds)) ≡ if_before n i (cond t (Some d.1) (lookup (bytes_eq x) ds))
    by true true is same later =
        ap (λ u. cond u (Some d.1) (lookup (bytes_eq x) (filter (λ c. is_before c.1 n i) ds))) same
        ∙ sym (ap (λ u. if u then Some d.1 else None) is)
    by true false is same later = ap (λ u. cond u (Some d.1) (lookup (bytes_eq x) (filter (λ c. is_before c.1 n i) ds))) same ∙ later
    by false true is same later =
        later
        ∙ (late x n i es ds (All-tail (λ c. lookup (bytes_eq c.0) es ≡ Some c.1) d ds h)
        (ap (if_before n i) (ap (λ y. lookup (bytes_eq y) es) ((bytes_decides x d.0).0 same) ∙ All-head (λ c. lookup (bytes_eq c.0) es ≡ Some c.1) d ds h)
        ∙ ap (λ u. if u then Some d.1 else None) is)
        ∙ sym (ap (λ u. if u then Some d.1 else None) is))
    by false false is same later = later

pub looked_up_before : (x : List ℕ) (n i : ℕ) (es : List (List ℕ × Place)) → lookup (bytes_eq x) (filter (λ d. is_before d.1 n i) (first_places es)) ≡ if_before n i (lookup (bytes_eq x) es)
looked_up_before x n i es = among-before x n i es (first_places es) (at_first es) ∙ ap (if_before n i) (looked_up x es)

-- a variable that has a place among them has it first
has-first : (x : List ℕ) (n i : ℕ) (es ds : List (List ℕ × Place)) → All (λ d. lookup (bytes_eq d.0) es ≡ Some d.1) ds → has_place x n i ds ≡ true
    → lookup (bytes_eq x) es ≡ Some (record { constraint = n; check = i })
has-first x n i es [] h e = absurd (apart e)
  where
    apart : false ≡ true → ⊥
    apart d = cc
has-first x n i es (d ∷ ds) h e =
    by (nat_eq d.1.constraint n) (nat_eq d.1.check i) (bytes_eq x d.0) refl refl refl (has-first x n i es ds (All-tail (λ c. lookup (bytes_eq c.0) es ≡ Some c.1) d ds h)) e
  where
    by : (a b t : Bool) → nat_eq d.1.constraint n ≡ a → nat_eq d.1.check i ≡ b → bytes_eq x d.0 ≡ t
        → (has_place x n i ds ≡ true → lookup (bytes_eq x) es ≡ Some (record { constraint = n; check = i }))
        → (a && (b && t)) || has_place x n i ds ≡ true → lookup (bytes_eq x) es ≡ Some (record { constraint = n; check = i })
    by true true true here checked same later is =
        ap (λ y. lookup (bytes_eq y) es) ((bytes_decides x d.0).0 same)
        ∙ (All-head (λ c. lookup (bytes_eq c.0) es ≡ Some c.1) d ds h
        ∙ (ap (λ m. Some (record { constraint = m; check = d.1.check })) (eqb-true d.1.constraint n here)
        ∙ ap (λ m. Some (record { constraint = n; check = m })) (eqb-true d.1.check i checked)))
    by true true false here checked same later is = later is
    by true false t here checked same later is = later is
    by false b t here checked same later is = later is

pub is_first_of : (x : List ℕ) (n i : ℕ) (es : List (List ℕ × Place)) → has_place x n i (first_places es) ≡ true → lookup (bytes_eq x) es ≡ Some (record { constraint = n; check = i })
is_first_of x n i es = has-first x n i es (first_places es) (at_first es)

-- their names are the variables, each once
map-others : (x : List ℕ) (es : List (List ℕ × Place)) → map (λ e. e.0) (filter (λ d. not (bytes_eq x d.0)) es) ≡ filter (λ y. not (bytes_eq x y)) (map (λ e. e.0) es)
map-others x [] = refl
map-others x (e ∷ es) = by (bytes_eq x e.0) (map-others x es)
  where
    by : (b : Bool) → map (λ d. d.0) (filter (λ d. not (bytes_eq x d.0)) es) ≡ filter (λ y. not (bytes_eq x y)) (map (λ d. d.0) es)
        → map (λ d. d.0) (cond (not b) (e ∷ filter (λ d. not (bytes_eq x d.0)) es) (filter (λ d. not (bytes_eq x d.0)) es))
        ≡ cond (not b) (e.0 ∷ filter (λ y. not (bytes_eq x y)) (map (λ d. d.0) es)) (filter (λ y. not (bytes_eq x y)) (map (λ d. d.0) es))
    by true later = later
    by false later = ap (λ ys. e.0 ∷ ys) later

pub names_once : (es : List (List ℕ × Place)) → map (λ e. e.0) (first_places es) ≡ each_once (map (λ e. e.0) es)
names_once [] = refl
names_once (e ∷ es) = ap (λ ys. e.0 ∷ ys) (map-others e.0 (first_places es) ∙ ap (filter (λ y. not (bytes_eq e.0 y))) (names_once es))
