-- A variable that takes a value has that of its first place.
use Rattle.std.proofs.Common.{arith, ◌≡◌, ◌∙◌, ◌++◌, ◌+◌, ◌<◌, ◌≤◌, ℕ, suc, Bool, true, false, All, List, [], ◌∷◌, Option, None, Some, ap, append-nil, append_assoc, drop, flat_map, length, map, refl, slice_index_or, subst, sym}
use Rattle.std.proofs.lemmas.List.{drop_all, drop_more, map-append}
use Rattle.std.proofs.lemmas.Option.{slice_get-get_or}
use Rattle.std.specs.List.{list_any, slice_get}
use Rattle.std.specs.Map.{lookup}
use Rattle.std.specs.Option.{option_map, option_map_or, option_or}
use Rattle.std.specs.Str.{bytes_eq}
use Rattle.cb_constraints.specs.Binders.{binder, binders, binders_in, binders_of, constraints_in}
use Rattle.cb_constraints.specs.Internal.Places.{first_place, places, places_for, places_of}
use Rattle.cb_constraints.specs.Bound.{each_once, given, given_if, newly_bound}
use Rattle.cb_constraints.specs.Constraints.{Check, Demand, nothing, each, either, Constraint}
use Rattle.cb_constraints.specs.Internal.Tables.{first_places}
use Rattle.cb_constraints.specs.Internal.Known.{given_to_all, bindings_after, bindings_before, taken_if}
use Rattle.cb_constraints.specs.PatternValues.{PatternParts}
use Rattle.cb_constraints.specs.declared.place.Place.{Place}
use Rattle.cb_constraints.proofs.KnownLaws.{after-one, found_at_place, if-so, look-both, look-names, next-places}
use Rattle.cb_constraints.proofs.PlaceLaws.{at_first, names_once}
use Rattle.cb_constraints.proofs.TakenLaws.{taken_before}
use Rattle.cb_exprs.specs.Bindings.{Bindings, value_at}
use Rattle.cb_facts.specs.declared.value.Value.{Value}

-- a place is at one of the constraints
number-of : (p q : Place) → Some p ≡ Some q → p.constraint ≡ q.constraint
number-of p q e = ap (λ o. option_map_or (λ r. r.constraint) o 0) e

none-is : {P : Type 0} (p : Place) → None ≡ Some p → P
none-is p e = absurd (apart e)
  where
    apart : None ≡ Some p → ⊥
    apart d = cc

first-of : (t : List ℕ → Bool) (k : ℕ) (cs : List Check) (p : Place) → lookup t (places_of 0 k cs) ≡ Some p → p.constraint ≡ 0
first-of t k [] p e = none-is p e
first-of t k (c ∷ cs) p e =
    by (list_any t (binder c.negated c.test)) (first-of t (suc k) cs p)
    (sym (look-both t (map (λ x. (x, record { constraint = 0; check = k })) (binder c.negated c.test)) (places_of 0 (suc k) cs)
    ∙ ap (λ o. option_or o (lookup t (places_of 0 (suc k) cs))) (look-names t (record { constraint = 0; check = k }) (binder c.negated c.test)))
    ∙ e)
  where
    by : (b : Bool) → (lookup t (places_of 0 (suc k) cs) ≡ Some p → p.constraint ≡ 0)
        → option_or (if-so b (record { constraint = 0; check = k })) (lookup t (places_of 0 (suc k) cs)) ≡ Some p → p.constraint ≡ 0
    by true later d = sym (number-of (record { constraint = 0; check = k }) p d)
    by false later d = later d

first-for : (t : List ℕ → Bool) (d : Demand) (p : Place) → lookup t (places_for 0 d) ≡ Some p → p.constraint ≡ 0
first-for t nothing p e = none-is p e
first-for t (each cs) p e = first-of t 0 cs p e
first-for t (either None alternatives) p e = none-is p e
first-for t (either (Some x) alternatives) p e =
    by (list_any t (x ∷ [])) (sym (look-names t (record { constraint = 0; check = 0 }) (x ∷ [])) ∙ e)
  where
    by : (b : Bool) → if-so b (record { constraint = 0; check = 0 }) ≡ Some p → p.constraint ≡ 0
    by true d = sym (number-of (record { constraint = 0; check = 0 }) p d)
    by false d = none-is p d

within : (t : List ℕ → Bool) (cs : List Constraint) (p : Place) → lookup t (places 0 cs) ≡ Some p → p.constraint < length cs
within t [] p e = none-is p e
within t (c ∷ cs) p e =
    by (lookup t (places_for 0 c.demand)) (lookup t (places 0 cs)) (first-for t c.demand) (within t cs)
    (sym (look-both t (places_for 0 c.demand) (places 1 cs) ∙ ap (λ o. option_or (lookup t (places_for 0 c.demand)) o) (next-places t 0 cs)) ∙ e)
  where
    by : (o q : Option Place) → ((r : Place) → o ≡ Some r → r.constraint ≡ 0) → ((r : Place) → q ≡ Some r → r.constraint < length cs)
        → option_or o (option_map after-one q) ≡ Some p → p.constraint < suc (length cs)
    by (Some r) q here later d = let is : p.constraint ≡ 0 = sym (number-of r p d) ∙ here r refl in omega arith
    by None None here later d = none-is p d
    by None (Some r) here later d =
        let lt : r.constraint < length cs = later r refl in
        let is : suc r.constraint ≡ p.constraint = number-of (after-one r) p d in omega arith

pub first_within : (x : List ℕ) (cs : List Constraint) (p : Place) → first_place x cs ≡ Some p → p.constraint < length cs
first_within x cs p e = within (bytes_eq x) cs p e

-- where all constraints took a value, a check after the last sees what they left
known-all : (cs : List Constraint) (vs : List Value) (v : Value) (env : Bindings) (i : ℕ) → length cs ≤ length vs → bindings_before cs vs v env i ≡ bindings_after cs vs env
known-all [] vs v env i le = refl
known-all (c ∷ cs) [] v env i le = absurd (omega arith)
known-all (c ∷ cs) (w ∷ ws) v env i le = known-all cs ws v (given_to_all (binders c.demand) w env) i (omega arith)

value-after : (x : List ℕ) (cs : List Constraint) (vs : List Value) (env : Bindings) (p : Place) → length cs ≤ length vs → first_place x cs ≡ Some p → value_at x env.variables ≡ None
    → value_at x (bindings_after cs vs env).variables ≡ slice_get vs p.constraint
value-after x cs [] env p le e none = let lt : p.constraint < length cs = first_within x cs p e in absurd (omega arith)
value-after x cs (w ∷ ws) env p le e none =
    let lt : p.constraint < length cs = first_within x cs p e in
    let less : p.constraint < length (w ∷ ws) = omega arith in
    ap (λ b. value_at x b.variables) (sym (known-all cs (w ∷ ws) w env 0 le))
    ∙ (found_at_place x cs (w ∷ ws) w env 0 none
    ∙ (ap (taken_if (w ∷ ws) w 0) e
    ∙ (taken_before (w ∷ ws) w 0 p.constraint p.check w less
    ∙ sym (slice_get-get_or (w ∷ ws) p.constraint w less))))

pub given_after : (x : List ℕ) (cs : List Constraint) (vs : List Value) (env : Bindings) (p : Place) → length cs ≤ length vs → first_place x cs ≡ Some p
    → given_if x (value_at x env.variables) (slice_get vs p.constraint) ≡ given env (bindings_after cs vs env) x
given_after x cs vs env p le e = by (value_at x env.variables) (value-after x cs vs env p le e)
  where
    by : (o : Option Value) → (o ≡ None → value_at x (bindings_after cs vs env).variables ≡ slice_get vs p.constraint)
        → given_if x o (slice_get vs p.constraint) ≡ given_if x o (value_at x (bindings_after cs vs env).variables)
    by None after = ap (given_if x None) (sym (after refl))
    by (Some w) after = refl

-- the names of the places are the variables
only-names : (p : Place) (xs : List (List ℕ)) → map (λ (e : List ℕ × Place). e.0) (map (λ x. (x, p)) xs) ≡ xs
only-names p [] = refl
only-names p (x ∷ xs) = ap (λ ys. x ∷ ys) (only-names p xs)

names-of : (n k : ℕ) (cs : List Check) → map (λ e. e.0) (places_of n k cs) ≡ binders_of cs
names-of n k [] = refl
names-of n k (c ∷ cs) =
    map-append (λ e. e.0) (map (λ x. (x, record { constraint = n; check = k })) (binder c.negated c.test)) (places_of n (suc k) cs)
    ∙ (ap (λ xs. xs ++ map (λ e. e.0) (places_of n (suc k) cs)) (only-names (record { constraint = n; check = k }) (binder c.negated c.test))
    ∙ ap (λ ys. binder c.negated c.test ++ ys) (names-of n (suc k) cs))

names-for : (n : ℕ) (d : Demand) → map (λ e. e.0) (places_for n d) ≡ binders d
names-for n nothing = refl
names-for n (each cs) = names-of n 0 cs
names-for n (either None alternatives) = refl
names-for n (either (Some x) alternatives) = refl

names-in : (n : ℕ) (cs : List Constraint) → map (λ e. e.0) (places n cs) ≡ binders_in cs
names-in n [] = refl
names-in n (c ∷ cs) =
    map-append (λ e. e.0) (places_for n c.demand) (places (suc n) cs)
    ∙ (ap (λ xs. xs ++ map (λ e. e.0) (places (suc n) cs)) (names-for n c.demand)
    ∙ ap (λ ys. binders c.demand ++ ys) (names-in (suc n) cs))

-- what the variables of a pattern are given is what is newly bound
pub all_given : (parts : PatternParts) (before after : Bindings) (es : List (List ℕ × Place)) → es ≡ first_places (places 0 (constraints_in parts))
    → flat_map (given before after) (map (λ e. e.0) es) ≡ newly_bound parts before after
all_given parts before after es e =
    ap (λ fs. flat_map (given before after) (map (λ f. f.0) fs)) e
    ∙ ap (flat_map (given before after)) (names_once (places 0 (constraints_in parts)) ∙ ap each_once (names-in 0 (constraints_in parts)))

-- in turn, each with its first place
pub at_its_place : (cs : List Constraint) (es : List (List ℕ × Place)) (i : ℕ) (e : List ℕ × Place) → es ≡ first_places (places 0 cs) → i < length es → e ≡ slice_index_or es i e
    → first_place e.0 cs ≡ Some e.1
at_its_place cs es i e is lt at =
    subst (λ d. lookup (bytes_eq d.0) (places 0 cs) ≡ Some d.1) (sym at)
    (let firsts : All (λ d. lookup (bytes_eq d.0) (places 0 cs) ≡ Some d.1) es = subst (All (λ d. lookup (bytes_eq d.0) (places 0 cs) ≡ Some d.1)) (sym is) (at_first (places 0 cs)) in firsts i e lt)

pub given_on : (f : List ℕ → List (List ℕ × Value)) (es : List (List ℕ × Place)) (i : ℕ) (e : List ℕ × Place) (bound more now total : List (List ℕ × Value))
    → i < length es → e ≡ slice_index_or es i e → now ≡ bound ++ more → more ≡ f e.0 → bound ++ flat_map f (map (λ d. d.0) (drop i es)) ≡ total
    → now ++ flat_map f (map (λ d. d.0) (drop (i + 1) es)) ≡ total
given_on f es i e bound more now total lt at grew is begun =
    ap (λ vs. vs ++ flat_map f (map (λ d. d.0) (drop (i + 1) es))) (grew ∙ ap (λ vs. bound ++ vs) is)
    ∙ (append_assoc bound (f e.0) (flat_map f (map (λ d. d.0) (drop (i + 1) es)))
    ∙ (ap (λ ds. bound ++ flat_map f (map (λ d. d.0) ds)) (ap (λ d. d ∷ drop (i + 1) es) at ∙ sym (drop_more es i e lt)) ∙ begun))

pub given_ended : (f : List ℕ → List (List ℕ × Value)) (es : List (List ℕ × Place)) (i : ℕ) (bound total : List (List ℕ × Value))
    → length es ≤ i → bound ++ flat_map f (map (λ d. d.0) (drop i es)) ≡ total → bound ≡ total
given_ended f es i bound total le begun = sym (append-nil bound) ∙ (ap (λ ds. bound ++ flat_map f (map (λ d. d.0) ds)) (sym (drop_all i es le)) ∙ begun)
