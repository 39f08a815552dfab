-- What variables have in the course of a test is found by their places.
use Rattle.std.proofs.Common.{arith, ◌≡◌, ◌∙◌, ◌++◌, ◌||◌, ◌<◌, ◌≤◌, ℕ, zero, suc, Bool, true, false, cond, List, [], ◌∷◌, Option, None, Some, ap, length, map, nat_lt, refl, sym, take, if◌then◌else◌}
use Rattle.std.proofs.lemmas.Bool.{le-ltb, lt-ltb, ltb-false, ltb-true}
use Rattle.std.proofs.lemmas.List.Folds.{list_any-append}
use Rattle.std.specs.Cmp.Lexicographic.{bytes_decides}
use Rattle.std.specs.List.{list_any}
use Rattle.std.specs.Map.{lookup}
use Rattle.std.specs.Option.{option_map, option_map_or, option_or}
use Rattle.std.specs.Str.{bytes_eq}
use Rattle.cb_constraints.specs.Binders.{binder, binders, binders_of}
use Rattle.cb_constraints.specs.Internal.Places.{binders_before, first_place, places, places_for, places_of}
use Rattle.cb_constraints.specs.Constraints.{Check, Demand, nothing, each, either, Constraint}
use Rattle.cb_constraints.specs.Internal.Known.{given_to, given_to_all, bindings_before, taken_at, taken_if}
use Rattle.cb_constraints.specs.declared.place.Place.{Place}
use Rattle.cb_exprs.specs.Bindings.{Bindings, value_at, with_variable}
use Rattle.cb_exprs.proofs.ValueLaws.{value_at-with_value}
use Rattle.cb_facts.specs.declared.value.Value.{Value}

or-none : {X : Type 0} (o : Option X) → option_or o None ≡ o
or-none None = refl
or-none (Some x) = refl

or-or : {X : Type 0} (a b c : Option X) → option_or (option_or a b) c ≡ option_or a (option_or b c)
or-or None b c = refl
or-or (Some x) b c = refl

-- a value, if a test says so
abbrev pub if-so : {X : Type 0} → Bool → X → Option X
if-so b v = cond b (Some v) None

if-either : {X : Type 0} (a b : Bool) (v : X) → option_or (if-so a v) (if-so b v) ≡ if-so (a || b) v
if-either true b v = refl
if-either false b v = refl

-- the value of a variable after another was given one
value-given : (y x : List ℕ) (v : Value) (env : Bindings) → value_at y (given_to x v env).variables ≡ option_or (value_at y env.variables) (if-so (bytes_eq y x) v)
value-given y x v env = by (value_at x env.variables) refl
  where
    set : (t : Bool) → (t ≡ true → value_at y env.variables ≡ None) → cond t (Some v) (value_at y env.variables) ≡ option_or (value_at y env.variables) (if-so t v)
    set true none = ap (λ o. option_or o (Some v)) (sym (none refl))
    set false none = sym (or-none (value_at y env.variables))

    kept : (t : Bool) (w : Value) → (t ≡ true → value_at y env.variables ≡ Some w) → value_at y env.variables ≡ option_or (value_at y env.variables) (if-so t v)
    kept true w some = some refl ∙ ap (λ o. option_or o (Some v)) (sym (some refl))
    kept false w some = sym (or-none (value_at y env.variables))

    same : (o : Option Value) → value_at x env.variables ≡ o → bytes_eq y x ≡ true → value_at y env.variables ≡ o
    same o is t = ap (λ z. value_at z env.variables) ((bytes_decides y x).0 t) ∙ is

    by : (o : Option Value) → value_at x env.variables ≡ o → value_at y (option_map_or (λ w. env) o (with_variable x v env)).variables ≡ option_or (value_at y env.variables) (if-so (bytes_eq y x) v)
    by None is = value_at-with_value env.variables y x v ∙ set (bytes_eq y x) (same None is)
    by (Some w) is = kept (bytes_eq y x) w (same (Some w) is)

pub value-all-given : (y : List ℕ) (xs : List (List ℕ)) (v : Value) (env : Bindings)
    → value_at y (given_to_all xs v env).variables ≡ option_or (value_at y env.variables) (if-so (list_any (bytes_eq y) xs) v)
value-all-given y [] v env = sym (or-none (value_at y env.variables))
value-all-given y (x ∷ xs) v env =
    value-all-given y xs v (given_to x v env)
    ∙ (ap (λ o. option_or o (if-so (list_any (bytes_eq y) xs) v)) (value-given y x v env)
    ∙ (or-or (value_at y env.variables) (if-so (bytes_eq y x) v) (if-so (list_any (bytes_eq y) xs) v)
    ∙ ap (λ o. option_or (value_at y env.variables) o) (if-either (bytes_eq y x) (list_any (bytes_eq y) xs) v)))

-- look-ups among places
pub look-both : (t : List ℕ → Bool) (xs ys : List (List ℕ × Place)) → lookup t (xs ++ ys) ≡ option_or (lookup t xs) (lookup t ys)
look-both t [] ys = refl
look-both t (e ∷ es) ys = by (t e.0) (look-both t es ys)
  where
    by : (b : Bool) → lookup t (es ++ ys) ≡ option_or (lookup t es) (lookup t ys) → cond b (Some e.1) (lookup t (es ++ ys)) ≡ option_or (cond b (Some e.1) (lookup t es)) (lookup t ys)
    by true later = refl
    by false later = later

pub look-names : (t : List ℕ → Bool) (p : Place) (xs : List (List ℕ)) → lookup t (map (λ x. (x, p)) xs) ≡ if-so (list_any t xs) p
look-names t p [] = refl
look-names t p (x ∷ xs) = by (t x) (look-names t p xs)
  where
    by : (b : Bool) → lookup t (map (λ y. (y, p)) xs) ≡ if-so (list_any t xs) p → cond b (Some p) (lookup t (map (λ y. (y, p)) xs)) ≡ if-so (b || list_any t xs) p
    by true later = refl
    by false later = later

-- the place of the next constraint, and of the next check
abbrev pub after-one : Place → Place
after-one p = record { constraint = suc p.constraint; check = p.check }

abbrev a-check-on : Place → Place
a-check-on p = record { constraint = p.constraint; check = suc p.check }

moved-names : (f : Place → Place) (p : Place) (xs : List (List ℕ)) (t : List ℕ → Bool) → option_map f (lookup t (map (λ x. (x, p)) xs)) ≡ lookup t (map (λ x. (x, f p)) xs)
moved-names f p [] t = refl
moved-names f p (x ∷ xs) t = by (t x) (moved-names f p xs t)
  where
    by : (b : Bool) → option_map f (lookup t (map (λ y. (y, p)) xs)) ≡ lookup t (map (λ y. (y, f p)) xs) → option_map f (cond b (Some p) (lookup t (map (λ y. (y, p)) xs))) ≡ cond b (Some (f p)) (lookup t (map (λ y. (y, f p)) xs))
    by true later = refl
    by false later = later

or-map : {X Y : Type 0} (f : X → Y) (a b : Option X) → option_map f (option_or a b) ≡ option_or (option_map f a) (option_map f b)
or-map f None b = refl
or-map f (Some x) b = refl

next-checks : (t : List ℕ → Bool) (n k : ℕ) (cs : List Check) → lookup t (places_of n (suc k) cs) ≡ option_map a-check-on (lookup t (places_of n k cs))
next-checks t n k [] = refl
next-checks t n k (c ∷ cs) =
    look-both t (map (λ x. (x, record { constraint = n; check = suc k })) (binder c.negated c.test)) (places_of n (suc (suc k)) cs)
    ∙ (ap (λ o. option_or o (lookup t (places_of n (suc (suc k)) cs))) (sym (moved-names a-check-on (record { constraint = n; check = k }) (binder c.negated c.test) t))
    ∙ (ap (λ o. option_or (option_map a-check-on (lookup t (map (λ x. (x, record { constraint = n; check = k })) (binder c.negated c.test)))) o) (next-checks t n (suc k) cs)
    ∙ (sym (or-map a-check-on (lookup t (map (λ x. (x, record { constraint = n; check = k })) (binder c.negated c.test))) (lookup t (places_of n (suc k) cs)))
    ∙ ap (option_map a-check-on) (sym (look-both t (map (λ x. (x, record { constraint = n; check = k })) (binder c.negated c.test)) (places_of n (suc k) cs))))))

next-of : (t : List ℕ → Bool) (n k : ℕ) (cs : List Check) → lookup t (places_of (suc n) k cs) ≡ option_map after-one (lookup t (places_of n k cs))
next-of t n k [] = refl
next-of t n k (c ∷ cs) =
    look-both t (map (λ x. (x, record { constraint = suc n; check = k })) (binder c.negated c.test)) (places_of (suc n) (suc k) cs)
    ∙ (ap (λ o. option_or o (lookup t (places_of (suc n) (suc k) cs))) (sym (moved-names after-one (record { constraint = n; check = k }) (binder c.negated c.test) t))
    ∙ (ap (λ o. option_or (option_map after-one (lookup t (map (λ x. (x, record { constraint = n; check = k })) (binder c.negated c.test)))) o) (next-of t n (suc k) cs)
    ∙ (sym (or-map after-one (lookup t (map (λ x. (x, record { constraint = n; check = k })) (binder c.negated c.test))) (lookup t (places_of n (suc k) cs)))
    ∙ ap (option_map after-one) (sym (look-both t (map (λ x. (x, record { constraint = n; check = k })) (binder c.negated c.test)) (places_of n (suc k) cs))))))

next-for : (t : List ℕ → Bool) (n : ℕ) (d : Demand) → lookup t (places_for (suc n) d) ≡ option_map after-one (lookup t (places_for n d))
next-for t n nothing = refl
next-for t n (each cs) = next-of t n 0 cs
next-for t n (either None alternatives) = refl
next-for t n (either (Some x) alternatives) = sym (moved-names after-one (record { constraint = n; check = 0 }) (x ∷ []) t)

pub next-places : (t : List ℕ → Bool) (n : ℕ) (cs : List Constraint) → lookup t (places (suc n) cs) ≡ option_map after-one (lookup t (places n cs))
next-places t n [] = refl
next-places t n (c ∷ cs) =
    look-both t (places_for (suc n) c.demand) (places (suc (suc n)) cs)
    ∙ (ap (λ o. option_or o (lookup t (places (suc (suc n)) cs))) (next-for t n c.demand)
    ∙ (ap (λ o. option_or (option_map after-one (lookup t (places_for n c.demand))) o) (next-places t (suc n) cs)
    ∙ (sym (or-map after-one (lookup t (places_for n c.demand)) (lookup t (places (suc n) cs)))
    ∙ ap (option_map after-one) (sym (look-both t (places_for n c.demand) (places (suc n) cs))))))

-- a variable of the constraint that is tested has the value from its check on
before-none : (v : Value) (o : Option Place) → taken_if [] v 0 o ≡ None
before-none v None = refl
before-none v (Some p) = by p.constraint p.check
  where
    by : (m k : ℕ) → taken_at [] v 0 m k ≡ None
    by zero k = ap (λ b. if b then Some v else None) (le-ltb k 0 (omega arith))
    by (suc m) k = refl

one-on : (v : Value) (i : ℕ) (o : Option Place) → taken_if [] v (suc i) (option_map a-check-on o) ≡ taken_if [] v i o
one-on v i None = refl
one-on v i (Some p) = by p.constraint p.check
  where
    less : (k : ℕ) (b : Bool) → nat_lt k i ≡ b → nat_lt (suc k) (suc i) ≡ b
    less k true e = let lt : k < i = ltb-true k i e in lt-ltb (suc k) (suc i) (omega arith)
    less k false e = let le : i ≤ k = ltb-false k i e in le-ltb (suc k) (suc i) (omega arith)

    by : (m k : ℕ) → taken_at [] v (suc i) m (suc k) ≡ taken_at [] v i m k
    by zero k = ap (λ b. if b then Some v else None) (less k (nat_lt k i) refl)
    by (suc m) k = refl

checks-before : (y : List ℕ) (v : Value) (i : ℕ) (cs : List Check) → if-so (list_any (bytes_eq y) (binders_of (take i cs))) v ≡ taken_if [] v i (lookup (bytes_eq y) (places_of 0 0 cs))
checks-before y v zero cs = sym (before-none v (lookup (bytes_eq y) (places_of 0 0 cs)))
checks-before y v (suc i) [] = refl
checks-before y v (suc i) (c ∷ cs) =
    ap (λ b. if-so b v) (list_any-append (bytes_eq y) (binder c.negated c.test) (binders_of (take i cs)))
    ∙ (by (list_any (bytes_eq y) (binder c.negated c.test)) (checks-before y v i cs)
    ∙ ap (taken_if [] v (suc i))
    (sym (look-both (bytes_eq y) (map (λ x. (x, record { constraint = 0; check = 0 })) (binder c.negated c.test)) (places_of 0 1 cs)
    ∙ (ap (λ o. option_or o (lookup (bytes_eq y) (places_of 0 1 cs))) (look-names (bytes_eq y) (record { constraint = 0; check = 0 }) (binder c.negated c.test))
    ∙ ap (λ o. option_or (if-so (list_any (bytes_eq y) (binder c.negated c.test)) (record { constraint = 0; check = 0 })) o) (next-checks (bytes_eq y) 0 0 cs)))))
  where
    by : (b : Bool) → if-so (list_any (bytes_eq y) (binders_of (take i cs))) v ≡ taken_if [] v i (lookup (bytes_eq y) (places_of 0 0 cs))
        → if-so (b || list_any (bytes_eq y) (binders_of (take i cs))) v
        ≡ taken_if [] v (suc i) (option_or (if-so b (record { constraint = 0; check = 0 })) (option_map a-check-on (lookup (bytes_eq y) (places_of 0 0 cs))))
    by true later = sym (ap (λ b. if b then Some v else None) (lt-ltb 0 (suc i) (omega arith)))
    by false later = later ∙ sym (one-on v i (lookup (bytes_eq y) (places_of 0 0 cs)))

apart-before : (y x : List ℕ) (v : Value) (i : ℕ) → if-so (list_any (bytes_eq y) (take i (x ∷ []))) v ≡ taken_if [] v i (lookup (bytes_eq y) ((x, record { constraint = 0; check = 0 }) ∷ []))
apart-before y x v zero = sym (before-none v (lookup (bytes_eq y) ((x, record { constraint = 0; check = 0 }) ∷ [])))
apart-before y x v (suc i) = by (bytes_eq y x)
  where
    by : (b : Bool) → if-so (b || list_any (bytes_eq y) (take i [])) v ≡ taken_if [] v (suc i) (cond b (Some (record { constraint = 0; check = 0 })) None)
    by true = sym (ap (λ b. if b then Some v else None) (lt-ltb 0 (suc i) (omega arith)))
    by false = nothing-left i
      where
        nothing-left : (j : ℕ) → if-so (list_any (bytes_eq y) (take j [])) v ≡ None
        nothing-left zero = refl
        nothing-left (suc j) = refl

demand-before : (y : List ℕ) (v : Value) (i : ℕ) (d : Demand) → if-so (list_any (bytes_eq y) (binders_before i d)) v ≡ taken_if [] v i (lookup (bytes_eq y) (places_for 0 d))
demand-before y v i nothing = refl
demand-before y v i (each cs) = checks-before y v i cs
demand-before y v i (either None alternatives) = refl
demand-before y v i (either (Some x) alternatives) = apart-before y x v i

not-yet : (v : Value) (i : ℕ) (o q : Option Place) → taken_if [] v i o ≡ taken_if [] v i (option_or o (option_map after-one q))
not-yet v i (Some p) q = refl
not-yet v i None None = refl
not-yet v i None (Some p) = refl

-- a variable of an earlier constraint has the value that this one took
checks-took : (y : List ℕ) (w : Value) (ws : List Value) (v : Value) (i k : ℕ) (cs : List Check) (r : Option Place)
    → taken_if (w ∷ ws) v i (option_or (lookup (bytes_eq y) (places_of 0 k cs)) r) ≡ option_or (if-so (list_any (bytes_eq y) (binders_of cs)) w) (taken_if (w ∷ ws) v i r)
checks-took y w ws v i k [] r = refl
checks-took y w ws v i k (c ∷ cs) r =
    ap (λ o. taken_if (w ∷ ws) v i (option_or o r))
    (look-both (bytes_eq y) (map (λ x. (x, record { constraint = 0; check = k })) (binder c.negated c.test)) (places_of 0 (suc k) cs)
    ∙ ap (λ o. option_or o (lookup (bytes_eq y) (places_of 0 (suc k) cs))) (look-names (bytes_eq y) (record { constraint = 0; check = k }) (binder c.negated c.test)))
    ∙ (by (list_any (bytes_eq y) (binder c.negated c.test)) (checks-took y w ws v i (suc k) cs r)
    ∙ ap (λ b. option_or (if-so b w) (taken_if (w ∷ ws) v i r)) (sym (list_any-append (bytes_eq y) (binder c.negated c.test) (binders_of cs))))
  where
    by : (b : Bool)
        → taken_if (w ∷ ws) v i (option_or (lookup (bytes_eq y) (places_of 0 (suc k) cs)) r) ≡ option_or (if-so (list_any (bytes_eq y) (binders_of cs)) w) (taken_if (w ∷ ws) v i r)
        → taken_if (w ∷ ws) v i (option_or (option_or (if-so b (record { constraint = 0; check = k })) (lookup (bytes_eq y) (places_of 0 (suc k) cs))) r)
        ≡ option_or (if-so (b || list_any (bytes_eq y) (binders_of cs)) w) (taken_if (w ∷ ws) v i r)
    by true later = refl
    by false later = later

demand-took : (y : List ℕ) (w : Value) (ws : List Value) (v : Value) (i : ℕ) (d : Demand) (r : Option Place)
    → taken_if (w ∷ ws) v i (option_or (lookup (bytes_eq y) (places_for 0 d)) r) ≡ option_or (if-so (list_any (bytes_eq y) (binders d)) w) (taken_if (w ∷ ws) v i r)
demand-took y w ws v i nothing r = refl
demand-took y w ws v i (each cs) r = checks-took y w ws v i 0 cs r
demand-took y w ws v i (either None alternatives) r = refl
demand-took y w ws v i (either (Some x) alternatives) r = by (bytes_eq y x)
  where
    by : (b : Bool)
        → taken_if (w ∷ ws) v i (option_or (cond b (Some (record { constraint = 0; check = 0 })) None) r)
        ≡ option_or (if-so (b || false) w) (taken_if (w ∷ ws) v i r)
    by true = refl
    by false = refl

took-later : (w : Value) (ws : List Value) (v : Value) (i : ℕ) (q : Option Place) → taken_if (w ∷ ws) v i (option_map after-one q) ≡ taken_if ws v i q
took-later w ws v i None = refl
took-later w ws v i (Some p) = refl

-- the value of a variable is the one that it had, or else that of its place
pub known_value : (y : List ℕ) (cs : List Constraint) (vs : List Value) (v : Value) (env : Bindings) (i : ℕ)
    → value_at y (bindings_before cs vs v env i).variables ≡ option_or (value_at y env.variables) (taken_if vs v i (lookup (bytes_eq y) (places 0 cs)))
known_value y [] vs v env i = sym (or-none (value_at y env.variables))
known_value y (c ∷ cs) [] v env i =
    value-all-given y (binders_before i c.demand) v env
    ∙ ap (λ o. option_or (value_at y env.variables) o)
    (demand-before y v i c.demand
    ∙ (not-yet v i (lookup (bytes_eq y) (places_for 0 c.demand)) (lookup (bytes_eq y) (places 0 cs))
    ∙ ap (taken_if [] v i) (sym (looked-both c cs))))
  where
    looked-both : (c : Constraint) (cs : List Constraint) → lookup (bytes_eq y) (places 0 (c ∷ cs)) ≡ option_or (lookup (bytes_eq y) (places_for 0 c.demand)) (option_map after-one (lookup (bytes_eq y) (places 0 cs)))
    looked-both c cs =
        look-both (bytes_eq y) (places_for 0 c.demand) (places 1 cs)
        ∙ ap (λ o. option_or (lookup (bytes_eq y) (places_for 0 c.demand)) o) (next-places (bytes_eq y) 0 cs)
known_value y (c ∷ cs) (w ∷ ws) v env i =
    known_value y cs ws v (given_to_all (binders c.demand) w env) i
    ∙ (ap (λ o. option_or o (taken_if ws v i (lookup (bytes_eq y) (places 0 cs)))) (value-all-given y (binders c.demand) w env)
    ∙ (or-or (value_at y env.variables) (if-so (list_any (bytes_eq y) (binders c.demand)) w) (taken_if ws v i (lookup (bytes_eq y) (places 0 cs)))
    ∙ ap (λ o. option_or (value_at y env.variables) o)
    (ap (λ o. option_or (if-so (list_any (bytes_eq y) (binders c.demand)) w) o) (sym (took-later w ws v i (lookup (bytes_eq y) (places 0 cs))))
    ∙ (sym (demand-took y w ws v i c.demand (option_map after-one (lookup (bytes_eq y) (places 0 cs))))
    ∙ ap (taken_if (w ∷ ws) v i)
    (sym (look-both (bytes_eq y) (places_for 0 c.demand) (places 1 cs)
    ∙ ap (λ o. option_or (lookup (bytes_eq y) (places_for 0 c.demand)) o) (next-places (bytes_eq y) 0 cs)))))))

pub found_before : (y : List ℕ) (cs : List Constraint) (vs : List Value) (v : Value) (env : Bindings) (i : ℕ) (w : Value)
    → value_at y env.variables ≡ Some w → value_at y (bindings_before cs vs v env i).variables ≡ Some w
found_before y cs vs v env i w e = known_value y cs vs v env i ∙ ap (λ o. option_or o (taken_if vs v i (lookup (bytes_eq y) (places 0 cs)))) e

pub found_at_place : (y : List ℕ) (cs : List Constraint) (vs : List Value) (v : Value) (env : Bindings) (i : ℕ)
    → value_at y env.variables ≡ None → value_at y (bindings_before cs vs v env i).variables ≡ taken_if vs v i (first_place y cs)
found_at_place y cs vs v env i e = known_value y cs vs v env i ∙ ap (λ o. option_or o (taken_if vs v i (lookup (bytes_eq y) (places 0 cs)))) e

-- at its own place it has no other than that which it had
not-itself : (vs : List Value) (v : Value) (i : ℕ) → taken_at vs v i (length vs) i ≡ None
not-itself [] v i = ap (λ b. if b then Some v else None) (le-ltb i i (omega arith))
not-itself (w ∷ ws) v i = not-itself ws v i

pub first_at_place : (y : List ℕ) (cs : List Constraint) (vs : List Value) (v : Value) (env : Bindings) (i : ℕ)
    → first_place y cs ≡ Some (record { constraint = length vs; check = i }) → value_at y (bindings_before cs vs v env i).variables ≡ value_at y env.variables
first_at_place y cs vs v env i e =
    known_value y cs vs v env i
    ∙ (ap (λ o. option_or (value_at y env.variables) o) (ap (taken_if vs v i) e ∙ not-itself vs v i)
    ∙ or-none (value_at y env.variables))

-- globals stay as they are
one-global : (x : List ℕ) (v : Value) (env : Bindings) → (given_to x v env).globals ≡ env.globals
one-global x v env = by (value_at x env.variables)
  where
    by : (o : Option Value) → (option_map_or (λ w. env) o (with_variable x v env)).globals ≡ env.globals
    by None = refl
    by (Some w) = refl

all-globals : (xs : List (List ℕ)) (v : Value) (env : Bindings) → (given_to_all xs v env).globals ≡ env.globals
all-globals [] v env = refl
all-globals (x ∷ xs) v env = all-globals xs v (given_to x v env) ∙ one-global x v env

pub globals_stay : (cs : List Constraint) (vs : List Value) (v : Value) (env : Bindings) (i : ℕ) → (bindings_before cs vs v env i).globals ≡ env.globals
globals_stay [] vs v env i = refl
globals_stay (c ∷ cs) [] v env i = all-globals (binders_before i c.demand) v env
globals_stay (c ∷ cs) (w ∷ ws) v env i = globals_stay cs ws v (given_to_all (binders c.demand) w env) i ∙ all-globals (binders c.demand) w env
