-- What is in a list, by recursion.
use Rattle.std.proofs.Common.{arith, ◌≡◌, ◌⊎◌, ◌+◌, ◌<◌, inl, inr, ℕ, zero, suc, List, [], ◌∷◌, ◌++◌, ap, subst, map, refl, sym}
use Rattle.std.specs.List.{Contains, flat_map}
use Rattle.cb_fit.specs.Ways.{numbers}

abbrev pub Among : {X : Type 0} → X → List X → Type 0
Among x [] = ⊥
Among x (y ∷ ys) = (y ≡ x) ⊎ Among x ys

pub among-left : {X : Type 0} (x : X) (xs ys : List X) → Among x xs → Among x (xs ++ ys)
among-left x [] ys h = absurd h
among-left x (z ∷ zs) ys (inl e) = inl e
among-left x (z ∷ zs) ys (inr h) = inr (among-left x zs ys h)

pub among-right : {X : Type 0} (x : X) (xs ys : List X) → Among x ys → Among x (xs ++ ys)
among-right x [] ys h = h
among-right x (z ∷ zs) ys h = inr (among-right x zs ys h)

later : {X : Type 0} (x z : X) (xs ys : List X) → Among x xs ⊎ Among x ys → Among x (z ∷ xs) ⊎ Among x ys
later x z xs ys (inl h) = inl (inr h)
later x z xs ys (inr h) = inr h

pub among-cases : {X : Type 0} (x : X) (xs ys : List X) → Among x (xs ++ ys) → Among x xs ⊎ Among x ys
among-cases x [] ys h = inr h
among-cases x (z ∷ zs) ys (inl e) = inl (inl e)
among-cases x (z ∷ zs) ys (inr h) = later x z zs ys (among-cases x zs ys h)

pub among-map : {X Y : Type 0} (f : X → Y) (x : X) (xs : List X) → Among x xs → Among (f x) (map f xs)
among-map f x [] h = absurd h
among-map f x (z ∷ zs) (inl e) = inl (ap f e)
among-map f x (z ∷ zs) (inr h) = inr (among-map f x zs h)

pub among-map-back : {X Y : Type 0} (f : X → Y) (y : Y) (xs : List X) → Among y (map f xs) → (x : X) × (f x ≡ y) × Among x xs
among-map-back f y [] h = absurd h
among-map-back f y (z ∷ zs) (inl e) = (z, e, inl refl)
among-map-back f y (z ∷ zs) (inr h) = let w = among-map-back f y zs h in (w.0, w.1, inr w.2)

pub among-flat : {X Y : Type 0} (f : X → List Y) (x : X) (y : Y) (xs : List X) → Among x xs → Among y (f x) → Among y (flat_map f xs)
among-flat f x y [] h i = absurd h
among-flat f x y (z ∷ zs) (inl e) i = among-left y (f z) (flat_map f zs) (subst (λ w. Among y (f w)) (sym e) i)
among-flat f x y (z ∷ zs) (inr h) i = among-right y (f z) (flat_map f zs) (among-flat f x y zs h i)

first-or-later : {X Y : Type 0} (f : X → List Y) (y : Y) (z : X) (zs : List X) → (Among y (flat_map f zs) → (x : X) × Among x zs × Among y (f x))
    → Among y (f z) ⊎ Among y (flat_map f zs) → (x : X) × Among x (z ∷ zs) × Among y (f x)
first-or-later f y z zs later (inl i) = (z, inl refl, i)
first-or-later f y z zs later (inr i) = let w = later i in (w.0, inr w.1, w.2)

pub among-flat-back : {X Y : Type 0} (f : X → List Y) (y : Y) (xs : List X) → Among y (flat_map f xs) → (x : X) × Among x xs × Among y (f x)
among-flat-back f y [] h = absurd h
among-flat-back f y (z ∷ zs) h = first-or-later f y z zs (among-flat-back f y zs) (among-cases y (f z) (flat_map f zs) h)

-- the same as std says it
pub contains-among : {X : Type 0} (x : X) (xs : List X) → Among x xs → Contains xs x
contains-among x [] h = absurd h
contains-among x (z ∷ zs) (inl e) = (zero, omega arith, e)
contains-among x (z ∷ zs) (inr h) = let w = contains-among x zs h in let lt = w.1 in (suc w.0, omega arith, w.2)

pub among-contained : {X : Type 0} (x : X) (xs : List X) → Contains xs x → Among x xs
among-contained x [] (k, lt, e) = absurd (omega arith)
among-contained x (z ∷ zs) (zero, lt, e) = inl e
among-contained x (z ∷ zs) (suc k, lt, e) = inr (among-contained x zs (k, omega arith, e))

-- a number is among those from another on
pub among-numbers : (i n k d : ℕ) → i ≡ n + d → d < k → Among i (numbers n k)
among-numbers i n zero d e h = absurd (omega arith)
among-numbers i n (suc k) zero e h = inl (omega arith)
among-numbers i n (suc k) (suc d) e h = inr (among-numbers i (n + 1) k d (omega arith) (omega arith))

pub numbers-from : (i n k : ℕ) → Among i (numbers n k) → (d : ℕ) × (i ≡ n + d) × (d < k)
numbers-from i n zero h = absurd h
numbers-from i n (suc k) (inl e) = (zero, omega arith, omega arith)
numbers-from i n (suc k) (inr h) = let w = numbers-from i (n + 1) k h in let e = w.1 in let lt = w.2 in (suc w.0, omega arith, omega arith)
