-- Tests of all members of a list, names among others, and lists with one member.
use Rattle.std.proofs.Common.{arith, ◌≡◌, ◌≢◌, ◌∙◌, ◌&&◌, ◌||◌, ◌++◌, ℕ, zero, suc, Bool, true, false, Contains, List, [], ◌∷◌, Option, Some, None, ap, ap₂, refl, sym}
use Rattle.std.proofs.lemmas.Bool.{and_from, and_parts}
use Rattle.std.proofs.lemmas.List.Folds.{list_all-append, list_any-append}
use Rattle.std.specs.Cmp.Lexicographic.{slice_cmp}
use Rattle.std.specs.List.{AllPairs, flat_map, list_all}
use Rattle.std.specs.Option.{option_and_then}
use Rattle.std.specs.Ordering.{nat_cmp}
use Rattle.std.specs.Str.{bytes_eq}
use Rattle.std.specs.declared.cmp.Ordering.TheVariants.{Less}
use Rattle.cb_fit.specs.Plain.{is_named}

-- what holds of each member holds of all
pub all_pass : {X : Type 0} (t : X → Bool) (xs : List X) → ((x : X) → Contains xs x → t x ≡ true) → list_all t xs ≡ true
all_pass t [] h = refl
all_pass t (x ∷ xs) h = and_from (t x) (list_all t xs) (h x (zero, omega arith, refl)) (all_pass t xs (λ y i. h y (let lt = i.1 in (suc i.0, omega arith, i.2))))

pub one_passes : {X : Type 0} (t : X → Bool) (xs : List X) (x : X) → list_all t xs ≡ true → Contains xs x → t x ≡ true
one_passes t [] x e (k, lt, is) = absurd (omega arith)
one_passes t (y ∷ ys) x e (zero, lt, is) = ap t (sym is) ∙ (and_parts (t y) (list_all t ys) e).0
one_passes t (y ∷ ys) x e (suc k, lt, is) = one_passes t ys x (and_parts (t y) (list_all t ys) e).1 (k, omega arith, is)

pub all_of_flat : {X Y : Type 0} (t : Y → Bool) (f : X → List Y) (xs : List X) → list_all t (flat_map f xs) ≡ list_all (λ x. list_all t (f x)) xs
all_of_flat t f [] = refl
all_of_flat t f (x ∷ xs) = list_all-append t (f x) (flat_map f xs) ∙ ap (λ b. list_all t (f x) && b) (all_of_flat t f xs)

-- a list of which each member is this one, which has it and in which one is always less than those behind it
pub only_this : {X : Type 0} (cuts : X → List ℕ) (x : X) (xs : List X) → Contains xs x → ((y : X) → Contains xs y → y ≡ x) → AllPairs (λ v w. slice_cmp nat_cmp (cuts v) (cuts w) ≡ Less) xs
    → (slice_cmp nat_cmp (cuts x) (cuts x) ≢ Less) → xs ≡ x ∷ []
only_this cuts x [] (k, lt, is) all rise same = absurd (omega arith)
only_this cuts x (y ∷ []) i all rise same = ap (λ z. z ∷ []) (all y (zero, omega arith, refl))
only_this cuts x (y ∷ z ∷ zs) i all rise same =
    absurd (same (sym (ap₂ (λ a b. slice_cmp nat_cmp (cuts a) (cuts b)) (all y (zero, omega arith, refl)) (all z (1, omega arith, refl))) ∙ rise 0 1 x (omega arith) (omega arith)))

-- what follows something that is there
pub then_some : {X Y : Type 0} (next : X → Option Y) (o : Option X) (y : Y) → option_and_then next o ≡ Some y → (x : X) × (o ≡ Some x) × (next x ≡ Some y)
then_some next None y e = absurd (cc)
then_some next (Some x) y e = (x, refl, e)

-- names
pub named_append : (y : List ℕ) (xs ys : List (List ℕ)) → is_named y (xs ++ ys) ≡ is_named y xs || is_named y ys
named_append y xs ys = list_any-append (bytes_eq y) xs ys

pub in_front : (y : List ℕ) (xs ys : List (List ℕ)) → is_named y xs ≡ true → is_named y (xs ++ ys) ≡ true
in_front y xs ys e = named_append y xs ys ∙ ap (λ b. b || is_named y ys) e

pub behind : (y : List ℕ) (xs ys : List (List ℕ)) → is_named y ys ≡ true → is_named y (xs ++ ys) ≡ true
behind y xs ys e = named_append y xs ys ∙ (ap (λ b. is_named y xs || b) e ∙ or_true (is_named y xs))
  where
    or_true : (b : Bool) → b || true ≡ true
    or_true true = refl
    or_true false = refl
