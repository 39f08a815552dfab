-- Lists of numbers in a row, and what comes of each.
use Rattle.std.proofs.Common.{arith, ◌≡◌, ◌∙◌, ◌+◌, ◌-◌, ◌<◌, ◌≤◌, List, ℕ, zero, suc, [], ◌∷◌, ◌++◌, ap, refl}
use Rattle.std.proofs.lemmas.Grind.{flat_map-append}
use Rattle.std.proofs.lemmas.List.{append-nil}
use Rattle.std.specs.List.{flat_map}
use Rattle.cb_fit.specs.Ways.{numbers}

pub numbers-split : (n a b k m : ℕ) → k ≡ a + b → m ≡ n + a → numbers n k ≡ numbers n a ++ numbers m b
numbers-split n zero b k m e d = ap (numbers n) (omega arith) ∙ ap (λ x. numbers x b) (omega arith)
numbers-split n (suc a) b zero m e d = absurd (omega arith)
numbers-split n (suc a) b (suc k) m e d = ap (λ xs. n ∷ xs) (numbers-split (n + 1) a b k m (omega arith) (omega arith))

-- where nothing comes of any of them, nothing comes of all
pub nothing-of-all : {X : Type 0} (f : ℕ → List X) (n k : ℕ) → ((i : ℕ) → n ≤ i → i < n + k → f i ≡ []) → flat_map f (numbers n k) ≡ []
nothing-of-all f n zero h = refl
nothing-of-all f n (suc k) h =
    ap (λ xs. xs ++ flat_map f (numbers (n + 1) k)) (h n (omega arith) (omega arith))
    ∙ nothing-of-all f (n + 1) k (λ i a b. h i (omega arith) (omega arith))

-- numbers of which nothing comes may be left out, at both ends
pub at-both-ends : {X : Type 0} (f : ℕ → List X) (least count top : ℕ) → least + count ≤ top
    → ((i : ℕ) → i < least → f i ≡ []) → ((i : ℕ) → least + count ≤ i → i < top → f i ≡ [])
    → flat_map f (numbers 0 top) ≡ flat_map f (numbers least count)
at-both-ends f least count top h before after =
    ap (flat_map f) (numbers-split 0 least (top - least) top least (omega arith) (omega arith))
    ∙ (flat_map-append f (numbers 0 least) (numbers least (top - least))
    ∙ (ap (λ xs. xs ++ flat_map f (numbers least (top - least))) (nothing-of-all f 0 least (λ i a b. before i (omega arith)))
    ∙ (ap (flat_map f) (numbers-split least count (top - least - count) (top - least) (least + count) (omega arith) refl)
    ∙ (flat_map-append f (numbers least count) (numbers (least + count) (top - least - count))
    ∙ (ap (λ xs. flat_map f (numbers least count) ++ xs) (nothing-of-all f (least + count) (top - least - count) (λ i a b. after i a (omega arith)))
    ∙ append-nil (flat_map f (numbers least count)))))))

-- what comes of what comes of each
pub flat-flat : {X Y Z : Type 0} (f : Y → List Z) (g : X → List Y) (xs : List X) → flat_map f (flat_map g xs) ≡ flat_map (λ x. flat_map f (g x)) xs
flat-flat f g [] = refl
flat-flat f g (x ∷ xs) = flat_map-append f (g x) (flat_map g xs) ∙ ap (λ ys. flat_map f (g x) ++ ys) (flat-flat f g xs)

pub flat-same : {X Y : Type 0} (f g : X → List Y) (xs : List X) → ((x : X) → f x ≡ g x) → flat_map f xs ≡ flat_map g xs
flat-same f g [] h = refl
flat-same f g (x ∷ xs) h = ap (λ ys. ys ++ flat_map f xs) (h x) ∙ ap (λ ys. g x ++ ys) (flat-same f g xs h)

-- places from one on, of which so many come first
pub places-split : {X : Type 0} (f : ℕ → List X) (at from to n count more : ℕ) → at ≤ from → from ≤ to → n ≡ to - from → count ≡ n + more
    → flat_map f (numbers (from - at) count) ≡ flat_map f (numbers (from - at) n) ++ flat_map f (numbers (to - at) more)
places-split f at from to n count more a b e d =
    ap (flat_map f) (numbers-split (from - at) n more count (to - at) d (omega arith)) ∙ flat_map-append f (numbers (from - at) n) (numbers (to - at) more)

-- the first place of which something comes, and those after it
pub first_place : {X : Type 0} (f : ℕ → List X) (at from to last : ℕ) (x : X) → at ≤ from → from ≤ to → to ≤ last → flat_map f (numbers (from - at) (to - from)) ≡ [] → flat_map f (numbers (to - at) 1) ≡ x ∷ []
    → flat_map f (numbers (from - at) (last + 1 - from)) ≡ x ∷ flat_map f (numbers (to + 1 - at) (last - to))
first_place f at from to last x a b c e h =
    places-split f at from to (to - from) (last + 1 - from) (last + 1 - to) a b refl (omega arith)
    ∙ (ap (λ xs. xs ++ flat_map f (numbers (to - at) (last + 1 - to))) e
    ∙ (places-split f at to (to + 1) 1 (last + 1 - to) (last - to) (omega arith) (omega arith) (omega arith) (omega arith)
    ∙ ap (λ xs. xs ++ flat_map f (numbers (to + 1 - at) (last - to))) h))

-- nothing comes of one more
pub no_place : {X : Type 0} (f : ℕ → List X) (at from to : ℕ) → at ≤ from → from ≤ to → flat_map f (numbers (from - at) (to - from)) ≡ [] → flat_map f (numbers (to - at) 1) ≡ []
    → flat_map f (numbers (from - at) (to + 1 - from)) ≡ []
no_place f at from to a b e h =
    places-split f at from to (to - from) (to + 1 - from) 1 a b refl (omega arith)
    ∙ (ap (λ xs. xs ++ flat_map f (numbers (to - at) 1)) e ∙ h)

pub no-numbers : {X : Type 0} (f : ℕ → List X) (n k : ℕ) → flat_map f (numbers n (k - k)) ≡ []
no-numbers f n k = ap (λ m. flat_map f (numbers n m)) none
  where
    none : k - k ≡ 0
    none = omega arith
