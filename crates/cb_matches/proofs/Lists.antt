-- Members and order of lists.
use Rattle.std.proofs.Common.{◌≡◌, ℕ, ◌<◌, zero, suc, AllPairs, Contains, length, get_or, arith, Bool, true, false, List, [], ◌∷◌, ◌++◌, filter, map, ◌⊎◌, inl, inr, refl, sym, ◌∙◌, ap, ap₂, subst, cond}
use Rattle.std.specs.List.{flat_map}
use Rattle.cb_matches.specs.Chains.{In, Chain}

pub in_left : {A : Type 0} (z : A) (xs ys : List A) → In z xs → In z (xs ++ ys)
in_left z [] ys h = absurd h
in_left z (x ∷ xs) ys (inl e) = inl e
in_left z (x ∷ xs) ys (inr h) = inr (in_left z xs ys h)

pub in_right : {A : Type 0} (z : A) (xs ys : List A) → In z ys → In z (xs ++ ys)
in_right z [] ys h = h
in_right z (x ∷ xs) ys h = inr (in_right z xs ys h)

pub in_either : {A : Type 0} (z : A) (xs ys : List A) → In z (xs ++ ys) → In z xs ⊎ In z ys
in_either z [] ys h = inr h
in_either z (x ∷ xs) ys (inl e) = inl (inl e)
in_either z (x ∷ xs) ys (inr h) = elim (in_either z xs ys h) as (λ _. ((z ≡ x) ⊎ In z xs) ⊎ In z ys) [ inl k ↦ inl (inr k) | inr k ↦ inr k ]

pub in_flat : {A B : Type 0} (f : A → List B) (z : B) (xs : List A) → In z (flat_map f xs) → (x : A) × In x xs × In z (f x)
in_flat f z [] h = absurd h
in_flat {A} f z (x ∷ xs) h =
    elim (in_either z (f x) (flat_map f xs) h) as (λ _. (y : A) × In y (x ∷ xs) × In z (f y)) [
      | inl k ↦ (x, inl refl, k)
      | inr k ↦ let more = in_flat f z xs k in (more.0, inr more.1, more.2)
    ]

pub flat_in : {A B : Type 0} (f : A → List B) (z : B) (xs : List A) (x : A) → In x xs → In z (f x) → In z (flat_map f xs)
flat_in f z [] x h k = absurd h
flat_in f z (y ∷ xs) x (inl e) k = in_left z (f y) (flat_map f xs) (subst (λ it. In z (f it)) e k)
flat_in f z (y ∷ xs) x (inr h) k = in_right z (f y) (flat_map f xs) (flat_in f z xs x h k)

pub in_map : {A B : Type 0} (f : A → B) (z : B) (xs : List A) → In z (map f xs) → (x : A) × In x xs × (z ≡ f x)
in_map f z [] h = absurd h
in_map f z (x ∷ xs) (inl e) = (x, inl refl, e)
in_map f z (x ∷ xs) (inr h) = let more = in_map f z xs h in (more.0, inr more.1, more.2)

pub map_in : {A B : Type 0} (f : A → B) (xs : List A) (x : A) → In x xs → In (f x) (map f xs)
map_in f [] x h = absurd h
map_in f (y ∷ xs) x (inl e) = inl (ap f e)
map_in f (y ∷ xs) x (inr h) = inr (map_in f xs x h)

pub by_test : {P : Type 0} (b : Bool) → (b ≡ true → P) → (b ≡ false → P) → P
by_test true on_true on_false = on_true refl
by_test false on_true on_false = on_false refl

pub in_filter : {A : Type 0} (p : A → Bool) (z : A) (xs : List A) → In z (filter p xs) → In z xs × (p z ≡ true)
in_filter p z [] h = absurd h
in_filter p z (x ∷ xs) h =
    by_test (p x)
    (λ t. let k : In z (x ∷ filter p xs) = subst (λ b. In z (cond b (x ∷ filter p xs) (filter p xs))) t h in
    elim k as (λ _. In z (x ∷ xs) × (p z ≡ true)) [
      | inl e ↦ (inl e, ap p e ∙ t)
      | inr j ↦ let more = in_filter p z xs j in (inr more.0, more.1)
    ])
    (λ t. let k : In z (filter p xs) = subst (λ b. In z (cond b (x ∷ filter p xs) (filter p xs))) t h in
    let more = in_filter p z xs k in (inr more.0, more.1))

pub filter_in : {A : Type 0} (p : A → Bool) (z : A) (xs : List A) → In z xs → p z ≡ true → In z (filter p xs)
filter_in p z [] h t = absurd h
filter_in p z (x ∷ xs) (inl e) t = subst (λ b. In z (cond b (x ∷ filter p xs) (filter p xs))) (sym (sym (ap p e) ∙ t)) (inl e)
filter_in p z (x ∷ xs) (inr h) t =
    by_test (p x)
    (λ s. subst (λ b. In z (cond b (x ∷ filter p xs) (filter p xs))) (sym s) (inr (filter_in p z xs h t)))
    (λ s. subst (λ b. In z (cond b (x ∷ filter p xs) (filter p xs))) (sym s) (filter_in p z xs h t))

pub chain_append : {A : Type 0} (R : A → A → Type 0) (xs ys : List A) → Chain R xs → Chain R ys → ((x y : A) → In x xs → In y ys → R x y) → Chain R (xs ++ ys)
chain_append R [] ys c d across = d
chain_append {A} R (x ∷ xs) ys c d across = (
  λ z h. elim (in_either z xs ys h) as (λ _. R x z) [ inl k ↦ c.0 z k | inr k ↦ across x z (inl refl) k ],
  chain_append R xs ys c.1 d (λ a b h k. across a b (inr h) k),
)

pub chain_flat : {A B : Type 0} (R : A → A → Type 0) (S : B → B → Type 0) (f : A → List B) (xs : List A) → Chain R xs
    → ((x : A) → In x xs → Chain S (f x)) → ((x y : A) (u v : B) → R x y → In u (f x) → In v (f y) → S u v) → Chain S (flat_map f xs)
chain_flat R S f [] c each across = tt
chain_flat R S f (x ∷ xs) c each across =
    chain_append S (f x) (flat_map f xs) (each x (inl refl)) (chain_flat R S f xs c.1 (λ y h. each y (inr h)) across)
    (λ u v h k. let from = in_flat f v xs k in across x from.0 u v (c.0 from.0 from.1) h from.2)

pub chain_map : {A B : Type 0} (R : A → A → Type 0) (S : B → B → Type 0) (f : A → B) (xs : List A) → Chain R xs
    → ((x y : A) → R x y → S (f x) (f y)) → Chain S (map f xs)
chain_map R S f [] c across = tt
chain_map R S f (x ∷ xs) c across = (
  λ z h. let from = in_map f z xs h in subst (λ it. S (f x) it) (sym from.2) (across x from.0 (c.0 from.0 from.1)),
  chain_map R S f xs c.1 across,
)

pub chain_filter : {A : Type 0} (R : A → A → Type 0) (p : A → Bool) (xs : List A) → Chain R xs → Chain R (filter p xs)
chain_filter R p [] c = tt
chain_filter R p (x ∷ xs) c =
    elim (p x) as (λ b. Chain R (cond b (x ∷ filter p xs) (filter p xs))) [
      | true ↦ (λ z h. c.0 z (in_filter p z xs h).0, chain_filter R p xs c.1)
      | false ↦ chain_filter R p xs c.1
    ]

-- two chains of a strict order with the same members are one list
pub one_chain : {A : Type 0} (R : A → A → Type 0) → ((x : A) → R x x → ⊥) → ((x y z : A) → R x y → R y z → R x z)
    → (xs ys : List A) → Chain R xs → Chain R ys → ((z : A) → In z xs → In z ys) → ((z : A) → In z ys → In z xs) → xs ≡ ys
one_chain R irr trans [] [] c d to from = refl
one_chain R irr trans [] (y ∷ ys) c d to from = absurd (from y (inl refl))
one_chain R irr trans (x ∷ xs) [] c d to from = absurd (to x (inl refl))
one_chain {A} R irr trans (x ∷ xs) (y ∷ ys) c d to from =
    let e : x ≡ y = elim (to x (inl refl)) as (λ _. x ≡ y) [
      | inl e ↦ e
      | inr h ↦ elim (from y (inl refl)) as (λ _. x ≡ y) [ inl e ↦ sym e | inr k ↦ absurd (irr x (trans x y x (c.0 y k) (d.0 x h))) ]
    ] in
    ap₂ (λ (a : A) (as' : List A). a ∷ as') e (one_chain R irr trans xs ys c.1 d.1
    (λ z h. elim (to z (inr h)) as (λ _. In z ys) [ inl k ↦ absurd (irr x (subst (λ it. R x it) (k ∙ sym e) (c.0 z h))) | inr k ↦ k ])
    (λ z h. elim (from z (inr h)) as (λ _. In z xs) [ inl k ↦ absurd (irr y (subst (λ it. R y it) (k ∙ e) (d.0 z h))) | inr k ↦ k ]))

-- a chain of one relation is one of each that follows from it
pub chain_weaker : {A : Type 0} (R S : A → A → Type 0) → ((x y : A) → R x y → S x y) → (xs : List A) → Chain R xs → Chain S xs
chain_weaker R S h [] c = tt
chain_weaker R S h (x ∷ xs) c = (λ z k. h x z (c.0 z k), chain_weaker R S h xs c.1)

-- of a chain of a symmetric relation any two members are one, or stand so
pub chain_compares : {A : Type 0} (R : A → A → Type 0) → (xs : List A) → Chain R xs → (x y : A) → In x xs → In y xs → (x ≡ y) ⊎ (R x y ⊎ R y x)
chain_compares R [] c x y h k = absurd h
chain_compares R (z ∷ zs) c x y (inl h) (inl k) = inl (h ∙ sym k)
chain_compares R (z ∷ zs) c x y (inl h) (inr k) = inr (inl (subst (λ it. R it y) (sym h) (c.0 y k)))
chain_compares R (z ∷ zs) c x y (inr h) (inl k) = inr (inr (subst (λ it. R it x) (sym k) (c.0 x h)))
chain_compares R (z ∷ zs) c x y (inr h) (inr k) = chain_compares R zs c.1 x y h k

-- where a member stands
pub place_of : {A : Type 0} (z : A) (xs : List A) → In z xs → (i : ℕ) × (i < length xs) × ((d : A) → get_or xs i d ≡ z)
place_of z [] h = absurd h
place_of z (x ∷ xs) (inl e) = (0, omega (arith), λ d. sym e)
place_of z (x ∷ xs) (inr h) = let more = place_of z xs h in (suc more.0, let l = more.1 in omega (arith, l), more.2)

-- the relation from the one by places
pub chain_from_pairs : {A : Type 0} (R : A → A → Type 0) → (xs : List A) → AllPairs R xs → Chain R xs
chain_from_pairs R [] h = tt
chain_from_pairs {A} R (x ∷ xs) h = (
  λ z k. let at = place_of z xs k in
      subst (λ it. R x it) (at.2 z) (h 0 (suc at.0) z (omega (arith)) (let l = at.1 in omega (arith, l))),
  chain_from_pairs R xs (λ i j d l m. h (suc i) (suc j) d (omega (arith, l)) (omega (arith, m))),
)

pub in_at : {A : Type 0} (xs : List A) (i : ℕ) (d : A) → i < length xs → In (get_or xs i d) xs
in_at [] i d h = absurd (omega (arith, h))
in_at (x ∷ xs) zero d h = inl refl
in_at (x ∷ xs) (suc i) d h = inr (in_at xs i d (omega (arith, h)))

-- a member by its place
pub in_contains : {A : Type 0} (z : A) (xs : List A) → In z xs → Contains xs z
in_contains z xs h = let at = place_of z xs h in (at.0, at.1, at.2 z)

pub contains_in : {A : Type 0} (z : A) (xs : List A) → Contains xs z → In z xs
contains_in z xs h = subst (λ it. In it xs) h.2 (in_at xs h.0 z h.1)

-- the relation by places from the one by members
pub pairs_from_chain : {A : Type 0} (R : A → A → Type 0) → (xs : List A) → Chain R xs → AllPairs R xs
pairs_from_chain R [] c i j d l m = absurd (omega (arith, m))
pairs_from_chain R (x ∷ xs) c zero zero d l m = absurd (omega (arith, l))
pairs_from_chain R (x ∷ xs) c zero (suc j) d l m = c.0 (get_or xs j d) (in_at xs j d (omega (arith, m)))
pairs_from_chain R (x ∷ xs) c (suc i) zero d l m = absurd (omega (arith, l))
pairs_from_chain R (x ∷ xs) c (suc i) (suc j) d l m = pairs_from_chain R xs c.1 i j d (omega (arith, l)) (omega (arith, m))
