-- Entries in rising order of their numbers, as facts by their indices are, and looking one up.
use Rattle.std.proofs.Common.{◌≡◌, ℕ, ◌<◌, true, List, [], ◌∷◌, Some, map, inl, inr, sym, ◌∙◌, ap, ap₂, arith}
use Rattle.std.proofs.lemmas.Bool.{eqb-true, eq-eqb, false_from_ne_true}
use Rattle.std.proofs.lemmas.Map.Entries.{lookup_head, lookup_tail}
use Rattle.std.proofs.lemmas.Map.Keys.{below_from_sorted}
use Rattle.std.specs.BTreeMap.{is_at}
use Rattle.std.specs.Cmp.{unsigned_tied}
use Rattle.std.specs.List.Sorted.{IsStrictlySortedBy}
use Rattle.std.specs.Map.{keys_of, lookup}
use Rattle.std.specs.Ordering.{nat_cmp}
use Rattle.cb_matches.proofs.Lists.{by_test, chain_from_pairs, map_in}
use Rattle.cb_matches.specs.Chains.{Chain, In}

chain_of_map : {A B : Type 0} (R : B → B → Type 0) (f : A → B) (xs : List A) → Chain R (map f xs) → Chain (λ (x : A) (y : A). R (f x) (f y)) xs
chain_of_map R f [] c = tt
chain_of_map R f (x ∷ xs) c = (λ z h. c.0 (f z) (map_in f xs z h), chain_of_map R f xs c.1)

-- the numbers rise
abbrev pub AreRising : {X : Type 0} → List (ℕ × X) → Type 0
AreRising {X} xs = Chain (λ (x : ℕ × X) (y : ℕ × X). x.0 < y.0) xs

pub rising_keys : {X : Type 0} (xs : List (ℕ × X)) → IsStrictlySortedBy nat_cmp (keys_of xs) → AreRising xs
rising_keys {X} xs sorted =
    chain_of_map (λ (i : ℕ) (j : ℕ). i < j) (λ (x : ℕ × X). x.0) xs (chain_from_pairs (λ (i : ℕ) (j : ℕ). i < j) (keys_of xs) (λ i j d l m. below_from_sorted (keys_of xs) i j d sorted l m))

at_number : (i j : ℕ) → is_at (nat_cmp i) j ≡ true → i ≡ j
at_number i j h = eqb-true i j (sym (unsigned_tied i j) ∙ h)

is_at_number : (i j : ℕ) → i ≡ j → is_at (nat_cmp i) j ≡ true
is_at_number i j h = unsigned_tied i j ∙ eq-eqb i j h

-- what is looked up is there
pub looked_in : {X : Type 0} (xs : List (ℕ × X)) (i : ℕ) (x : X) → lookup (is_at (nat_cmp i)) xs ≡ Some x → In (i, x) xs
looked_in [] i x h = cc
looked_in {X} (y ∷ ys) i x h =
    by_test (is_at (nat_cmp i) y.0)
    (λ t. let same : Some y.1 ≡ Some x = sym (lookup_head (is_at (nat_cmp i)) y ys t) ∙ h in
    let value : y.1 ≡ x = cc in
    inl (ap₂ (λ (n : ℕ) (v : X). (n, v)) (at_number i y.0 t) (sym value)))
    (λ t. inr (looked_in ys i x (sym (lookup_tail (is_at (nat_cmp i)) y ys t) ∙ h)))

-- and what is there is found
pub in_looked : {X : Type 0} (xs : List (ℕ × X)) → AreRising xs → (x : ℕ × X) → In x xs → lookup (is_at (nat_cmp x.0)) xs ≡ Some x.1
in_looked [] rising x h = absurd h
in_looked (y ∷ ys) rising x (inl h) = lookup_head (is_at (nat_cmp x.0)) y ys (is_at_number x.0 y.0 (ap (λ it. it.0) h)) ∙ ap (λ it. Some it.1) (sym h)
in_looked (y ∷ ys) rising x (inr h) =
    lookup_tail (is_at (nat_cmp x.0)) y ys (false_from_ne_true (is_at (nat_cmp x.0) y.0) (λ t. let e : x.0 ≡ y.0 = at_number x.0 y.0 t in let l : y.0 < x.0 = rising.0 x h in absurd (omega (arith, e, l))))
    ∙ in_looked ys rising.1 x h
