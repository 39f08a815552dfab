-- The matches of all rules but one.
use Rattle.std.proofs.Common.{◌≡◌, ◌++◌, ℕ, ◌+◌, Bool, true, false, List, [], ◌∷◌, refl, sym, ap₂, cond, not, nat_eq, ◌∙◌, map}
use Rattle.std.proofs.lemmas.List.Elements.{filter-append}
use Rattle.std.specs.List.{filter, flat_map}
use Rattle.cb_rules.specs.Elements.{Elements}
use Rattle.cb_exprs.specs.Bindings.{Bindings}
use Rattle.cb_facts.specs.FactLists.{IndexedFacts}
use Rattle.cb_matches.specs.Keys.{KeyValue}
use Rattle.cb_matches.specs.Matches.{matches_of}
use Rattle.cb_matches.specs.Networks.{Conditions, Network, all_matches, branch_matches, keyed, rule_matches, without_rule}

-- a test that is the same for all
same_for_all : {A B : Type 0} (p : A → Bool) (b : Bool) (f : B → A) → ((x : B) → p (f x) ≡ b) → (xs : List B) → filter p (map f xs) ≡ cond b (map f xs) []
same_for_all p true f h [] = refl
same_for_all p true f h (x ∷ xs) = rw (h x, same_for_all p true f h xs) refl
same_for_all p false f h [] = refl
same_for_all p false f h (x ∷ xs) = rw (h x) (same_for_all p false f h xs)

joined : {A : Type 0} (b : Bool) (xs ys : List A) → cond b xs [] ++ cond b ys [] ≡ cond b (xs ++ ys) []
joined true xs ys = refl
joined false xs ys = refl

abbrev others : ℕ → KeyValue × Bindings → Bool
others id m = not (nat_eq id m.0.rule)

abbrev nothing : List (KeyValue × Bindings)
nothing = []

none : (b : Bool) → nothing ≡ cond b nothing nothing
none true = refl
none false = refl

of_branches : (id rule n : ℕ) (branches : List Elements) (fs : IndexedFacts) → filter (others id) (branch_matches rule n branches fs) ≡ cond (not (nat_eq id rule)) (branch_matches rule n branches fs) []
of_branches id rule n [] fs = none (not (nat_eq id rule))
of_branches id rule n (es ∷ more) fs =
    filter-append (others id) (map (keyed rule n) (matches_of es fs)) (branch_matches rule (n + 1) more fs)
    ∙ (ap₂ (λ xs ys. xs ++ ys) (same_for_all (others id) (not (nat_eq id rule)) (keyed rule n) (λ _. refl) (matches_of es fs)) (of_branches id rule (n + 1) more fs)
    ∙ joined (not (nat_eq id rule)) (map (keyed rule n) (matches_of es fs)) (branch_matches rule (n + 1) more fs))

first_of : (b : Bool) (fs : IndexedFacts) (r : ℕ × List Elements) (rs : Conditions) → flat_map (rule_matches fs) (cond b (r ∷ rs) rs) ≡ cond b (rule_matches fs r) [] ++ flat_map (rule_matches fs) rs
first_of true fs r rs = refl
first_of false fs r rs = refl

of_rules : (id : ℕ) (rs : Conditions) (fs : IndexedFacts) → flat_map (rule_matches fs) (filter (λ r. not (nat_eq id r.0)) rs) ≡ filter (others id) (flat_map (rule_matches fs) rs)
of_rules id [] fs = refl
of_rules id (r ∷ rs) fs =
    first_of (not (nat_eq id r.0)) fs r (filter (λ r. not (nat_eq id r.0)) rs)
    ∙ (ap₂ (λ xs ys. xs ++ ys) (sym (of_branches id r.0 0 r.1 fs)) (of_rules id rs fs)
    ∙ sym (filter-append (others id) (rule_matches fs r) (flat_map (rule_matches fs) rs)))

pub without_matches : (id : ℕ) (n : Network) → all_matches (without_rule id n) ≡ filter (λ m. not (nat_eq id m.0.rule)) (all_matches n)
without_matches id n = unfold all_matches in of_rules id n.rules n.facts
