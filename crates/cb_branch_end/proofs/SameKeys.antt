-- `==` of keys is equality.
use Rattle.std.proofs.Common.{◌≡◌, ◌∙◌, ◌||◌, ℕ, Bool, true, false, List, [], ◌∷◌, ap, ap₂, inl, inr, is_eq, nat_eq, refl, subst}
use Rattle.std.proofs.lemmas.Bool.Decides.{Decides-eqb}
use Rattle.std.specs.Bool.{Decides}
use Rattle.std.specs.Cmp.Lexicographic.{pointwise, pointwise_decides}
use Rattle.std.specs.List.{list_any}
use Rattle.std.specs.declared.cmp.Ordering.TheVariants.{Equal}
use Rattle.cb_matches.proofs.Lists.{by_test}
use Rattle.cb_matches.specs.Chains.{In}
use Rattle.cb_matches.specs.Internal.KeyLaws.{key_tied}
use Rattle.cb_matches.specs.Keys.{KeyValue, PartValue, key_cmp, key_eq, part_eq}
use Rattle.cb_nodes.proofs.Grown.{and_both, and_first, and_second}
use Rattle.cb_token_lists.proofs.SameParts.{part_Decides}

parts_Decides : (ps qs : List PartValue) → Decides (pointwise part_eq ps qs) (ps ≡ qs)
parts_Decides ps qs = pointwise_decides part_Decides ps qs

make_key : ℕ → ℕ → List PartValue → KeyValue
make_key r b ps = record { rule = r; branch = b; parts = ps }

pub key_Decides : (k l : KeyValue) → Decides (key_eq k l) (k ≡ l)
unfolding make_key
key_Decides k l = (
  λ h. let more = and_second (nat_eq k.rule l.rule) _ h in
      ap₂ (λ (r : ℕ) (it : KeyValue). make_key r it.branch it.parts) ((Decides-eqb _ _).0 (and_first (nat_eq k.rule l.rule) _ h))
      (ap₂ (λ (b : ℕ) (ps : List PartValue). make_key 0 b ps) ((Decides-eqb _ _).0 (and_first (nat_eq k.branch l.branch) _ more)) ((parts_Decides k.parts l.parts).0 (and_second (nat_eq k.branch l.branch) _ more))),
  λ e. and_both (nat_eq k.rule l.rule) _ ((Decides-eqb _ _).1 (ap (λ it. it.rule) e))
      (and_both (nat_eq k.branch l.branch) _ ((Decides-eqb _ _).1 (ap (λ it. it.branch) e)) ((parts_Decides k.parts l.parts).1 (ap (λ it. it.parts) e))),
)

pub equal_keys : (k l : KeyValue) → key_cmp k l ≡ Equal → k ≡ l
equal_keys k l h = (key_Decides k l).0 (key_tied k l ∙ ap is_eq h)

-- a test for one of a list that is equality finds the members
pub any_in : {A : Type 0} (eq : A → A → Bool) → ((a b : A) → Decides (eq a b) (a ≡ b)) → (z : A) (xs : List A) → list_any (eq z) xs ≡ true → In z xs
any_in eq decides z [] h = cc
any_in eq decides z (x ∷ xs) h =
    by_test (eq z x) (λ t. inl ((decides z x).0 t)) (λ t. inr (any_in eq decides z xs (subst (λ b. (b || list_any (eq z) xs) ≡ true) t h)))

or_second : (a b : Bool) → b ≡ true → (a || b) ≡ true
or_second true b h = refl
or_second false b h = h

pub in_any : {A : Type 0} (eq : A → A → Bool) → ((a b : A) → Decides (eq a b) (a ≡ b)) → (z : A) (xs : List A) → In z xs → list_any (eq z) xs ≡ true
in_any eq decides z [] h = absurd h
in_any eq decides z (x ∷ xs) (inl e) = ap (λ b. b || list_any (eq z) xs) ((decides z x).1 e)
in_any eq decides z (x ∷ xs) (inr h) = or_second (eq z x) (list_any (eq z) xs) (in_any eq decides z xs h)
