-- Tests whether parts are equal.
use Rattle.std.proofs.Common.{◌≡◌, ℕ, ◌||◌, Bool, true, false, List, [], ◌∷◌, filter, nat_eq, inl, inr, refl, ap, ap₂, cond}
use Rattle.std.proofs.lemmas.Bool.Decides.{Decides-eqb}
use Rattle.std.specs.Bool.{Decides}
use Rattle.std.specs.Cmp.Lexicographic.{pointwise, pointwise_decides}
use Rattle.cb_matches.specs.Chains.{In}
use Rattle.cb_matches.specs.Keys.{PartValue, part_eq}
use Rattle.cb_nodes.proofs.Grown.{and_both, and_first, and_second}

make_part : ℕ → List ℕ → PartValue
make_part ix cuts = record { index = ix; cuts = cuts }

pub part_Decides : (p q : PartValue) → Decides (part_eq p q) (p ≡ q)
unfolding make_part
part_Decides p q = (
  λ h. ap₂ make_part ((Decides-eqb _ _).0 (and_first (nat_eq p.index q.index) _ h)) ((pointwise_decides Decides-eqb p.cuts q.cuts).0 (and_second (nat_eq p.index q.index) _ h)),
  λ e. and_both (nat_eq p.index q.index) (pointwise nat_eq p.cuts q.cuts) ((Decides-eqb _ _).1 (ap (λ it. it.index) e)) ((pointwise_decides Decides-eqb p.cuts q.cuts).1 (ap (λ it. it.cuts) e)),
)

pub parts_Decides : (ps qs : List PartValue) → Decides (pointwise part_eq ps qs) (ps ≡ qs)
parts_Decides ps qs = pointwise_decides part_Decides ps qs

pub or_second : (a b : Bool) → b ≡ true → (a || b) ≡ true
or_second true b h = refl
or_second false b h = h

-- two tests that say the same of each of a list leave the same of it
pub same_test : {A : Type 0} (p q : A → Bool) (xs : List A) → ((x : A) → In x xs → p x ≡ q x) → filter p xs ≡ filter q xs
same_test p q [] h = refl
same_test {A} p q (x ∷ xs) h =
    ap₂ (λ (b : Bool) (rest : List A). cond b (x ∷ rest) rest) (h x (inl refl)) (same_test p q xs (λ z i. h z (inr i)))
